-- `slices::widen` meets its contract: the slice holds the samples at the places passed. Assumes nothing.
use Rattle.std.proofs.Common.{◌≡◌, map, pos}
use Rattle.integers.specs.Lists.{half}
use Rattle.slices.proofs.widen.Given as goal

abbrev pub invariant-loop-i : goal.invariant-loop-i
invariant-loop-i l = l.to ≡ half (map pos l.from) l.initial.to l.i
