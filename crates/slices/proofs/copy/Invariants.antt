-- `slices::copy` meets its contract: the slice holds the entries at the places passed. Assumes nothing.
use Rattle.std.proofs.Common.{◌≡◌}
use Rattle.integers.specs.Lists.{half}
use Rattle.slices.proofs.copy.Given as goal

abbrev pub invariant-loop-i : goal.invariant-loop-i
invariant-loop-i l = l.to ≡ half l.from l.initial.to l.i
