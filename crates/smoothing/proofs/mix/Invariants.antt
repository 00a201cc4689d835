-- `smoothing::mix` meets its contract. Assumes nothing.
use mathlib.Core.Path.{◌≡◌}
use Prim.Native.Nat.{◌*◌}
use Rattle.integers.specs.Lists.{half}
use Rattle.smoothing.specs.Mixed.{mixed_of}
use Rattle.smoothing.proofs.mix.Given as goal

abbrev pub invariant-loop-col : goal.invariant-loop-col
invariant-loop-col l =
    l.out ≡ half (mixed_of l.levels l.height l.width l.step l.plane l.decomposed) l.initial.out (l.col * l.height)
