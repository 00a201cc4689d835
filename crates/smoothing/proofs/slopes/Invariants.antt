-- `smoothing::slopes` meets its contract. Assumes nothing.
use mathlib.Core.Path.{◌≡◌}
use mathlib.Core.List.{List}
use Prim.Native.Nat.{◌*◌}
use lib.IntN.{ℤ}
use lib.ListN.{length}
use Rattle.integers.specs.Lists.{half}
use Rattle.smoothing.specs.Mixed.{gradient_of}
use Rattle.smoothing.proofs.slopes.Given as goal

abbrev pub invariant-loop-col : goal.invariant-loop-col
invariant-loop-col l =
    (old : List ℤ) × (length old ≡ l.width * l.height) × (l.out ≡ half (gradient_of l.height l.width l.values) old (l.col * l.height))
