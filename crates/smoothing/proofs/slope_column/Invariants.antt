-- `smoothing::slope_column` meets its contract. Assumes nothing.
use mathlib.Core.Path.{◌≡◌}
use mathlib.Core.List.{List}
use Prim.Native.Nat.{◌+◌, ◌*◌}
use lib.IntN.{ℤ}
use lib.ListN.{length}
use Rattle.integers.specs.Lists.{half}
use Rattle.smoothing.specs.Mixed.{gradient_of}
use Rattle.smoothing.proofs.slope_column.Given as goal

abbrev pub invariant-loop-row : goal.invariant-loop-row
invariant-loop-row l =
    (old : List ℤ) → length old ≡ l.width * l.height → l.initial.out ≡ half (gradient_of l.height l.width l.values) old (l.col * l.height) → l.out ≡ half (gradient_of l.height l.width l.values) old (l.col * l.height + l.row)
