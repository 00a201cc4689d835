-- `windows::store_column` meets its contract. Assumes nothing.
use mathlib.Core.Path.{◌≡◌}
use Prim.Native.Nat.{ℕ, ◌*◌, ◌/◌, ◌<◌, ◌≤◌}
use lib.ListN.{length}
use Rattle.pyramid.specs.Plane.{Image}
use Rattle.pyramid.specs.Behind.{block_list}
use Rattle.windows.specs.Shown.{rounded, Shown, Kept}
use Rattle.windows.proofs.store_column.Given as goal

abbrev pub invariant-loop-y : goal.invariant-loop-y
invariant-loop-y l =
    (l.i * 4 ≤ l.y) × (l.v.top ≤ l.y) × (length l.samples ≡ length l.initial.samples)
    × ((A : Image) → l.values ≡ block_list A l.i (l.x / 4) → Kept l.v (rounded l.levels A) l.initial.samples l.samples × ((r : ℕ) → r < l.y → r / 4 ≡ l.i → Shown l.v (rounded l.levels A) l.samples r l.x))
