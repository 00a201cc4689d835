-- `windows::store_part` meets its contract. Assumes nothing.
use mathlib.Core.Path.{◌≡◌}
use Prim.Native.Nat.{ℕ, ◌*◌, ◌/◌, ◌<◌, ◌≤◌}
use lib.ListN.{length}
use Rattle.pyramid.specs.Plane.{Image}
use Rattle.pyramid.specs.Behind.{block_list}
use Rattle.windows.specs.Shown.{rounded, Shown, Kept}
use Rattle.windows.proofs.store_part.Given as goal

abbrev pub invariant-loop-x : goal.invariant-loop-x
invariant-loop-x l =
    (l.j * 4 ≤ l.x) × (l.v.left ≤ l.x) × (length l.samples ≡ length l.initial.samples)
    × ((A : Image) → l.values ≡ block_list A l.i l.j → Kept l.v (rounded l.levels A) l.initial.samples l.samples × ((r : ℕ) → r < l.x → r / 4 ≡ l.j → (y : ℕ) → y / 4 ≡ l.i → Shown l.v (rounded l.levels A) l.samples y r))
