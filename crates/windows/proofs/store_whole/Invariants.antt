-- `windows::store_whole` meets its contract. Assumes nothing.
use mathlib.Core.Path.{◌≡◌}
use Prim.Native.Nat.{ℕ, ◌+◌, ◌*◌, ◌/◌, ◌<◌, ◌≤◌}
use lib.ListN.{length}
use Rattle.pyramid.specs.Plane.{Image}
use Rattle.pyramid.specs.Behind.{block_list}
use Rattle.windows.specs.Shown.{rounded, Shown, Kept}
use Rattle.windows.proofs.store_whole.Given as goal

-- the first c columns are stored
abbrev pub invariant-loop-c : goal.invariant-loop-c
invariant-loop-c l =
    (l.c ≤ 4) × (length l.samples ≡ length l.initial.samples)
    × ((A : Image) → l.values ≡ block_list A l.i l.j → Kept l.v (rounded l.levels A) l.initial.samples l.samples × ((a : ℕ) → a < l.c → (y : ℕ) → y / 4 ≡ l.i → Shown l.v (rounded l.levels A) l.samples y (l.j * 4 + a)))
