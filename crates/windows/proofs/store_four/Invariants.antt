-- `windows::store_four` meets its contract. Assumes nothing.
use mathlib.Core.Path.{◌≡◌}
use Prim.Native.Nat.{ℕ, ◌+◌, ◌*◌, ◌/◌, ◌<◌, ◌≤◌}
use lib.ListN.{length}
use Rattle.pyramid.specs.Plane.{Image}
use Rattle.pyramid.specs.Behind.{block_list}
use Rattle.windows.specs.Shown.{rounded, Shown, Kept}
use Rattle.windows.proofs.store_four.Given as goal

-- the first r rows are stored
abbrev pub invariant-loop-r : goal.invariant-loop-r
invariant-loop-r l =
    (l.r ≤ 4) × (length l.samples ≡ length l.initial.samples)
    × ((A : Image) → l.values ≡ block_list A l.i (l.x / 4) → Kept l.v (rounded l.levels A) l.initial.samples l.samples × ((a : ℕ) → a < l.r → Shown l.v (rounded l.levels A) l.samples (l.i * 4 + a) l.x))
