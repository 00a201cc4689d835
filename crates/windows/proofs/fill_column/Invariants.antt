-- `windows::fill_column` meets its contract. Assumes nothing.
use Prim.Native.Nat.{ℕ, ◌-◌, ◌/◌, ◌<◌, ◌≤◌}
use Rattle.pyramid.specs.Plane.{halved}
use Rattle.blockwise.specs.Cells.{AllIn}
use Rattle.windows.specs.Shown.{sample_at, Shown, Kept}
use Rattle.windows.proofs.fill_column.Given as goal

abbrev pub invariant-loop-i : goal.invariant-loop-i
invariant-loop-i l =
    Kept l.v (sample_at l.levels l.height l.width l.coverings l.plane) l.initial.samples l.samples
    × ((p : ℕ) → p < l.i → halved (l.levels - 1) (l.v.top / 4) ≤ p → AllIn (l.levels - 1) (Shown l.v (sample_at l.levels l.height l.width l.coverings l.plane) l.samples) p l.j)
