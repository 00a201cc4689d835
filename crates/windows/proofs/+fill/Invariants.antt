-- `windows::fill` meets its contract: the measure is the block's level. Assumes nothing.
use Prim.Native.Nat.{ℕ, ◌+◌, ◌*◌, ◌-◌, ◌/◌, ◌%◌, ◌<◌, ◌≤◌}
use Rattle.blockwise.specs.Cells.{AllIn}
use Rattle.windows.specs.Shown.{sample_at, Shown, Kept}
use Rattle.windows.proofs.+fill.Given as goal

abbrev pub decreases-fill : goal.decreases-fill
decreases-fill l = l.k.level

-- the blocks below that were looked at are filled
abbrev pub invariant-loop-q : goal.invariant-loop-q
invariant-loop-q l =
    (l.q ≤ 4) × Kept l.v (sample_at l.k.levels l.k.height l.k.width l.coverings l.plane) l.initial.samples l.samples
    × ((p : ℕ) → p < l.q → AllIn (l.k.level - 1 - 1) (Shown l.v (sample_at l.k.levels l.k.height l.k.width l.coverings l.plane) l.samples) (l.k.i * 2 + p % 2) (l.k.j * 2 + p / 2))
