-- `masters::column_whole` meets its contract. Assumes nothing.
use Prim.Native.Nat.{ℕ, ◌-◌, ◌/◌, ◌<◌, ◌≤◌}
use Rattle.blockwise.specs.Cells.{AllIn}
use Rattle.masters.specs.Cells.{WholeCell}
use Rattle.masters.proofs.column_whole.Given as goal

-- the blocks that were looked at are whole
abbrev pub invariant-loop-i : goal.invariant-loop-i
invariant-loop-i l = (l.i ≤ l.tall / 4) × ((p : ℕ) → p < l.i → AllIn (l.levels - 1) (WholeCell l.levels l.height l.width l.coverings l.plane) p l.j)
