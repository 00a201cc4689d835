-- `masters::all_whole` meets its contract. Assumes nothing.
use Prim.Native.Nat.{ℕ, ◌-◌, ◌/◌, ◌<◌, ◌≤◌}
use Rattle.masters.specs.Cells.{WholeCell, AllAlong}
use Rattle.masters.proofs.all_whole.Given as goal

-- the block columns that were looked at are whole
abbrev pub invariant-loop-j : goal.invariant-loop-j
invariant-loop-j l = (l.j ≤ l.wide / 4) × ((p : ℕ) → p < l.j → AllAlong (l.levels - 1) (WholeCell l.levels l.height l.width l.coverings l.plane) l.height p)
