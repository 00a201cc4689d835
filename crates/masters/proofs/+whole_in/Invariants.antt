-- `masters::whole_in` meets its contract: the measure is the block's level. Assumes nothing.
use Prim.Native.Nat.{ℕ, ◌+◌, ◌*◌, ◌-◌, ◌/◌, ◌%◌, ◌<◌, ◌≤◌}
use Rattle.blockwise.specs.Cells.{AllIn}
use Rattle.masters.specs.Cells.{WholeCell}
use Rattle.masters.proofs.+whole_in.Given as goal

abbrev pub decreases-whole_in : goal.decreases-whole_in
decreases-whole_in l = l.k.level

-- the blocks below that were looked at are whole
abbrev pub invariant-loop-q : goal.invariant-loop-q
invariant-loop-q l =
    (l.q ≤ 4) × ((p : ℕ) → p < l.q → AllIn (l.k.level - 1 - 1) (WholeCell l.k.levels l.k.height l.k.width l.coverings l.plane) (l.k.i * 2 + p % 2) (l.k.j * 2 + p / 2))
