-- `costing::needed_by` meets its contract. The loops' invariant: the placements of the pieces passed are marked. Assumes nothing.
use mathlib.Core.Path.{◌≡◌}
use Prim.Native.Nat.{◌+◌, ◌*◌}
use lib.ListN.{length}
use Rattle.costing.proofs.Placements.{Marked}
use Rattle.costing.proofs.needed_by.Given as goal

abbrev pub invariant-loop-covering : goal.invariant-loop-covering
invariant-loop-covering l = (length l.needed ≡ 89) × Marked l.list l.needed (l.covering-index * 4)

abbrev pub invariant-loop-piece : goal.invariant-loop-piece
invariant-loop-piece l = (length l.needed ≡ 89) × Marked l.list l.needed (l.covering-index * 4 + l.piece)
