-- `listing::marks_of` meets its contract. The loop's invariant: a number is marked, or among those still to come, just if it is in the list. Assumes nothing.
use Rattle.listing.proofs.Marks.{Marking}
use Rattle.listing.proofs.marks_of.Given as goal

abbrev pub invariant-loop-n : goal.invariant-loop-n
invariant-loop-n l = Marking l.list l.n-index l.marks
