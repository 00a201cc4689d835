-- `sifting::sift::sift` meets its contract: what is stored up to the place of the walk. Assumes nothing.
use lib.ListN.{length}
use Rattle.places.specs.Walk.{entries_left}
use Rattle.sifting.proofs.Turns.{Sifting}
use Rattle.sifting.proofs.sift.sift.Given as goal

abbrev pub invariant-loop-k : goal.invariant-loop-k
invariant-loop-k l = Sifting l.levels l.height l.width l.limit l.ties l.initial.plane l.plane l.tally l.k

abbrev pub decreases-loop-k : goal.decreases-loop-k
decreases-loop-k l = length (entries_left l.k)
