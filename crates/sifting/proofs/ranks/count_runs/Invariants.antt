-- `sifting::ranks::count_runs` meets its contract: what is counted up to the place of the walk. Assumes nothing.
use Prim.Native.Nat.{◌^◌}
use lib.ListN.{length}
use Rattle.places.specs.Walk.{entries_left}
use Rattle.sifting.proofs.Turns.{Running}
use Rattle.sifting.proofs.ranks.count_runs.Given as goal

abbrev pub invariant-loop-k : goal.invariant-loop-k
invariant-loop-k l = Running l.levels l.height l.width l.base (2 ^ l.shift) l.plane l.counts l.k

abbrev pub decreases-loop-k : goal.decreases-loop-k
decreases-loop-k l = length (entries_left l.k)
