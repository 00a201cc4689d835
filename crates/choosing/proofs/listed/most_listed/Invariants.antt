-- `choosing::listed::most_listed` meets its contract. The loop's invariant: the leader leads what is passed of the list. Assumes nothing.
use Prim.Native.Nat.{◌-◌}
use lib.ListN.{length, get_or}
use Rattle.choosing.proofs.Leading.{Leads}
use Rattle.choosing.proofs.listed.most_listed.Given as goal

abbrev pub invariant-loop-k : goal.invariant-loop-k
invariant-loop-k l = Leads (length l.list) (λ n. get_or l.all n 0) (λ n. get_or l.counts (get_or l.list n 0 - 1) 0) l.most 0 l.k l.leader
