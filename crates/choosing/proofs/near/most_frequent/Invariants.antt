-- `choosing::near::most_frequent` meets its contract. The loop's invariant: each of the two leads what is passed of its part. Assumes nothing.
use Prim.Native.Nat.{◌+◌}
use lib.ListN.{get_or}
use Rattle.choosing.proofs.Leading.{Leads}
use Rattle.choosing.proofs.near.most_frequent.Given as goal

abbrev pub invariant-loop-k : goal.invariant-loop-k
invariant-loop-k l = Leads 117 (λ n. get_or l.all n 0) (λ n. get_or l.counts n 0) l.most 0 l.k l.low × Leads 117 (λ n. get_or l.all n 0) (λ n. get_or l.counts n 0) l.most 59 (l.k + 59) l.high
