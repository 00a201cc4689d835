-- `choosing::near::put_costs` meets its contract. The loop's invariant: the costs passed are there, with their least. Assumes nothing.
use Rattle.choosing.proofs.Leading.{Costed}
use Rattle.choosing.proofs.near.put_costs.Given as goal

abbrev pub invariant-loop-k : goal.invariant-loop-k
invariant-loop-k g l = Costed l.count (goal.F-post g l.cost_at) l.all l.least l.k
