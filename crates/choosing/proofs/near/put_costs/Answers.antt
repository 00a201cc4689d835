-- `choosing::near::put_costs` meets its contract. The loop's invariant: the costs passed are there, with their least. Assumes nothing.
use Rattle.std.proofs.Common.{arith}
use Rattle.choosing.proofs.Leading.{costed_next, costed_last}
use Rattle.choosing.proofs.near.put_costs.Goals as goal

pub loop-k-preserved : goal.loop-k-preserved
loop-k-preserved g c =
    costed_next _ _ c.loop-k.all c.loop-k.least c.loop-k.k c.cost_at-cost.result c.min-least.result c.requires.size.2 c.loop-k.invariant c.loop-k-test.true c.cost_at-cost.ensures c.min-least.ensures

pub returns-clause-least : goal.returns-clause-least
returns-clause-least g c = (costed_last _ _ c.loop-k.all c.loop-k.least c.loop-k.k c.loop-k.invariant (omega arith)).1
