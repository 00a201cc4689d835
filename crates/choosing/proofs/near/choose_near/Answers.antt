-- `choosing::near::choose_near` meets its contract. Assumes nothing.
use Rattle.std.proofs.Common.{arith, rules}
use Rattle.costing.specs.Costs.{cost_from, Low}
use Rattle.choosing.specs.Leading.{Priced}
use Rattle.choosing.proofs.Leading.{low_spreads, cost_low, chosen_near}
use Rattle.choosing.proofs.near.choose_near.Goals as goal

pub put_costs-least-requires-clause-callable : goal.put_costs-least-requires-clause-callable
put_costs-least-requires-clause-callable c =
    λ k h.
    let low : Low c.placement_costs-costs.result = low_spreads c.args.v c.placement_costs-costs.ensures c.requires.0 in
    search rules

pub overflow_add-least : goal.overflow_add-least
overflow_add-least c =
    let priced : Priced 117 (cost_from c.placement_costs-costs.result) c.put_costs-least.new.all = λ k h. let e = c.put_costs-least.ensures.put k h in search rules in
    omega (arith, c.requires.1, (c.put_costs-least.ensures.least (cost_from c.placement_costs-costs.result) priced).below 1 (omega arith, omega arith), cost_low c.placement_costs-costs.result (low_spreads c.args.v c.placement_costs-costs.ensures c.requires.0) 1 (omega arith, omega arith))

pub returns : goal.returns
returns c =
    let priced : Priced 117 (cost_from c.placement_costs-costs.result) c.put_costs-least.new.all = λ k h. let e = c.put_costs-least.ensures.put k h in search rules in
    chosen_near c.args.v c.placement_costs-costs.result c.put_costs-least.new.all c.args.usage.counts c.args.slack c.put_costs-least.result c.most_frequent.result
    c.placement_costs-costs.ensures priced c.put_costs-least.ensures.least c.most_frequent.ensures
