-- `costing::placement_costs` meets its contract. Assumes nothing.
use Rattle.std.proofs.Common.{rules}
use Rattle.costing.specs.Costs.{spread, placed, spreads}
use Rattle.integers.proofs.Made.{made}
use Rattle.costing.proofs.placement_costs.Goals as goal

pub returns : goal.returns
unfolding spreads
returns c = made _ (λ k. spread (placed c.args.v.now k)) _ 89 (λ i y p l e. search rules) 0 c.from_fn.result c.from_fn.ensures.items
