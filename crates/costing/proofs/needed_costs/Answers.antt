-- `costing::needed_costs` meets its contract. Assumes nothing.
use Rattle.std.proofs.Common.{rules}
use Rattle.std.specs.Prelude.{cond, eqb, get_or}
use Rattle.costing.specs.Costs.{spread, placed, needed_spreads}
use Rattle.integers.proofs.Made.{made}
use Rattle.costing.proofs.needed_costs.Goals as goal

pub returns : goal.returns
unfolding needed_spreads
returns c =
    let x = c.args in
    made _ (λ k. cond (eqb (get_or x.needed.now k 0) 0) 0 (spread (placed x.v.now k))) _ 89 (λ i y p l e. search rules) 0 c.from_fn.result c.from_fn.ensures.items
