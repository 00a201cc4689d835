-- `choosing::every_covering` meets its contract. Assumes nothing.
use Rattle.std.proofs.Common.{rules}
use Rattle.std.specs.Prelude.{suc}
use Rattle.integers.proofs.Made.{made}
use Rattle.terms.specs.Terms.{all_numbers}
use Rattle.choosing.proofs.every_covering.Goals as goal

pub returns : goal.returns
unfolding all_numbers
returns c = made _ suc _ 117 (λ i y p l e. search rules) 0 c.from_fn.result c.from_fn.ensures.items
