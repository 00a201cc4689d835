-- `costing::needed_cost` meets its contract. Assumes nothing.
use mathlib.Core.Path.{refl}
use borrow.Author.Tests.{eq-eqb, ne_eqb}
use Rattle.costing.proofs.needed_cost.Goals as goal

pub returns-then-needed-k-eq0 : goal.returns-then-needed-k-eq0
returns-then-needed-k-eq0 c = rw (eq-eqb _ 0 c.if-needed-k-eq0.true) refl

pub returns : goal.returns
returns c = rw (ne_eqb _ 0 c.if-needed-k-eq0.false) c.placement_cost.ensures
