-- `choosing::near::standing` meets its contract. Assumes nothing.
use mathlib.Core.Path.{refl}
use native.Mathlib.Numerals.{add-one}
use borrow.Author.Tests.{lt-leb, le-leb}
use Rattle.choosing.proofs.near.standing.Goals as goal

pub returns-then-most-cost : goal.returns-then-most-cost
returns-then-most-cost c = rw (lt-leb _ _ c.if-most-cost.true) refl

pub returns : goal.returns
returns c = rw (le-leb _ _ c.if-most-cost.false) (add-one _)
