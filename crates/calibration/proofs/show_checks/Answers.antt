-- `calibration::show_checks` meets its contract: each return by what the tests before it found. Assumes nothing.
use borrow.Author.Tests.{eq-eqb, ne_eqb}
use Rattle.calibration.proofs.show_checks.Goals as goal

pub returns-then-samples-ne16 : goal.returns-then-samples-ne16
returns-then-samples-ne16 c = simp (ne_eqb _ _ c.if-samples-ne16.true)

pub returns-then-not-numbered : goal.returns-then-not-numbered
returns-then-not-numbered c = simp (eq-eqb _ _ c.if-samples-ne16.false, c.if-not-numbered.true)

pub returns-then-not-are_steps : goal.returns-then-not-are_steps
returns-then-not-are_steps c = simp (eq-eqb _ _ c.if-samples-ne16.false, c.if-not-numbered.false, ← c.are_steps.ensures, c.if-not-are_steps.true)

pub returns : goal.returns
returns c = simp (eq-eqb _ _ c.if-samples-ne16.false, c.if-not-numbered.false, ← c.are_steps.ensures, c.if-not-are_steps.false)
