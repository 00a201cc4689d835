-- `generator::test_image` meets its contract: its checks, then the work. Assumes nothing.
use Rattle.std.proofs.Common.{rules}
use Rattle.refusals.proofs.After.{passed_by}
use Rattle.generator.proofs.Gates.{refuses, generates}
use Rattle.generator.proofs.Samples.{laws}
use Rattle.generator.proofs.test_image.Goals as goal

pub returns-in_err-image_checks : goal.returns-in_err-image_checks
returns-in_err-image_checks c = let a = c.args in (let z = refuses a.height a.width a.start a.samples.now c.in_err-image_checks.field-0.0 c.in_err-image_checks.ensures in search rules, laws)

pub returns : goal.returns
returns c =
    (generates _ _ _ _ (passed_by c.in_ok-image_checks.was c.image_checks.ensures) c.fill.ensures, laws)
