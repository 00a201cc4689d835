-- `calibration::show` meets its contract: its checks, then what the search found. Assumes nothing.
use mathlib.Core.Path.{sym, ap, ◌∙◌}
use native.Mathlib.Omega.{arith}
use Rattle.std.proofs.Common.{rules}
use Rattle.refusals.proofs.After.{passed_by}
use Rattle.calibration.specs.Found.{steps_of}
use Rattle.calibration.proofs.Calls.{laws}
use Rattle.calibration.proofs.Gates.{show_past, refuses, shown, nothing}
use Rattle.calibration.proofs.show.Goals as goal

pub returns-in_err-show_checks : goal.returns-in_err-show_checks
returns-in_err-show_checks c = let a = c.args in (let z = refuses a.covering a.steps.now a.samples.now c.in_err-show_checks.field-0.0 c.in_err-show_checks.ensures in search rules, laws)

pub first_choice-choice-requires : goal.first_choice-choice-requires
first_choice-choice-requires c =
    let found = show_past c.args.covering c.args.steps.now c.args.samples.now (passed_by c.in_ok-show_checks.was c.show_checks.ensures) in
    found.1

pub put_card-requires : goal.put_card-requires
put_card-requires c =
    let found = show_past c.args.covering c.args.steps.now c.args.samples.now (passed_by c.in_ok-show_checks.was c.show_checks.ensures) in
    (found.1, found.0)

pub returns-in-Some : goal.returns-in-Some
returns-in-Some c =
    (shown _ _ _ (passed_by c.in_ok-show_checks.was c.show_checks.ensures) _ _ (let t = rw c.in-Some.is at c.first_choice-choice.type_inv in omega arith) (sym (ap steps_of c.in-Some.is) ∙ c.first_choice-choice.ensures) c.put_card.ensures, laws)

pub returns-in-None : goal.returns-in-None
returns-in-None c =
    (nothing _ _ _ (passed_by c.in_ok-show_checks.was c.show_checks.ensures) (sym (ap steps_of c.in-None.is) ∙ c.first_choice-choice.ensures), laws)
