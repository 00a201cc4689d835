-- `calibration::grey::are_steps` meets its contract: each return has the tests before it. Assumes nothing.
use Rattle.std.proofs.Common.{rules, arith, ◌∙◌, sym}
use borrow.Author.Tests.{tests, eqb-false}
use Rattle.std.proofs.lemmas.List.Sorted.{answers_always}
use lib.Dec.{ltb}
use Rattle.coder.proofs.Told.{rises_is}
use Rattle.calibration.proofs.Steps.{not-rising, rising}
use Rattle.calibration.proofs.grey.are_steps.Goals as goal

pub returns-then-is_sorted_by : goal.returns-then-is_sorted_by
returns-then-is_sorted_by c =
    let told = rises_is _ _ (c.is_sorted_by.ensures.cases ltb (answers_always _ _ _ (λ f a r g k. search (rules, tests)))) in
    let some = eqb-false _ 0 (sym c.is_empty.ensures ∙ c.if-is_empty.false) in
    rising c.args.steps.now (omega (arith, some)) (omega (arith, c.most_steps.ensures.0)) (sym told ∙ c.if-is_sorted_by.true) c.all_samples.ensures

pub returns-else-is_sorted_by : goal.returns-else-is_sorted_by
returns-else-is_sorted_by c =
    let told = rises_is _ _ (c.is_sorted_by.ensures.cases ltb (answers_always _ _ _ (λ f a r g k. search (rules, tests)))) in
    let some = eqb-false _ 0 (sym c.is_empty.ensures ∙ c.if-is_empty.false) in
    c.if-is_sorted_by.false ∙ not-rising c.args.steps.now (omega (arith, some)) (omega (arith, c.most_steps.ensures.0)) (sym told ∙ c.if-is_sorted_by.false)
