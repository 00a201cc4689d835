-- `ranges::run_low` meets its contract. Assumes nothing.
use mathlib.Core.Bool.{true}
use borrow.Author.Rules.{rules}
use borrow.Author.Tests.{tests}
use Rattle.std.proofs.lemmas.Iterator.{YieldsList-from_slice, cases_from_all}
use Rattle.ranges.specs.Bounds.{Bounded}
use Rattle.ranges.proofs.Runs.{run_all}
use Rattle.ranges.proofs.run_low.Goals as goal

pub returns : goal.returns
returns c =
    run_all c.args.most c.args.run.now c.all.result
    (cases_from_all _ _ _ (λ v. Bounded true c.args.most v) (λ v. Bounded true c.args.most v → ⊥) c.all.ensures.ran (YieldsList-from_slice c.args.run.now cc) (λ x q k. search (rules, tests)) (λ x q k. search (rules, tests)))
