-- `calibration::search::first_choice` meets its contract. Each loop's invariant: the first of the choices that are left is the first of all.
-- The answers on the innermost loop also hold where it goes over a part of `steps` that is all of it, so that an edit of where it starts is refused for what it leaves out.
-- Assumes nothing.
use mathlib.Core.Path.{sym, ap, ◌∙◌}
use native.Mathlib.Omega.{arith}
use Rattle.std.proofs.lemmas.List.{take_all}
use Rattle.calibration.specs.Card.{shows, first, chosen_steps}
use Rattle.calibration.proofs.Turns.{start, enter1, enter2, enter3, next_in, leave0, leave1, leave2, leave3_in, moved, hit, miss}
use Rattle.calibration.proofs.search.first_choice.Goals as goal

pub loop-zeroth-init : goal.loop-zeroth-init
unfolding chosen_steps
loop-zeroth-init c = ap (first (shows c.args.covering)) (start c.args.steps.now)

pub loop-first-init : goal.loop-first-init
loop-first-init c = moved (shows c.args.covering) (enter1 c.args.steps.now c.loop-zeroth.zeroth-index (omega arith)) c.loop-zeroth.invariant

pub loop-second-init : goal.loop-second-init
loop-second-init c = moved (shows c.args.covering) (enter2 c.args.steps.now c.loop-zeroth.zeroth-index _ c.loop-first.first-index (omega arith)) c.loop-first.invariant

pub loop-third-init : goal.loop-third-init
loop-third-init c =
    moved (shows c.args.covering) (enter3 c.args.steps.now c.loop-zeroth.zeroth-index _ c.loop-first.first-index _ c.loop-second.second-index (omega arith)) c.loop-second.invariant

pub loop-third-preserved : goal.loop-third-preserved
loop-third-preserved c =
    miss (shows c.args.covering) (next_in c.args.steps.now c.loop-zeroth.zeroth-index _ c.loop-first.first-index _ c.loop-second.second-index _ _ c.loop-third.third-index c.loop-third-test.true (grind (arith, take_all))) c.loop-third.invariant
    (sym c.shows.ensures ∙ c.if-shows.false)

pub loop-second-preserved : goal.loop-second-preserved
loop-second-preserved c =
    moved (shows c.args.covering) (leave3_in c.args.steps.now c.loop-zeroth.zeroth-index _ c.loop-first.first-index _ c.loop-second.second-index _ _ c.loop-third.third-index c.loop-third-test.false (grind (arith, take_all))) c.loop-third.invariant

pub loop-first-preserved : goal.loop-first-preserved
loop-first-preserved c =
    moved (shows c.args.covering) (leave2 c.args.steps.now c.loop-zeroth.zeroth-index _ c.loop-first.first-index _ c.loop-second.second-index (omega arith)) c.loop-second.invariant

pub loop-zeroth-preserved : goal.loop-zeroth-preserved
loop-zeroth-preserved c = moved (shows c.args.covering) (leave1 c.args.steps.now c.loop-zeroth.zeroth-index _ c.loop-first.first-index (omega arith)) c.loop-first.invariant

pub returns-then-shows : goal.returns-then-shows
returns-then-shows c =
    hit (shows c.args.covering) (next_in c.args.steps.now c.loop-zeroth.zeroth-index _ c.loop-first.first-index _ c.loop-second.second-index _ _ c.loop-third.third-index c.loop-third-test.true (grind (arith, take_all))) c.loop-third.invariant
    (sym c.shows.ensures ∙ c.if-shows.true)

pub returns-after-loop-zeroth : goal.returns-after-loop-zeroth
returns-after-loop-zeroth c = moved (shows c.args.covering) (leave0 c.args.steps.now c.loop-zeroth.zeroth-index (omega arith)) c.loop-zeroth.invariant
