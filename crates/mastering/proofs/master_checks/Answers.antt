-- `mastering::master_checks` meets its contract: the checks of restoring, then the numerators. Assumes nothing.
use mathlib.Core.Path.{◌≡◌}
use mathlib.Core.Bool.{not}
use Rattle.refusals.specs.Refusal.{refuse_if}
use Rattle.refusals.proofs.After.{front_refused, front_passed}
use Rattle.strips.specs.Strip.{Strip, strip_of}
use Rattle.masters.specs.Whole.{are_whole}
use Rattle.coder.proofs.Gates.{restorable}
use Rattle.mastering.specs.Entry.{master_refusal}
use Rattle.mastering.proofs.master_checks.Goals as goal

pub restore_checks-requires : goal.restore_checks-requires
restore_checks-requires c = tt

pub all_whole-requires : goal.all_whole-requires
all_whole-requires c =
    let a = c.args in
    (restorable _ _ _ _ _ a.numerators.now a.samples.now a.scratch.now (front_passed 0 c.in_ok-restore_checks.was (c.restore_checks.ensures 0))).0

pub returns-then-not-all_whole : goal.returns-then-not-all_whole
returns-then-not-all_whole c =
    let behind : let a = c.args in
    refuse_if (not (are_whole a.levels a.height a.width a.coverings.now a.plane.now)) 20 0 ≡ master_refusal (strip_of c.args.height c.args.width c.args.levels c.args.plane.now c.args.coverings.now) a.numerators.now a.samples.now a.scratch.now = front_passed _ c.in_ok-restore_checks.was (c.restore_checks.ensures _) in
    rw (← behind, ← c.all_whole.ensures, c.if-not-all_whole.true)

pub returns : goal.returns
returns c =
    let behind : let a = c.args in
    refuse_if (not (are_whole a.levels a.height a.width a.coverings.now a.plane.now)) 20 0 ≡ master_refusal (strip_of c.args.height c.args.width c.args.levels c.args.plane.now c.args.coverings.now) a.numerators.now a.samples.now a.scratch.now = front_passed _ c.in_ok-restore_checks.was (c.restore_checks.ensures _) in
    rw (← behind, ← c.all_whole.ensures, c.if-not-all_whole.false)
