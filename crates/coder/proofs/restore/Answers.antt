-- `coder::restore` meets its contract: its checks, then the work. Assumes nothing.
use mathlib.Core.Path.{◌≡◌}
use Rattle.refusals.proofs.After.{front_refused, front_passed}
use Rattle.coder.specs.Entries.{restore_refusal}
use Rattle.coder.proofs.Gates.{rejects, restorable}
use Rattle.coder.proofs.restore.Goals as goal

pub restore_all-requires : goal.restore_all-requires
restore_all-requires c =
    let accepted : (let a = c.args in 0 ≡ restore_refusal a.height a.width a.levels a.plane.now a.coverings.now a.numerators.now a.samples.now a.scratch.now) = front_passed 0 c.in_ok-restore_checks.was (c.restore_checks.ensures 0) in
    let a = c.args in record { restorable = (restorable a.height a.width a.levels a.plane.now a.coverings.now a.numerators.now a.samples.now a.scratch.now accepted).0; numerators_len = (restorable a.height a.width a.levels a.plane.now a.coverings.now a.numerators.now a.samples.now a.scratch.now accepted).1 }

pub returns : goal.returns
returns c =
    let accepted : (let a = c.args in 0 ≡ restore_refusal a.height a.width a.levels a.plane.now a.coverings.now a.numerators.now a.samples.now a.scratch.now) = front_passed 0 c.in_ok-restore_checks.was (c.restore_checks.ensures 0) in
    record { number = accepted; values = c.restore_all.ensures.numerators_after; image = c.restore_all.ensures.samples_after; zeros = c.restore_all.ensures.scratch_after }
