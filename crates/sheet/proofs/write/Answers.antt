-- `sheet::write` meets its contract: its checks, then the work. Assumes nothing.
use native.Mathlib.Omega.{arith}
use Rattle.refusals.proofs.After.{passed_by}
use Rattle.places.proofs.Sides.{Passed, passed}
use Rattle.sheet.proofs.Answers.{writable}
use Rattle.sheet.proofs.write.Goals as goal
use Rattle.sheet.proofs.write.Goals.{In_ok-bytes}

good : (c : In_ok-bytes) → let a = c.args in Passed a.height a.width a.levels
good c =
    let a = c.args in
    let z = (writable a.height a.width a.levels a.plane.now a.coverings.now a.buffer.now (passed_by c.in_ok-bytes.was c.write_checks.ensures.result_value)).0 in
    passed _ _ _ z.0 z.1

pub overflow_cast-height : goal.overflow_cast-height
overflow_cast-height c = omega (arith, (good (goal.at.overflow_cast-height c).In_ok-bytes).tall)

pub overflow_cast-width : goal.overflow_cast-width
overflow_cast-width c = omega (arith, (good (goal.at.overflow_cast-width c).In_ok-bytes).wide)

pub overflow_cast-levels : goal.overflow_cast-levels
overflow_cast-levels c = omega (arith, (good (goal.at.overflow_cast-levels c).In_ok-bytes).few)
