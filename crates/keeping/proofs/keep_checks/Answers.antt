-- `keeping::keep_checks` meets its contract: the checks in front, then the quota. Assumes nothing.
use mathlib.Core.Bool.{true, false}
use native.Mathlib.Omega.{arith}
use borrow.Author.Tests.{lt-ltb, le-ltb}
use lib.Dec.{ltb}
use Rattle.refusals.proofs.After.{front_refused, front_passed}
use Rattle.quota.specs.Quota.{quota_limit}
use Rattle.sifting.specs.Sifting.{Ready}
use Rattle.keeping.proofs.Checks.{sized, front, behind}
use Rattle.keeping.proofs.keep_checks.Goals as goal

ready : (c : goal.In_ok-plane_checks) → let a = c.args in Ready a.height a.width a.levels a.plane.now
ready c = (front _ _ _ _ 0 (front_passed 0 c.in_ok-plane_checks.was (c.plane_checks.ensures 0))).0

pub overflow_cast-height : goal.overflow_cast-height
overflow_cast-height c = omega (arith, (sized (ready c)).tall)

pub overflow_cast-width : goal.overflow_cast-width
overflow_cast-width c = omega (arith, (sized (ready c)).wide)

pub overflow_cast-levels : goal.overflow_cast-levels
overflow_cast-levels c = omega (arith, (sized (ready c)).few)

pub most_entries-requires : goal.most_entries-requires
most_entries-requires c = ((ready c).sided, (ready c).deep)

pub returns-then-most_entries-quota : goal.returns-then-most_entries-quota
returns-then-most_entries-quota c =
    let a = c.args in
    behind a.height a.width a.levels a.plane.now c.in_ok-plane_checks.was c.plane_checks.ensures 7 (ltb (quota_limit a.height a.width a.levels) a.quota) true
    (lt-ltb (quota_limit a.height a.width a.levels) a.quota (omega (arith, c.most_entries.ensures.0, c.if-most_entries-quota.true)))

pub returns : goal.returns
returns c =
    let a = c.args in
    behind a.height a.width a.levels a.plane.now c.in_ok-plane_checks.was c.plane_checks.ensures 7 (ltb (quota_limit a.height a.width a.levels) a.quota) false
    (le-ltb (quota_limit a.height a.width a.levels) a.quota (omega (arith, c.most_entries.ensures.0, c.if-most_entries-quota.false)))
