-- `keeping::threshold_checks` meets its contract: the checks in front, then the threshold. Assumes nothing.
use mathlib.Core.Bool.{true, false}
use native.Mathlib.Omega.{arith}
use borrow.Author.Tests.{lt-ltb, le-ltb}
use lib.Dec.{ltb}
use Rattle.refusals.proofs.After.{front_refused}
use Rattle.keeping.proofs.Checks.{behind}
use Rattle.keeping.proofs.threshold_checks.Goals as goal

pub largest_threshold-requires : goal.largest_threshold-requires
largest_threshold-requires c = tt

pub returns-then-largest_threshold-limit : goal.returns-then-largest_threshold-limit
returns-then-largest_threshold-limit c =
    let a = c.args in
    behind a.height a.width a.levels a.plane.now c.in_ok-plane_checks.was c.plane_checks.ensures 8 (ltb 1000000 a.limit) true
    (lt-ltb 1000000 a.limit (omega (arith, c.largest_threshold.ensures.0, c.if-largest_threshold-limit.true)))

pub returns : goal.returns
returns c =
    let a = c.args in
    behind a.height a.width a.levels a.plane.now c.in_ok-plane_checks.was c.plane_checks.ensures 8 (ltb 1000000 a.limit) false
    (le-ltb 1000000 a.limit (omega (arith, c.largest_threshold.ensures.0, c.if-largest_threshold-limit.false)))
