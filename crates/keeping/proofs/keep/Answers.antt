-- `keeping::keep` meets its contract: its checks, then the work. Assumes nothing.
use mathlib.Core.Path.{◌≡◌}
use native.Mathlib.Omega.{arith}
use Rattle.refusals.proofs.After.{passed_by}
use Rattle.sifting.specs.Sifting.{Ready}
use Rattle.keeping.specs.Entries.{keep_refusal}
use Rattle.keeping.proofs.Checks.{sized, refuses, ready, keeps}
use Rattle.keeping.proofs.keep.Goals as goal
use Rattle.keeping.proofs.keep.Goals.{In_ok-keep_checks}

accepted : (c : goal.In_ok-keep_checks) → let a = c.args in 0 ≡ keep_refusal a.height a.width a.levels a.plane.now a.quota
accepted c = passed_by c.in_ok-keep_checks.was c.keep_checks.ensures

passed : (c : goal.In_ok-keep_checks) → let a = c.args in Ready a.height a.width a.levels a.plane.now
passed c = let a = c.args in ready a.height a.width a.levels a.plane.now a.quota (accepted c)

pub overflow_cast-h : goal.overflow_cast-h
overflow_cast-h c = omega (arith, (sized (passed c)).tall)

pub overflow_cast-w : goal.overflow_cast-w
overflow_cast-w c = omega (arith, (sized (passed c)).wide)

pub overflow_cast-r : goal.overflow_cast-r
overflow_cast-r c = omega (arith, (sized (passed c)).few)

pub limit_of-limit-requires : goal.limit_of-limit-requires
limit_of-limit-requires c = passed c

pub overflow_sub-quota : goal.overflow_sub-quota
overflow_sub-quota c = c.limit_of-limit.ensures.few

pub sift-requires : goal.sift-requires
sift-requires c = passed (goal.at.sift-requires c).In_ok-keep_checks

pub returns : goal.returns
returns c =
    let l = c.limit_of-limit in
    keeps _ _ _ _ _ (accepted (goal.at.returns c).In_ok-keep_checks) _ l.result.base l.result.over c.sift.result l.ensures c.sift.ensures
