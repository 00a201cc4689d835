-- `chain::chain_checks` meets its contract: each return by what the tests before it found. Assumes nothing.
use native.Mathlib.Omega.{arith}
use borrow.Author.Tests.{lt-ltb, le-ltb}
use Rattle.refusals.proofs.After.{front_refused}
use Rattle.places.proofs.Sides.{Passed, size_passed}
use Rattle.quota.specs.Quota.{quota_limit}
use Rattle.chain.proofs.chain_checks.Goals as goal
use Rattle.chain.proofs.chain_checks.Goals.{In_ok-size_checks}

good : (c : goal.In_ok-size_checks) → let a = c.args in Passed a.height a.width a.levels
good c = size_passed _ _ _ c.in_ok-size_checks.was c.size_checks.ensures

pub size_checks-requires : goal.size_checks-requires
size_checks-requires c = tt

pub overflow_mul-area : goal.overflow_mul-area
overflow_mul-area c =
    omega (arith, (good (goal.at.overflow_mul-area c).In_ok-size_checks).area)

pub count_blocks-blocks-requires : goal.count_blocks-blocks-requires
count_blocks-blocks-requires c =
    let z = (good (goal.at.count_blocks-blocks-requires c).In_ok-size_checks) in (z.tall, z.wide, z.few)

pub returns-then-not-framed : goal.returns-then-not-framed
returns-then-not-framed c =
    let z = (good (goal.at.returns-then-not-framed c).In_ok-size_checks) in rw (z.sided, z.deep, ← c.count_blocks-blocks.ensures.0, c.if-not-framed.true)

pub all_samples-requires : goal.all_samples-requires
all_samples-requires c = tt

pub returns-then-not-all_samples : goal.returns-then-not-all_samples
returns-then-not-all_samples c =
    let z = (good (goal.at.returns-then-not-all_samples c).In_ok-size_checks) in rw (z.sided, z.deep, ← c.count_blocks-blocks.ensures.0, c.if-not-framed.false, ← c.all_samples.ensures, c.if-not-all_samples.true)

pub largest_tolerance-requires : goal.largest_tolerance-requires
largest_tolerance-requires c = tt

pub returns-then-largest_tolerance-tolerance : goal.returns-then-largest_tolerance-tolerance
returns-then-largest_tolerance-tolerance c =
    let z = (good (goal.at.returns-then-largest_tolerance-tolerance c).In_ok-size_checks) in
    rw (z.sided, z.deep, ← c.count_blocks-blocks.ensures.0, c.if-not-framed.false, ← c.all_samples.ensures, c.if-not-all_samples.false, lt-ltb 4095 c.args.tolerance (omega (arith, c.largest_tolerance.ensures.0, c.if-largest_tolerance-tolerance.true)))

pub is_list-requires : goal.is_list-requires
is_list-requires c = tt

pub returns-then-not-is_list : goal.returns-then-not-is_list
returns-then-not-is_list c =
    let a = c.args in
    let z = (good (goal.at.returns-then-not-is_list c).In_ok-size_checks) in
    rw (z.sided, z.deep, ← c.count_blocks-blocks.ensures.0, c.if-not-framed.false, ← c.all_samples.ensures, c.if-not-all_samples.false, le-ltb 4095 a.tolerance (omega (arith, c.largest_tolerance.ensures.0, c.if-largest_tolerance-tolerance.false)), ← c.is_list.ensures, c.if-not-is_list.true)

pub overflow_cast-height : goal.overflow_cast-height
overflow_cast-height c =
    omega (arith, (good (goal.at.overflow_cast-height c).In_ok-size_checks).tall)

pub overflow_cast-width : goal.overflow_cast-width
overflow_cast-width c =
    omega (arith, (good (goal.at.overflow_cast-width c).In_ok-size_checks).wide)

pub overflow_cast-levels : goal.overflow_cast-levels
overflow_cast-levels c =
    omega (arith, (good (goal.at.overflow_cast-levels c).In_ok-size_checks).few)

pub most_entries-requires : goal.most_entries-requires
most_entries-requires c =
    let z = (good (goal.at.most_entries-requires c).In_ok-size_checks) in (z.sided, z.deep)

pub returns-then-most_entries-quota : goal.returns-then-most_entries-quota
returns-then-most_entries-quota c =
    let a = c.args in
    let z = (good (goal.at.returns-then-most_entries-quota c).In_ok-size_checks) in
    rw (z.sided, z.deep, ← c.count_blocks-blocks.ensures.0, c.if-not-framed.false, ← c.all_samples.ensures, c.if-not-all_samples.false, le-ltb 4095 a.tolerance (omega (arith, c.largest_tolerance.ensures.0, c.if-largest_tolerance-tolerance.false)), ← c.is_list.ensures, c.if-not-is_list.false, lt-ltb (quota_limit a.height a.width a.levels) a.quota (omega (arith, c.most_entries.ensures.0, c.if-most_entries-quota.true)))

pub returns : goal.returns
returns c =
    let a = c.args in
    let z = (good (goal.at.returns c).In_ok-size_checks) in
    rw (z.sided, z.deep, ← c.count_blocks-blocks.ensures.0, c.if-not-framed.false, ← c.all_samples.ensures, c.if-not-all_samples.false, le-ltb 4095 a.tolerance (omega (arith, c.largest_tolerance.ensures.0, c.if-largest_tolerance-tolerance.false)), ← c.is_list.ensures, c.if-not-is_list.false, le-ltb (quota_limit a.height a.width a.levels) a.quota (omega (arith, c.most_entries.ensures.0, c.if-most_entries-quota.false)))
