-- `coder::decompose_checks` meets its contract: each return by what the tests before it found. Assumes nothing.
use native.Mathlib.Omega.{arith}
use Rattle.refusals.proofs.After.{front_still}
use Rattle.places.proofs.Sides.{Passed, size_passed}
use Rattle.coder.proofs.decompose_checks.Goals as goal
use Rattle.coder.proofs.decompose_checks.Goals.{In_ok-size_checks}

good : (c : goal.In_ok-size_checks) → let a = c.args in Passed a.height a.width a.levels
good c = size_passed _ _ _ c.in_ok-size_checks.was c.size_checks.ensures

pub size_checks-requires : goal.size_checks-requires
size_checks-requires c = tt

pub overflow_mul-area : goal.overflow_mul-area
overflow_mul-area c =
    omega (arith, (good (goal.at.overflow_mul-area c).In_ok-size_checks).area)

pub count_blocks-blocks-requires : goal.count_blocks-blocks-requires
count_blocks-blocks-requires c =
    let z = (good (goal.at.count_blocks-blocks-requires c).In_ok-size_checks) in (z.tall, z.wide, z.few)

pub returns-then-not-framed : goal.returns-then-not-framed
returns-then-not-framed c =
    let z = (good (goal.at.returns-then-not-framed c).In_ok-size_checks) in λ rest. rw (z.sided, z.deep, ← c.count_blocks-blocks.ensures.0, c.if-not-framed.true)

pub all_samples-requires : goal.all_samples-requires
all_samples-requires c = tt

pub returns-then-not-all_samples : goal.returns-then-not-all_samples
returns-then-not-all_samples c =
    let z = (good (goal.at.returns-then-not-all_samples c).In_ok-size_checks) in λ rest. rw (z.sided, z.deep, ← c.count_blocks-blocks.ensures.0, c.if-not-framed.false, ← c.all_samples.ensures, c.if-not-all_samples.true)

pub returns : goal.returns
returns c =
    let z = (good (goal.at.returns c).In_ok-size_checks) in λ rest. rw (z.sided, z.deep, ← c.count_blocks-blocks.ensures.0, c.if-not-framed.false, ← c.all_samples.ensures, c.if-not-all_samples.false)
