-- `smoothing::smooth_checks` meets its contract: the first two checks, then each return by what the tests before it found. Assumes nothing.
use mathlib.Core.Path.{◌≡◌}
use mathlib.Core.Bool.{not, ◌&&◌}
use native.Mathlib.Nat.{mul-le-mul}
use native.Mathlib.Omega.{arith}
use borrow.Author.Tests.{lt-ltb, le-ltb}
use lib.Dec.{ltb}
use Rattle.refusals.specs.Refusal.{refuse_if}
use Rattle.refusals.proofs.After.{front_refused, front_passed}
use Rattle.integers.proofs.Tests.{both_true}
use Rattle.pyramid.specs.Sides.{is_plane}
use Rattle.strips.specs.Strip.{strip_of, is_framed, is_numbered, is_ranged, Framed}
use Rattle.strips.proofs.Passed.{of_framed}
use Rattle.places.proofs.Sides.{Passed, size_passed}
use Rattle.smoothing.specs.Entry.{smooth_refusal}
use Rattle.smoothing.proofs.smooth_checks.Goals as goal
use Rattle.smoothing.proofs.smooth_checks.Goals.{In_ok-size_checks}

good : (c : goal.In_ok-size_checks) → let a = c.args in Passed a.height a.width a.levels
good c = size_passed _ _ _ c.in_ok-size_checks.was c.size_checks.ensures

behind : (c : goal.In_ok-size_checks) → let a = c.args in refuse_if (not (is_framed (strip_of c.args.height c.args.width c.args.levels c.args.plane.now c.args.coverings.now) && (is_plane a.height a.width a.res.now && is_plane a.height a.width a.scratch.now))) 3 (refuse_if (not (is_numbered (strip_of c.args.height c.args.width c.args.levels c.args.plane.now c.args.coverings.now))) 5 (refuse_if (not (is_ranged (strip_of c.args.height c.args.width c.args.levels c.args.plane.now c.args.coverings.now))) 6 (refuse_if (ltb 255 a.step) 19 0))) ≡ smooth_refusal (strip_of c.args.height c.args.width c.args.levels c.args.plane.now c.args.coverings.now) a.step a.res.now a.scratch.now
behind c = front_passed _ c.in_ok-size_checks.was (c.size_checks.ensures _)

pub size_checks-requires : goal.size_checks-requires
size_checks-requires c = tt

pub overflow_mul-area : goal.overflow_mul-area
overflow_mul-area c =
    let z = (good (goal.at.overflow_mul-area c).In_ok-size_checks) in omega (arith, mul-le-mul z.wide z.tall)

pub is_framed-requires : goal.is_framed-requires
is_framed-requires c =
    let z = (good (goal.at.is_framed-requires c).In_ok-size_checks) in (z.tall, z.wide, z.few)

pub returns-then-not-framed : goal.returns-then-not-framed
returns-then-not-framed c =
    rw (← (behind (goal.at.returns-then-not-framed c).In_ok-size_checks), ← c.is_framed.ensures, c.if-not-framed.true)

pub all_numbers-requires : goal.all_numbers-requires
all_numbers-requires c = tt

pub returns-then-not-all_numbers : goal.returns-then-not-all_numbers
returns-then-not-all_numbers c =
    rw (← (behind (goal.at.returns-then-not-all_numbers c).In_ok-size_checks), ← c.is_framed.ensures, c.if-not-framed.false, ← c.all_numbers.ensures, c.if-not-all_numbers.true)

pub overflow_cast-height : goal.overflow_cast-height
overflow_cast-height c =
    omega (arith, (good (goal.at.overflow_cast-height c).In_ok-size_checks).tall)

pub overflow_cast-width : goal.overflow_cast-width
overflow_cast-width c =
    omega (arith, (good (goal.at.overflow_cast-width c).In_ok-size_checks).wide)

pub overflow_cast-levels : goal.overflow_cast-levels
overflow_cast-levels c =
    omega (arith, (good (goal.at.overflow_cast-levels c).In_ok-size_checks).few)

pub in_range-requires : goal.in_range-requires
in_range-requires c =
    let framed : Framed (strip_of c.args.height c.args.width c.args.levels c.args.plane.now c.args.coverings.now) = of_framed (strip_of c.args.height c.args.width c.args.levels c.args.plane.now c.args.coverings.now) (both_true (is_framed (strip_of c.args.height c.args.width c.args.levels c.args.plane.now c.args.coverings.now)) (is_plane c.args.height c.args.width c.args.res.now && is_plane c.args.height c.args.width c.args.scratch.now) (rw (← c.is_framed.ensures) c.if-not-framed.false)).0 in
    let z = (good (goal.at.in_range-requires c).In_ok-size_checks) in record { width_value = (z.sided, z.deep); plane_len = framed.0 }

pub returns-then-not-in_range : goal.returns-then-not-in_range
returns-then-not-in_range c =
    rw (
      ← (behind (goal.at.returns-then-not-in_range c).In_ok-size_checks),
      ← c.is_framed.ensures,
      c.if-not-framed.false,
      ← c.all_numbers.ensures,
      c.if-not-all_numbers.false,
      ← c.in_range.ensures,
      c.if-not-in_range.true,
    )

pub largest_step-requires : goal.largest_step-requires
largest_step-requires c = tt

pub returns-then-largest_step-step : goal.returns-then-largest_step-step
returns-then-largest_step-step c =
    rw (
      ← (behind (goal.at.returns-then-largest_step-step c).In_ok-size_checks),
      ← c.is_framed.ensures,
      c.if-not-framed.false,
      ← c.all_numbers.ensures,
      c.if-not-all_numbers.false,
      ← c.in_range.ensures,
      c.if-not-in_range.false,
      lt-ltb 255 c.args.step (omega (arith, c.largest_step.ensures.0, c.if-largest_step-step.true)),
    )

pub returns : goal.returns
returns c =
    rw (
      ← (behind (goal.at.returns c).In_ok-size_checks),
      ← c.is_framed.ensures,
      c.if-not-framed.false,
      ← c.all_numbers.ensures,
      c.if-not-all_numbers.false,
      ← c.in_range.ensures,
      c.if-not-in_range.false,
      le-ltb 255 c.args.step (omega (arith, c.largest_step.ensures.0, c.if-largest_step-step.false)),
    )
