-- `viewer::window_checks` meets its contract: the first two checks, then each return by what the tests before it found. Assumes nothing.
use mathlib.Core.Path.{◌≡◌}
use mathlib.Core.Bool.{not, ◌&&◌}
use Prim.Native.Nat.{ℕ, ◌≤◌}
use native.Mathlib.Omega.{arith}
use native.Mathlib.Nat.{mul-le-mul}
use Rattle.refusals.specs.Refusal.{refuse_if}
use Rattle.refusals.proofs.After.{front_refused, front_passed}
use Rattle.integers.proofs.Tests.{both_true}
use Rattle.pyramid.specs.Sides.{is_plane}
use Rattle.strips.specs.Strip.{strip_of, is_framed, is_numbered, is_ranged, Framed}
use Rattle.strips.proofs.Passed.{of_framed}
use Rattle.places.proofs.Sides.{Passed, size_passed}
use Rattle.coder.proofs.Gates.{truth}
use Rattle.windows.specs.declared.View.{View}
use Rattle.viewer.specs.Window.{fits_window, window_refusal}
use Rattle.windows.specs.Shown.{Inside}
use Rattle.viewer.proofs.Gates.{inside}
use Rattle.viewer.proofs.window_checks.Goals as goal
use Rattle.viewer.proofs.window_checks.Goals.{In_ok-size_checks}

good : (c : goal.In_ok-size_checks) → let a = c.args in Passed a.height a.width a.levels
good c = size_passed _ _ _ c.in_ok-size_checks.was c.size_checks.ensures

behind : (c : goal.In_ok-size_checks) → let a = c.args in refuse_if (not (fits_window a.height a.width a.v)) 17 (refuse_if (not (is_framed (strip_of c.args.height c.args.width c.args.levels c.args.plane.now c.args.coverings.now) && is_plane a.v.tall a.v.wide a.samples.now)) 3 (refuse_if (not (is_numbered (strip_of c.args.height c.args.width c.args.levels c.args.plane.now c.args.coverings.now))) 5 (refuse_if (not (is_ranged (strip_of c.args.height c.args.width c.args.levels c.args.plane.now c.args.coverings.now))) 6 0))) ≡ window_refusal (strip_of c.args.height c.args.width c.args.levels c.args.plane.now c.args.coverings.now) a.v a.samples.now
behind c = front_passed _ c.in_ok-size_checks.was (c.size_checks.ensures _)

-- its sides are small
wide_most : {h w R : ℕ} {v : View} → Inside v h w → Passed h w R → v.wide ≤ 512
wide_most i z = omega (arith, i.across, z.wide)

tall_most : {h w R : ℕ} {v : View} → Inside v h w → Passed h w R → v.tall ≤ 512
tall_most i z = omega (arith, i.down, z.tall)

-- the numbers, behind check 5
sizes : (c : goal.Else-not-all_numbers) → let a = c.args in Passed a.height a.width a.levels
sizes c =
    let good : let a = c.args in Passed a.height a.width a.levels = size_passed _ _ _ c.in_ok-size_checks.was c.size_checks.ensures in
    let behind : let a = c.args in
    refuse_if (not (fits_window a.height a.width a.v)) 17
    (refuse_if (not (is_framed (strip_of c.args.height c.args.width c.args.levels c.args.plane.now c.args.coverings.now) && is_plane a.v.tall a.v.wide a.samples.now)) 3
    (refuse_if (not (is_numbered (strip_of c.args.height c.args.width c.args.levels c.args.plane.now c.args.coverings.now))) 5
    (refuse_if (not (is_ranged (strip_of c.args.height c.args.width c.args.levels c.args.plane.now c.args.coverings.now))) 6 0)))
    ≡ window_refusal (strip_of c.args.height c.args.width c.args.levels c.args.plane.now c.args.coverings.now) a.v a.samples.now = front_passed _ c.in_ok-size_checks.was (c.size_checks.ensures _) in
    good

pub size_checks-requires : goal.size_checks-requires
size_checks-requires c = tt

pub is_within-requires : goal.is_within-requires
is_within-requires c = tt

pub is_within-requires-2 : goal.is_within-requires-2
is_within-requires-2 c = tt

pub returns-then-not-fits : goal.returns-then-not-fits
returns-then-not-fits c =
    rw (← (behind (goal.at.returns-then-not-fits c).In_ok-size_checks), ← c.is_within.ensures, ← c.is_within-2.ensures, c.if-not-fits.true)

pub is_framed-requires : goal.is_framed-requires
is_framed-requires c =
    let z = (good (goal.at.is_framed-requires c).In_ok-size_checks) in (z.tall, z.wide, z.few)

pub overflow_mul-framed : goal.overflow_mul-framed
overflow_mul-framed c =
    let fits : let a = c.args in Inside a.v a.height a.width = let a = c.args in
    inside a.height a.width a.v (truth {b = fits_window a.height a.width a.v} (rw (← c.is_within.ensures, ← c.is_within-2.ensures) c.if-not-fits.false)) in
    let i = fits in let z = (good (goal.at.overflow_mul-framed c).In_ok-size_checks) in omega (arith, mul-le-mul (wide_most i z) (tall_most i z))

pub returns-then-not-framed : goal.returns-then-not-framed
returns-then-not-framed c =
    rw (← (behind (goal.at.returns-then-not-framed c).In_ok-size_checks), ← c.is_within.ensures, ← c.is_within-2.ensures, c.if-not-fits.false, ← c.is_framed.ensures, c.if-not-framed.true)

pub all_numbers-requires : goal.all_numbers-requires
all_numbers-requires c = tt

pub returns-then-not-all_numbers : goal.returns-then-not-all_numbers
returns-then-not-all_numbers c =
    rw (
      ← (behind (goal.at.returns-then-not-all_numbers c).In_ok-size_checks),
      ← c.is_within.ensures,
      ← c.is_within-2.ensures,
      c.if-not-fits.false,
      ← c.is_framed.ensures,
      c.if-not-framed.false,
      ← c.all_numbers.ensures,
      c.if-not-all_numbers.true,
    )

pub overflow_cast-height : goal.overflow_cast-height
overflow_cast-height c = omega (arith, (sizes c).tall)

pub overflow_cast-width : goal.overflow_cast-width
overflow_cast-width c = omega (arith, (sizes c).wide)

pub overflow_cast-levels : goal.overflow_cast-levels
overflow_cast-levels c = omega (arith, (sizes c).few)

pub in_range-requires : goal.in_range-requires
in_range-requires c =
    let framed : Framed (strip_of c.args.height c.args.width c.args.levels c.args.plane.now c.args.coverings.now) = of_framed (strip_of c.args.height c.args.width c.args.levels c.args.plane.now c.args.coverings.now) (both_true (is_framed (strip_of c.args.height c.args.width c.args.levels c.args.plane.now c.args.coverings.now)) (is_plane c.args.v.tall c.args.v.wide c.args.samples.now) (rw (← c.is_framed.ensures) c.if-not-framed.false)).0 in
    let z = sizes c in record { width_value = (z.sided, z.deep); plane_len = framed.0 }

pub returns-then-not-in_range : goal.returns-then-not-in_range
returns-then-not-in_range c =
    rw (
      ← (behind (goal.at.returns-then-not-in_range c).In_ok-size_checks),
      ← c.is_within.ensures,
      ← c.is_within-2.ensures,
      c.if-not-fits.false,
      ← c.is_framed.ensures,
      c.if-not-framed.false,
      ← c.all_numbers.ensures,
      c.if-not-all_numbers.false,
      ← c.in_range.ensures,
      c.if-not-in_range.true,
    )

pub returns : goal.returns
returns c =
    rw (
      ← (behind (goal.at.returns c).In_ok-size_checks),
      ← c.is_within.ensures,
      ← c.is_within-2.ensures,
      c.if-not-fits.false,
      ← c.is_framed.ensures,
      c.if-not-framed.false,
      ← c.all_numbers.ensures,
      c.if-not-all_numbers.false,
      ← c.in_range.ensures,
      c.if-not-in_range.false,
    )
