-- `coder::restore_checks` meets its contract: the first three checks, then each return by what the tests before it found. Assumes nothing.
use mathlib.Core.Path.{◌≡◌}
use mathlib.Core.Bool.{not}
use Prim.Native.Nat.{ℕ}
use native.Mathlib.Omega.{arith}
use Rattle.refusals.specs.Refusal.{refuse_if}
use Rattle.refusals.proofs.After.{front_still, front_passed}
use Rattle.integers.specs.Lists.{every}
use Rattle.coverings.specs.Entry.{is_number}
use Rattle.pyramid.specs.Ranges.{in_range}
use Rattle.pyramid.specs.Slices.{image_of}
use Rattle.coder.specs.Entries.{restorable_refusal}
use Rattle.coder.proofs.Gates.{Framed, frame_past}
use Rattle.coder.proofs.restore_checks.Goals as goal
use Rattle.coder.proofs.restore_checks.Goals.{In_ok-frame_checks}

behind : (c : goal.In_ok-frame_checks) → (rest : ℕ) → let a = c.args in refuse_if (not (every is_number a.coverings.now)) 5 (refuse_if (not (in_range a.levels a.height a.width (image_of a.height a.plane.now))) 6 rest) ≡ restorable_refusal a.height a.width a.levels a.plane.now a.coverings.now a.numerators.now a.samples.now a.scratch.now rest
behind c = λ rest. front_passed _ c.in_ok-frame_checks.was (c.frame_checks.ensures _)

framed : (c : goal.In_ok-frame_checks) → let a = c.args in Framed a.height a.width a.levels a.plane.now a.coverings.now a.numerators.now a.samples.now a.scratch.now
framed c = (frame_past _ _ _ _ _ _ _ _ (front_passed 0 c.in_ok-frame_checks.was (c.frame_checks.ensures 0))).0

pub frame_checks-requires : goal.frame_checks-requires
frame_checks-requires c = tt

pub all_numbers-requires : goal.all_numbers-requires
all_numbers-requires c = tt

pub returns-then-not-all_numbers : goal.returns-then-not-all_numbers
returns-then-not-all_numbers c =
    λ rest. rw (← (behind (goal.at.returns-then-not-all_numbers c).In_ok-frame_checks) rest, ← c.all_numbers.ensures, c.if-not-all_numbers.true)

pub overflow_cast-height : goal.overflow_cast-height
overflow_cast-height c =
    omega (arith, (framed (goal.at.overflow_cast-height c).In_ok-frame_checks).sizes.tall)

pub overflow_cast-width : goal.overflow_cast-width
overflow_cast-width c =
    omega (arith, (framed (goal.at.overflow_cast-width c).In_ok-frame_checks).sizes.wide)

pub overflow_cast-levels : goal.overflow_cast-levels
overflow_cast-levels c =
    omega (arith, (framed (goal.at.overflow_cast-levels c).In_ok-frame_checks).sizes.few)

pub in_range-requires : goal.in_range-requires
in_range-requires c =
    let f = (framed (goal.at.in_range-requires c).In_ok-frame_checks) in record { width_value = (f.sizes.sided, f.sizes.deep); plane_len = f.plane_long }

pub returns-then-not-in_range : goal.returns-then-not-in_range
returns-then-not-in_range c =
    λ rest. rw (← (behind (goal.at.returns-then-not-in_range c).In_ok-frame_checks) rest, ← c.all_numbers.ensures, c.if-not-all_numbers.false, ← c.in_range.ensures, c.if-not-in_range.true)

pub returns : goal.returns
returns c =
    λ rest. rw (← (behind (goal.at.returns c).In_ok-frame_checks) rest, ← c.all_numbers.ensures, c.if-not-all_numbers.false, ← c.in_range.ensures, c.if-not-in_range.false)
