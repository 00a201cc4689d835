-- `keeping::plane_checks` meets its contract: each return by what the tests before it found. Assumes nothing.
use mathlib.Core.Path.{sym, ◌∙◌}
use native.Mathlib.Omega.{arith}
use borrow.Author.Tests.{eq-eqb, ne_eqb}
use Rattle.refusals.proofs.After.{unchanged, front_refused}
use Rattle.places.proofs.Sides.{Passed, size_passed}
use Rattle.keeping.proofs.plane_checks.Goals as goal
use Rattle.keeping.proofs.plane_checks.Goals.{In_ok-size_checks}

good : (c : goal.In_ok-size_checks) → let a = c.args in Passed a.height a.width a.levels
good c = size_passed _ _ _ c.in_ok-size_checks.was c.size_checks.ensures

pub size_checks-requires : goal.size_checks-requires
size_checks-requires c = tt

pub overflow_mul-width : goal.overflow_mul-width
overflow_mul-width c = omega (arith, (good c).area)

pub returns-then-plane-width : goal.returns-then-plane-width
returns-then-plane-width c = let z = good (goal.at.returns-then-plane-width c).In_ok-size_checks in λ rest. simp (z.sided, z.deep, ne_eqb _ _ c.if-plane-width.true)

pub overflow_cast-height : goal.overflow_cast-height
overflow_cast-height c = omega (arith, (good (goal.at.overflow_cast-height c).In_ok-size_checks).tall)

pub overflow_cast-width : goal.overflow_cast-width
overflow_cast-width c = omega (arith, (good (goal.at.overflow_cast-width c).In_ok-size_checks).wide)

pub overflow_cast-levels : goal.overflow_cast-levels
overflow_cast-levels c = omega (arith, (good (goal.at.overflow_cast-levels c).In_ok-size_checks).few)

pub in_range-requires : goal.in_range-requires
in_range-requires c = let z = good (goal.at.in_range-requires c).In_ok-size_checks in record { width_value = (z.sided, z.deep); plane_len = c.if-plane-width.false }

pub returns-then-not-in_range : goal.returns-then-not-in_range
returns-then-not-in_range c = let z = good (goal.at.returns-then-not-in_range c).In_ok-size_checks in λ rest. simp (z.sided, z.deep, eq-eqb _ _ c.if-plane-width.false, sym c.in_range.ensures ∙ c.if-not-in_range.true)

pub returns : goal.returns
returns c = let z = good (goal.at.returns c).In_ok-size_checks in λ rest. simp (z.sided, z.deep, eq-eqb _ _ c.if-plane-width.false, sym c.in_range.ensures ∙ c.if-not-in_range.false)
