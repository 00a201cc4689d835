-- `sheet::write_checks` meets its contract: each return by what the tests before it found. Assumes nothing.
use native.Mathlib.Omega.{arith}
use Rattle.places.proofs.Sides.{Passed, size_passed}
use Rattle.sheet.proofs.write_checks.Goals as goal
use Rattle.sheet.proofs.write_checks.Goals.{In_ok-size_checks}

good : (c : In_ok-size_checks) → let a = c.args in Passed a.height a.width a.levels
good c = size_passed _ _ _ c.in_ok-size_checks.was c.size_checks.ensures

pub overflow_mul-area : goal.overflow_mul-area
overflow_mul-area c = omega (arith, (good (goal.at.overflow_mul-area c).In_ok-size_checks).area)

pub count_blocks-blocks-requires : goal.count_blocks-blocks-requires
count_blocks-blocks-requires c = let z = good (goal.at.count_blocks-blocks-requires c).In_ok-size_checks in (z.tall, z.wide, z.few)

pub overflow_cast-h : goal.overflow_cast-h
overflow_cast-h c = omega (arith, (good (goal.at.overflow_cast-h c).In_ok-size_checks).tall)

pub overflow_cast-w : goal.overflow_cast-w
overflow_cast-w c = omega (arith, (good (goal.at.overflow_cast-w c).In_ok-size_checks).wide)

pub overflow_cast-r : goal.overflow_cast-r
overflow_cast-r c = omega (arith, (good (goal.at.overflow_cast-r c).In_ok-size_checks).few)

pub in_range-requires-clause-width_value : goal.in_range-requires-clause-width_value
in_range-requires-clause-width_value c = let z = good (goal.at.in_range-requires-clause-width_value c).In_ok-size_checks in (z.sided, z.deep)

pub sheet_length-bytes-requires-clause-width_value : goal.sheet_length-bytes-requires-clause-width_value
sheet_length-bytes-requires-clause-width_value c = let z = good (goal.at.sheet_length-bytes-requires-clause-width_value c).In_ok-size_checks in (z.sided, z.deep)
