-- `joining::join_checks` meets its contract: the first four checks, then each return by what the tests before it found. Assumes nothing.
use native.Mathlib.Omega.{arith}
use Rattle.joining.proofs.Gates.{Pair, pair_passed}
use Rattle.joining.proofs.join_checks.Goals as goal
use Rattle.joining.proofs.join_checks.Goals.{In_ok-pair_checks}

good : (c : In_ok-pair_checks) → let a = c.args in Pair a.left_height a.left_width a.left_levels a.right_height a.right_width a.right_levels
good c = pair_passed _ _ _ _ _ _ c.in_ok-pair_checks.was c.pair_checks.ensures

pub is_framed-requires : goal.is_framed-requires
is_framed-requires c = let z = (good (goal.at.is_framed-requires c).In_ok-pair_checks).left in (z.tall, z.wide, z.few)

pub is_framed-requires-2 : goal.is_framed-requires-2
is_framed-requires-2 c = let z = (good (goal.at.is_framed-requires-2 c).In_ok-pair_checks).right in (z.tall, z.wide, z.few)

pub overflow_add-left_width : goal.overflow_add-left_width
overflow_add-left_width c = omega (arith, (good (goal.at.overflow_add-left_width c).In_ok-pair_checks).narrow)

pub is_framed-requires-3 : goal.is_framed-requires-3
is_framed-requires-3 c = let z = good (goal.at.is_framed-requires-3 c).In_ok-pair_checks in (z.left.tall, z.narrow, z.left.few)

pub overflow_cast-left_height : goal.overflow_cast-left_height
overflow_cast-left_height c = omega (arith, (good (goal.at.overflow_cast-left_height c).In_ok-pair_checks).left.tall)

pub overflow_cast-left_width : goal.overflow_cast-left_width
overflow_cast-left_width c = omega (arith, (good (goal.at.overflow_cast-left_width c).In_ok-pair_checks).left.wide)

pub overflow_cast-left_levels : goal.overflow_cast-left_levels
overflow_cast-left_levels c = omega (arith, (good (goal.at.overflow_cast-left_levels c).In_ok-pair_checks).left.few)

pub in_range-requires-clause-width_value : goal.in_range-requires-clause-width_value
in_range-requires-clause-width_value c = let z = (good (goal.at.in_range-requires-clause-width_value c).In_ok-pair_checks).left in (z.sided, z.deep)

pub overflow_cast-right_height : goal.overflow_cast-right_height
overflow_cast-right_height c = omega (arith, (good (goal.at.overflow_cast-right_height c).In_ok-pair_checks).right.tall)

pub overflow_cast-right_width : goal.overflow_cast-right_width
overflow_cast-right_width c = omega (arith, (good (goal.at.overflow_cast-right_width c).In_ok-pair_checks).right.wide)

pub overflow_cast-right_levels : goal.overflow_cast-right_levels
overflow_cast-right_levels c = omega (arith, (good (goal.at.overflow_cast-right_levels c).In_ok-pair_checks).right.few)

pub in_range-requires-2-clause-width_value : goal.in_range-requires-2-clause-width_value
in_range-requires-2-clause-width_value c = let z = (good (goal.at.in_range-requires-2-clause-width_value c).In_ok-pair_checks).right in (z.sided, z.deep)
