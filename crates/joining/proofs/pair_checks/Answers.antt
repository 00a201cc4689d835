-- `joining::pair_checks` meets its contract: each return by what the tests before it found. Assumes nothing.
use mathlib.Core.Path.{◌≡◌}
use mathlib.Core.Bool.{true, ◌&&◌}
use native.Mathlib.Omega.{arith}
use Rattle.integers.proofs.Tests.{both_true}
use Rattle.pyramid.specs.Sides.{is_sides}
use Rattle.places.proofs.Sides.{sides_small}
use Rattle.joining.proofs.pair_checks.Goals as goal
use Rattle.joining.proofs.pair_checks.Goals.{Else-not-sided}

sided : (c : Else-not-sided) → let a = c.args in (is_sides a.left_height a.left_width ≡ true) × (is_sides a.right_height a.right_width ≡ true)
sided c =
    let a = c.args in
    let e : (is_sides a.left_height a.left_width && is_sides a.right_height a.right_width) ≡ true = rw (← c.are_sides.ensures, ← c.are_sides-2.ensures) c.if-not-sided.false in
    both_true (is_sides a.left_height a.left_width) (is_sides a.right_height a.right_width) e

pub is_depth-requires : goal.is_depth-requires
is_depth-requires c = sides_small _ _ (sided (goal.at.is_depth-requires c).Else-not-sided).0

pub is_depth-requires-2 : goal.is_depth-requires-2
is_depth-requires-2 c = sides_small _ _ (sided (goal.at.is_depth-requires-2 c).Else-not-sided).1

pub overflow_add-left_width : goal.overflow_add-left_width
overflow_add-left_width c = let s = sides_small _ _ (sided (goal.at.overflow_add-left_width c).Else-not-sided).0 in omega (arith, s.1)
