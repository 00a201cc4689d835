-- `masters::is_whole` meets its contract. Assumes nothing.
use mathlib.Core.Path.{◌≡◌, subst}
use mathlib.Core.Bool.{true, false}
use native.Mathlib.Omega.{arith}
use lib.IntN.{ℤ, pos}
use lib.Signed.{lt_z}
use mir.Facts.{to_z-of_z}
use Rattle.masters.proofs.Tested.{below_zero, casts, above, product_small, between}
use Rattle.masters.proofs.is_whole.Goals as goal
use Rattle.masters.proofs.is_whole.Goals.{Else-y-lt0}

-- it is not below zero
not_below : (c : goal.Else-y-lt0) → lt_z c.args.y (pos 0) ≡ false
not_below c = subst (λ (x : ℤ). lt_z x (pos 0) ≡ false) (to_z-of_z c.ranges.y) c.if-y-lt0.false

pub returns-then-y-lt0 : goal.returns-then-y-lt0
returns-then-y-lt0 c = below_zero c.args.levels c.args.y (subst (λ (x : ℤ). lt_z x (pos 0) ≡ true) (to_z-of_z c.ranges.y) c.if-y-lt0.true)

pub overflow_cast-n : goal.overflow_cast-n
overflow_cast-n c = rw (to_z-of_z c.ranges.y) (casts c.args.y c.ranges.y (not_below c))

pub returns-then-whitest-q : goal.returns-then-whitest-q
returns-then-whitest-q c =
    above c.args.levels c.requires.0 c.args.y (not_below (goal.at.returns-then-whitest-q c).Else-y-lt0) (rw (to_z-of_z c.ranges.y, c.whitest.ensures.0) at c.if-whitest-q.true)

pub overflow_mul-result : goal.overflow_mul-result
overflow_mul-result c = omega (arith, product_small c.args.levels c.requires.0 _ c.args.unit (rw c.whitest.ensures.0 at c.if-whitest-q.false) c.requires.1)

pub returns : goal.returns
returns c =
    rw (to_z-of_z c.ranges.y) (between c.args.levels c.requires.0 c.args.y c.args.unit (not_below (goal.at.returns c).Else-y-lt0) (rw (to_z-of_z c.ranges.y, c.whitest.ensures.0) at c.if-whitest-q.false) c.requires.1)
