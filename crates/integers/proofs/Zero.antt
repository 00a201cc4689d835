-- 0 by its absolute value, and the test for it as a fact. Assumes nothing.
use mathlib.Core.Path.{◌≡◌, ap}
use mathlib.Core.Bool.{true, false}
use Prim.Native.Nat.{suc}
use native.Mathlib.Omega.{arith}
use borrow.Author.Tests.{eqb-true, ne_eqb}
use lib.IntN.{ℤ, pos, negsuc, nat_abs}
use Rattle.integers.specs.Zero.{is_zero}

pub abs_zero : (z : ℤ) → nat_abs z ≡ 0 → z ≡ pos 0
abs_zero (pos n) e = ap pos e
abs_zero (negsuc n) e = absurd (omega arith)

pub zero_is : (z : ℤ) → is_zero z ≡ true → z ≡ pos 0
zero_is z e = abs_zero z (eqb-true (nat_abs z) 0 e)

pub not_zero : (z : ℤ) → (z ≡ pos 0 → ⊥) → is_zero z ≡ false
not_zero (pos n) f = ne_eqb n 0 (λ e. f (ap pos e))
not_zero (negsuc n) f = ne_eqb (suc n) 0 (λ e. omega arith)
