-- Bounds of sums and products of integers by `nat_abs`, and what an i64 operation asks from them: `omega arith` over ℕ discharges overflow.
-- Assumes nothing.
use mathlib.Core.Path.{◌≡◌, refl, sym, ap, ◌∙◌, subst}
use Prim.Native.Nat.{ℕ, zero, suc, ◌+◌, ◌*◌, ◌^◌, ◌≤◌, ◌<◌}
use native.Mathlib.Omega.{arith}
use native.Mathlib.Nat.{le_trans, lt_of_le_of_lt}
use lib.IntN.{ℤ, pos, negsuc, neg_ℤ, nat_abs, sub_ℕ, ◌+ℤ◌, ◌-ℤ◌, ◌*ℤ◌}
use lib.Signed.{mag, ◌≤ℤ◌, ◌<ℤ◌}
use mir.Syntax.{Width, w8, w16, w32, w64}
use mir.Val.{SFits, hbits, to_z, of_z}
use mir.Facts.{to_z-of_z}
use Rattle.integers.proofs.Laws.{pp, nn, Rep, rep, rep_add, rep_dif}
use Rattle.integers.proofs.Lin.{zlin}

pub abs_pn : (z : ℤ) → nat_abs z ≡ pp z + nn z
abs_pn (pos n) = omega arith
abs_pn (negsuc n) = omega arith

pub rep_abs : {z : ℤ} {a b : ℕ} → Rep z a b → nat_abs z ≤ a + b
rep_abs {z = pos n} r = omega arith
rep_abs {z = negsuc n} r = omega arith

pub abs_neg : (z : ℤ) → nat_abs (neg_ℤ z) ≡ nat_abs z
abs_neg (pos zero) = refl
abs_neg (pos (suc n)) = refl
abs_neg (negsuc n) = refl

pub abs_add : (a b : ℤ) → nat_abs (a +ℤ b) ≤ nat_abs a + nat_abs b
abs_add a b = omega (arith, rep_abs (rep_add (rep a) (rep b)), abs_pn a, abs_pn b)

pub abs_sub : (a b : ℤ) → nat_abs (a -ℤ b) ≤ nat_abs a + nat_abs b
abs_sub a b = omega (arith, rep_abs (rep_dif (rep a) (rep b)), abs_pn a, abs_pn b)

pub abs_mul : (a b : ℤ) → nat_abs (a *ℤ b) ≡ nat_abs a * nat_abs b
abs_mul (pos m) (pos n) = refl
abs_mul (pos m) (negsuc n) = abs_neg (pos (m * suc n))
abs_mul (negsuc m) (pos n) = abs_neg (pos (suc m * n))
abs_mul (negsuc m) (negsuc n) = refl

-- the two bounds that nat_abs is made of, and back
pub abs_bound : (z : ℤ) (n : ℕ) → neg_ℤ (pos n) ≤ℤ z → z ≤ℤ pos n → nat_abs z ≤ n
abs_bound (pos m) n h g = omega zlin
abs_bound (negsuc m) zero h g = omega zlin
abs_bound (negsuc m) (suc n) h g = omega zlin

mag_abs : (z : ℤ) → mag z ≤ nat_abs z
mag_abs (pos n) = omega arith
mag_abs (negsuc n) = omega arith

pub abs_mag : (z : ℤ) → nat_abs z ≤ suc (mag z)
abs_mag (pos n) = omega arith
abs_mag (negsuc n) = omega arith

-- ---- SFits
pub sfits_abs : {w : Width} (z : ℤ) → nat_abs z < 2 ^ hbits w → SFits w z
sfits_abs z h = record { sfits = lt_of_le_of_lt (mag_abs z) h }

pub sfits64 : (z : ℤ) → nat_abs z < 9223372036854775808 → SFits w64 z
sfits64 z h = sfits_abs z h

pub abs_sfits : {w : Width} (z : ℤ) → SFits w z → nat_abs z ≤ 2 ^ hbits w
abs_sfits z h = le_trans (abs_mag z) h.sfits

-- what is read back of a result that fits
pub read : (w : Width) {z y : ℤ} → z ≡ y → SFits w y → to_z w (of_z w z) ≡ y
read w e f = ap (λ (x : ℤ). to_z w (of_z w x)) e ∙ to_z-of_z f

pub abs_of_neg : (z : ℤ) → z ≤ℤ pos 0 → pos (nat_abs z) ≡ neg_ℤ z
abs_of_neg (pos n) h = let e : n ≡ 0 = omega zlin in rw e refl
abs_of_neg (negsuc n) h = refl

pub abs_of_nonneg : (z : ℤ) → pos 0 ≤ℤ z → pos (nat_abs z) ≡ z
abs_of_nonneg (pos n) h = refl
abs_of_nonneg (negsuc n) h = absurd (omega zlin)
