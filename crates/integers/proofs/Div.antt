-- Division toward zero (`quot_z`, an i64's `/`) and the shift that rounds down (`shr_z z (2 ^ n)`, an i64's `>> n`): bounds, exact cases, and what rounding down means.
-- Assumes nothing.
use mathlib.Core.Path.{◌≡◌, refl, sym, ap, ◌∙◌, subst}
use Prim.Native.Nat.{ℕ, zero, suc, ◌+◌, ◌*◌, ◌-◌, ◌/◌, ◌%◌, ◌^◌, ◌≤◌, ◌<◌}
use native.Mathlib.Omega.{arith}
use native.Mathlib.Nat.{div-le_self, mul-div_cancel_left, add-mul-div_left, div-add-mod, mod-lt, zero-div, div-eq_of_lt, lt_of_le_of_lt}
use lib.IntN.{ℤ, pos, negsuc, neg_ℤ, nat_abs, ◌+ℤ◌, ◌-ℤ◌, ◌*ℤ◌}
use lib.Signed.{quot_z, shr_z, mag_shr, ◌≤ℤ◌, ◌<ℤ◌}
use mir.Syntax.{Width}
use mir.Val.{SFits, hbits, to_z, of_z}
use mir.ValLaws.{sfits_le}
use Rattle.integers.proofs.Laws.{pp, nn, pp_neg, nn_neg, rep, rep_add}
use Rattle.integers.proofs.Lin.{zlin}
use Rattle.integers.proofs.Bound.{abs_neg, sfits_abs, read}

pub abs_quot : (a b : ℤ) → nat_abs (quot_z a b) ≤ nat_abs a
abs_quot (pos m) (pos n) = div-le_self m n
abs_quot (pos m) (negsuc n) = rw (abs_neg (pos (m / suc n))) (div-le_self m (suc n))
abs_quot (negsuc m) (pos n) = rw (abs_neg (pos (suc m / n))) (div-le_self (suc m) n)
abs_quot (negsuc m) (negsuc n) = div-le_self (suc m) (suc n)

quot_neg : (m d : ℕ) → quot_z (neg_ℤ (pos m)) (pos d) ≡ neg_ℤ (pos (m / d))
quot_neg zero d = rw zero-div refl
quot_neg (suc m) d = refl

pub quot_exact : (d : ℕ) (z : ℤ) → 0 < d → quot_z (pos d *ℤ z) (pos d) ≡ z
quot_exact d (pos n) h = ap pos (mul-div_cancel_left n h)
quot_exact d (negsuc n) h = quot_neg (d * suc n) d ∙ ap (λ (x : ℕ). neg_ℤ (pos x)) (mul-div_cancel_left (suc n) h)

shr_neg : (n m j : ℕ) → m * suc n ≡ suc j → 0 < m → shr_z (neg_ℤ (pos (m * suc n))) m ≡ negsuc n
shr_neg n m j e h = rw e (ap negsuc (ap (λ (x : ℕ). x / m) q ∙ add-mul-div_left (m - 1) n h ∙ ap (λ (x : ℕ). x + n) (div-eq_of_lt l) ∙ zero_plus))
  where
    q : j ≡ m - 1 + m * n
    q = omega arith

    l : m - 1 < m
    l = omega arith

    zero_plus : 0 + n ≡ n
    zero_plus = omega arith

pub shr_exact : (m : ℕ) (z : ℤ) → 0 < m → shr_z (pos m *ℤ z) m ≡ z
shr_exact m (pos n) h = ap pos (mul-div_cancel_left n h)
shr_exact m (negsuc n) h = shr_neg n m (m * suc n - 1) (omega (arith, pos-product)) h
  where
    pos-product : 1 ≤ m * suc n
    pos-product = omega arith

pub shr_low : (m : ℕ) (z : ℤ) → 0 < m → (pos m *ℤ shr_z z m) ≤ℤ z
shr_low m (pos a) h = omega (zlin, div-add-mod a m)
shr_low m (negsuc a) h = omega (zlin, div-add-mod a m, mod-lt a h, pp_neg (pos (m * suc (a / m))), nn_neg (pos (m * suc (a / m))))

pub shr_high : (m : ℕ) (z : ℤ) → 0 < m → z <ℤ (pos m *ℤ shr_z z m +ℤ pos m)
shr_high m (pos a) h = omega (zlin, div-add-mod a m, mod-lt a h)
shr_high m (negsuc a) h = omega (zlin, div-add-mod a m, pp_neg (pos (m * suc (a / m))), nn_neg (pos (m * suc (a / m))), rep_add (rep (pos m *ℤ negsuc (a / m))) (rep (pos m)))

-- ---- as the machine computes them, of an operand that is read as x
pub quot_fits : (w : Width) {x' x : ℤ} (d : ℤ) → x' ≡ x → nat_abs x < 2 ^ hbits w → SFits w (quot_z x' d)
quot_fits w {x'} {x} d e h = rw e (sfits_abs (quot_z x d) (lt_of_le_of_lt (abs_quot x d) h))

pub quot_reads : (w : Width) {x' x : ℤ} (d : ℤ) → x' ≡ x → nat_abs x < 2 ^ hbits w → to_z w (of_z w (quot_z x' d)) ≡ quot_z x d
quot_reads w {x} d e h = read w (ap (λ (y : ℤ). quot_z y d) e) (quot_fits w {x' = x} {x = x} d refl h)

pub shr_reads : (w : Width) {x' x : ℤ} (m : ℕ) → x' ≡ x → SFits w x → to_z w (of_z w (shr_z x' m)) ≡ shr_z x m
shr_reads w {x} m e f = read w (ap (λ (y : ℤ). shr_z y m) e) (sfits_le (mag_shr x m) f)
