-- How large the smoothing step gets: |g| is at most 8, what it shows at level r at most 8 times 4 ^ r, and 16 P and p times that never meet at one place.
-- Assumes nothing.
use mathlib.Core.Path.{◌≡◌, refl, ap, ◌∙◌, subst⁻¹}
use mathlib.Core.Bool.{Bool, true, false, cond}
use Prim.Native.Nat.{ℕ, zero, suc, ◌+◌, ◌*◌, ◌-◌, ◌^◌, ◌<◌, ◌≤◌}
use native.Mathlib.Omega.{arith}
use native.Mathlib.Nat.{mul-le-mul_left}
use lib.Dec.{ltb}
use lib.IntN.{ℤ, pos, negsuc, nat_abs, ◌+ℤ◌, ◌-ℤ◌, ◌*ℤ◌}
use lib.ListN.{get_or}
use Rattle.integers.proofs.Bound.{abs_add, abs_neg, abs_mul}
use Rattle.integers.proofs.Ring.{k, ◌⊖◌, ◌⊗◌, ⊝◌, ring2}
use Rattle.pyramid.specs.Plane.{Image, Fits, numerators, all_blocks, Numbers, halved}
use Rattle.pyramid.specs.Places.{tetrolet_places, at}
use Rattle.pyramid.specs.Ranges.{Limited}
use Rattle.pyramid.proofs.Places.{none, All}
use Rattle.pyramid.proofs.Bounds.{bounded}
use Rattle.pyramid.proofs.Growth.{analyse_counted, analyse_abs}
use Rattle.variation.specs.Smooth.{sign_of, against, gradient, spared, slopes, smoothed}
use Rattle.variation.proofs.Step.{low_spared, unspared, mixture, mixed}

-- the gradient
pub sign_abs : (z : ℤ) → nat_abs (sign_of z) ≤ 1
unfolding sign_of
sign_abs (pos zero) = omega arith
sign_abs (pos (suc n)) = omega arith
sign_abs (negsuc n) = omega arith

pub against_abs : (t : Bool) (a b : ℤ) → nat_abs (against t a b) ≤ 1
against_abs true a b = sign_abs (a -ℤ b)
against_abs false a b = omega arith

four_abs : (p q r s : ℤ) → nat_abs p ≤ 1 → nat_abs q ≤ 1 → nat_abs r ≤ 1 → nat_abs s ≤ 1 → nat_abs (pos 2 *ℤ (p +ℤ q +ℤ r +ℤ s)) ≤ 8
four_abs p q r s a b c d = rw (abs_mul (pos 2) (p +ℤ q +ℤ r +ℤ s)) (omega (arith, abs_add (p +ℤ q +ℤ r) s, abs_add (p +ℤ q) r, abs_add p q))

pub gradient_abs : (h w : ℕ) (Y : Image) (y x : ℕ) → nat_abs (gradient h w Y y x) ≤ 8
unfolding gradient
gradient_abs h w Y y x =
    four_abs (toward (ltb 0 y) (y - 1) x) (toward (ltb (suc y) h) (suc y) x) (toward (ltb 0 x) y (x - 1)) (toward (ltb (suc x) w) y (suc x))
    (small (ltb 0 y) (y - 1) x) (small (ltb (suc y) h) (suc y) x) (small (ltb 0 x) y (x - 1)) (small (ltb (suc x) w) y (suc x))
  where
    toward : Bool → ℕ → ℕ → ℤ
    toward t y' x' = against t (Y y x) (Y y' x')

    small : (t : Bool) (y' x' : ℕ) → nat_abs (toward t y' x') ≤ 1
    small t y' x' = against_abs t (Y y x) (Y y' x')

-- 16 z or -p d
mixed_abs : (p : ℕ) (z d : ℤ) → (nat_abs (pos 16 *ℤ z -ℤ pos p *ℤ pos 0) ≡ 16 * nat_abs z) × (nat_abs (pos 16 *ℤ pos 0 -ℤ pos p *ℤ d) ≡ p * nat_abs d)
mixed_abs p z d = (
  ap nat_abs (ring2 (λ q z. k (pos 16) ⊗ z ⊖ q ⊗ k (pos 0)) (λ q z. k (pos 16) ⊗ z) (pos p) z tt) ∙ abs_mul (pos 16) z,
  ap nat_abs (ring2 (λ q d. k (pos 16) ⊗ k (pos 0) ⊖ q ⊗ d) (λ q d. ⊝ (q ⊗ d)) (pos p) d tt) ∙ abs_neg (pos p *ℤ d) ∙ abs_mul (pos p) d,
)

mixed_size : (t : Bool) (p q c : ℕ) (z d : ℤ) → (t ≡ false → z ≡ pos 0) → p ≤ 255 → 2 * (q * nat_abs z) ≤ 4095 * c → q * nat_abs d ≤ 8 * c
    → 2 * (q * nat_abs (pos 16 *ℤ z -ℤ pos p *ℤ cond t (pos 0) d)) ≤ 65520 * c
mixed_size true p q c z d o s a b = rw (mixed_abs p z d).0 (by (nat_abs z) a)
  where
    by : (n : ℕ) → 2 * (q * n) ≤ 4095 * c → 2 * (q * (16 * n)) ≤ 65520 * c
    by n a = omega arith
mixed_size false p q c z d o s a b = rw (o refl, (mixed_abs p z d).1) (by (nat_abs d) b)
  where
    by : (n : ℕ) → q * n ≤ 8 * c → 2 * (q * (p * n)) ≤ 65520 * c
    by n b = omega (arith, mul-le-mul_left (q * n) s)

-- the gradient decomposed, as it is counted, and at every place
slopes_counted : (R h w : ℕ) → Fits R h w → (cs : ℕ → ℕ) (P : Image) → All (λ n e. 4 ^ (R - e.level) * nat_abs (at (slopes R h w cs P) e) ≤ 8 * 4 ^ R) (tetrolet_places R h w)
slopes_counted R h w f cs P = analyse_counted 0 R R h w 8 (8 * 4 ^ R) (omega arith) f cs (gradient h w Y) (λ y x a b. gradient_abs h w Y y x) (omega arith)
  where
    Y : Image
    Y = numerators R h w cs P

pub slopes_abs : (R h w : ℕ) → Fits R h w → (cs : ℕ → ℕ) (P : Image) (y x : ℕ) → y < h → x < w → nat_abs (slopes R h w cs P y x) ≤ 8 * 4 ^ R
slopes_abs R h w f cs P = analyse_abs R h w 8 (8 * 4 ^ R) f cs (gradient h w Y) (λ y x a b. gradient_abs h w Y y x) (omega arith)
  where
    Y : Image
    Y = numerators R h w cs P

-- the mixed plane: its low-pass, and twice each of its tetrolet entries as it is counted, are within 65520 times 4 ^ R
module _ (R h w : ℕ) (f : Fits R h w) (cs : ℕ → ℕ) (p : ℕ) (P : Image) (z : Limited R h w (4095 * 4 ^ R) P) (s : p ≤ 255) where
  mixture_low : (y x : ℕ) → y < halved R h → x < halved R w → nat_abs (mixture R h w cs p P y x) ≤ 65520 * 4 ^ R
  mixture_low y x a b =
      subst⁻¹ (λ (t : Bool). nat_abs (pos 16 *ℤ P y x -ℤ pos p *ℤ cond t (pos 0) (slopes R h w cs P y x)) ≤ 65520 * 4 ^ R) (low_spared R h w P y x a b)
      (rw (mixed_abs p (P y x) (pos 0)).0 (omega (arith, z.low y x a b)))

  mixture_counted : All (λ n e. 2 * (4 ^ (R - e.level) * nat_abs (at (mixture R h w cs p P) e)) ≤ 65520 * 4 ^ R) (tetrolet_places R h w)
  mixture_counted n i =
      let e = get_or (tetrolet_places R h w) n none in
      mixed_size (spared R h w P e.down e.across) p (4 ^ (R - e.level)) (4 ^ R) (at P e) (at (slopes R h w cs P) e) (unspared R h w P e.down e.across) s
      (z.tetrolet n i) (slopes_counted R h w f cs P n i)

  pub mixture_limited : Limited R h w (65520 * 4 ^ R) (mixture R h w cs p P)
  mixture_limited = record { low = mixture_low; tetrolet = mixture_counted }

  -- so the step is bounded
  pub sizes : Numbers (all_blocks R h w) cs → (y x : ℕ) → y < h → x < w → 2 * nat_abs (smoothed R h w cs p P y x) ≤ 65520 * 4 ^ R * (2 + 3 * R)
  sizes ns y x a b = rw (mixed R h w cs p P y x) (bounded 0 R R h w (65520 * 4 ^ R) (omega arith) f cs ns (mixture R h w cs p P) mixture_low mixture_counted y x a b)
