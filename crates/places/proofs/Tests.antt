-- The checks of sides and levels, as the code's matches find them. Assumes nothing.
use mathlib.Core.Path.{◌≡◌, refl, sym, ap}
use mathlib.Core.Bool.{Bool, true, false, ◌&&◌}
use Prim.Native.Nat.{ℕ, zero, suc, ◌+◌, ◌*◌, ◌/◌, ◌^◌, ◌-◌, ◌<◌, ◌≤◌}
use native.Mathlib.Nat.{pow-le-pow_right, mul-le-mul}
use native.Mathlib.Decide.{dec_lt}
use native.Mathlib.Omega.{arith}
use borrow.Author.Tests.{eq-eqb, ne_eqb, le-leb, lt-leb, ltb-true}
use lib.Dec.{leb}
use lib.IntN.{ℤ, pos, negsuc, nat_abs}
use lib.Signed.{lt_z}
use Rattle.pyramid.specs.Plane.{all_blocks}
use Rattle.pyramid.specs.Places.{Place}
use Rattle.pyramid.specs.Ranges.{is_low, fits_range}

-- the levels of one side
abbrev reach : ℕ → ℕ → Bool
reach R n = leb 1 R && leb (2 ^ suc R) n

depth_over : (R n : ℕ) → 9 ≤ R → n ≤ 512 → false ≡ reach R n
depth_over R n l h =
    let q : 10 ≤ suc R = omega arith in
    let p : 2 ^ 10 ≤ 2 ^ suc R = pow-le-pow_right {n = 2} (omega arith) q in
    sym (rw (le-leb 1 R (omega arith), lt-leb (2 ^ suc R) n (omega (arith, p))))

pub depth_other : (R n : ℕ) → (1 ≤ R → R ≤ 8 → ⊥) → n ≤ 512 → false ≡ reach R n
depth_other R n f h = go R f (dec_lt 8 R)
  where
    go : (R : ℕ) → (1 ≤ R → R ≤ 8 → ⊥) → Dec (8 < R) → false ≡ reach R n
    go zero f d = refl
    go (suc R) f (yes l) = depth_over (suc R) n l h
    go (suc R) f (no l) = absurd (f (omega arith) (omega arith))

-- along the levels
pub blocks_next : (l m h w : ℕ) → l ≡ suc m → all_blocks l h w ≡ w / 4 * (h / 4) + all_blocks m (h / 2) (w / 2)
blocks_next l m h w e = ap (λ (l : ℕ). all_blocks l h w) e

pub blocks_bound : (h w : ℕ) → h ≤ 512 → w ≤ 512 → w / 4 * (h / 4) ≤ 16384
blocks_bound h w k l =
    let a : w / 4 ≤ 128 = omega arith in
    let b : h / 4 ≤ 128 = omega arith in
    mul-le-mul a b

-- ---- ranges

pub low_below : (R : ℕ) (p : Place) (v : ℤ) → p.band ≡ 0 → lt_z v (pos 0) ≡ true → false ≡ fits_range R p v
low_below R p v e n = sym (rw (eq-eqb p.band 0 e) (low v n))
  where
    low : (v : ℤ) → lt_z v (pos 0) ≡ true → is_low R v ≡ false
    low (pos n) t = absurd (omega (arith, ltb-true n 0 t))
    low (negsuc n) t = refl

pub low_from : (R : ℕ) (p : Place) (v : ℤ) → p.band ≡ 0 → lt_z v (pos 0) ≡ false → leb (nat_abs v) (4095 * 4 ^ R) ≡ fits_range R p v
low_from R p v e n = sym (rw (eq-eqb p.band 0 e) (low v n))
  where
    low : (v : ℤ) → lt_z v (pos 0) ≡ false → is_low R v ≡ leb (nat_abs v) (4095 * 4 ^ R)
    low (pos n) t = refl
    low (negsuc n) t = absurd (let z : ◌≡◌ {A = ℕ} 0 1 = cc in omega arith)

pub tetrolet_from : (R : ℕ) (p : Place) (v : ℤ) → (p.band ≡ 0 → ⊥) → leb (nat_abs v) (2 * 4 ^ (p.level - 1) * 4095) ≡ fits_range R p v
tetrolet_from R p v e = sym (rw (ne_eqb p.band 0 e))

pub power_small : (k : ℕ) → k ≤ 9 → 4 ^ k ≤ 262144
power_small k h = pow-le-pow_right {n = 4} (omega arith) h
