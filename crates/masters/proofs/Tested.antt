-- The test of one numerator, as the machine computes it: by a shift and a product, with no division. Assumes nothing.
use mathlib.Core.Path.{◌≡◌, refl, sym, ap, ◌∙◌, subst}
use mathlib.Core.Logic.{◌⊎◌, inl, inr}
use mathlib.Core.Bool.{Bool, true, false, not}
use Prim.Native.Nat.{ℕ, zero, suc, ◌*◌, ◌/◌, ◌%◌, ◌^◌, ◌<◌, ◌≤◌}
use native.Mathlib.Nat.{pow-succ', div-add-mod', mul-le-mul}
use native.Mathlib.Omega.{arith}
use borrow.Author.Tests.{ltb-true}
use lib.Dec.{T, eqb, eqb→eq, leb, leb→le, le→leb}
use lib.IntN.{ℤ, pos, negsuc, nat_abs}
use lib.Signed.{lt_z, non_neg}
use mir.Syntax.{w64}
use mir.Val.{SFits, Fits}
use Rattle.integers.proofs.Tests.{is_true, is_false, both, both_left, both_right, decided, refused, eq→eqb}
use Rattle.masters.specs.Whole.{is_whole}
use Rattle.pyramid.proofs.Behind.{four_most}

shift_is : (R : ℕ) → 2 ^ (2 * R) ≡ 4 ^ R
shift_is zero = refl
shift_is (suc R) =
    let e : 2 * suc R ≡ suc (suc (2 * R)) = omega arith in
    omega (arith, ap (λ (n : ℕ). 2 ^ n) e, pow-succ' 2 (suc (2 * R)), pow-succ' 2 (2 * R), pow-succ' 4 R, shift_is R)

pub below_zero : (R : ℕ) (y : ℤ) → lt_z y (pos 0) ≡ true → ◌≡◌ {A = Bool} false (is_whole R y)
below_zero R (pos n) t = absurd (omega (arith, ltb-true n 0 t))
below_zero R (negsuc n) t = refl

pub casts : (y : ℤ) → SFits w64 y → lt_z y (pos 0) ≡ false → T (non_neg y) × Fits w64 (nat_abs y)
casts (pos n) f t = (tt, record { fits = omega (arith, f.sfits) })
casts (negsuc n) f t = absurd (let z : ◌≡◌ {A = ℕ} 0 1 = cc in omega arith)

module _ (R : ℕ) (most : R ≤ 8) where
  pub above : (y : ℤ) → lt_z y (pos 0) ≡ false → 4095 < nat_abs y / 2 ^ (2 * R) → ◌≡◌ {A = Bool} false (is_whole R y)
  above (pos n) t l =
      sym (is_false (is_whole R (pos n)) (λ w. let k = leb→le (n / 4 ^ R) 4095 (both_right (eqb (n % 4 ^ R) 0) (leb (n / 4 ^ R) 4095) w) in omega (arith, ap (λ (m : ℕ). n / m) (shift_is R))))
  above (negsuc n) t l = refl

  pub product_small : (q unit : ℕ) → q ≤ 4095 → unit ≡ 4 ^ R → q * unit ≤ 4095 * 65536
  product_small q unit l e = let k : unit ≤ 65536 = omega (arith, four_most R most) in mul-le-mul l k

  pub between : (y : ℤ) (unit : ℕ) → lt_z y (pos 0) ≡ false → nat_abs y / 2 ^ (2 * R) ≤ 4095 → unit ≡ 4 ^ R → eqb (nat_abs y / 2 ^ (2 * R) * unit) (nat_abs y) ≡ is_whole R y
  between (pos n) unit t l e = ap (λ (m : ℕ). eqb m n) product ∙ go (decided (is_whole R (pos n)))
    where
      product : n / 2 ^ (2 * R) * unit ≡ n / 4 ^ R * 4 ^ R
      product = λ s. n / shift_is R s * e s

      small : n / 4 ^ R ≤ 4095
      small = subst (λ (m : ℕ). n / m ≤ 4095) (shift_is R) l

      go : T (is_whole R (pos n)) ⊎ T (not (is_whole R (pos n))) → eqb (n / 4 ^ R * 4 ^ R) n ≡ is_whole R (pos n)
      go (inl w) =
          let z = eqb→eq (n % 4 ^ R) 0 (both_left (eqb (n % 4 ^ R) 0) (leb (n / 4 ^ R) 4095) w) in
          let f : n / 4 ^ R * 4 ^ R ≡ n = omega (arith, div-add-mod' n (4 ^ R)) in
          is_true (eqb (n / 4 ^ R * 4 ^ R) n) (eq→eqb f) ∙ sym (is_true (is_whole R (pos n)) w)
      go (inr w) =
          is_false (eqb (n / 4 ^ R * 4 ^ R) n) (λ f. refused (is_whole R (pos n)) w (both (eqb (n % 4 ^ R) 0) (leb (n / 4 ^ R) 4095) (eq→eqb (none (eqb→eq (n / 4 ^ R * 4 ^ R) n f))) (le→leb (n / 4 ^ R) 4095 small)))
          ∙ sym (is_false (is_whole R (pos n)) (refused (is_whole R (pos n)) w))
        where
          none : n / 4 ^ R * 4 ^ R ≡ n → n % 4 ^ R ≡ 0
          none f = omega (arith, div-add-mod' n (4 ^ R))
  between (negsuc n) unit t l e = absurd (let z : ◌≡◌ {A = ℕ} 0 1 = cc in omega arith)
