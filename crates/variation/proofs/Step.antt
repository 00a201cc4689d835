-- What the smoothing step shows when it is decomposed: the mixed plane, 4 ^ R times over. Assumes nothing.
use mathlib.Core.Path.{◌≡◌, refl, sym, ap, ◌∙◌, subst}
use mathlib.Core.Bool.{Bool, true, false, not, cond, ◌&&◌, ◌||◌}
use Prim.Native.Nat.{ℕ, suc, ◌*◌, ◌-◌, ◌^◌, ◌<◌}
use native.Mathlib.Omega.{arith}
use native.Mathlib.Decide.{dec_lt}
use borrow.Author.Tests.{ltb-true}
use lib.Dec.{T, ltb}
use lib.IntN.{ℤ, pos, neg_ℤ, ◌+ℤ◌, ◌-ℤ◌, ◌*ℤ◌}
use Rattle.integers.specs.Zero.{is_zero}
use Rattle.integers.proofs.Zero.{zero_is, not_zero}
use Rattle.integers.proofs.Ring.{k, ◌⊖◌, ◌⊗◌, ⊝◌, ring2, ring3}
use Rattle.integers.proofs.Tests.{true_at, false_at}
use Rattle.pyramid.specs.Plane.{Image, Fits, all_blocks, Numbers, halved, analyse, numerators}
use Rattle.pyramid.proofs.Slices.{Agree}
use Rattle.pyramid.proofs.Pyramid.{numerators_sub, numerators_scale}
use Rattle.pyramid.proofs.Returned.{analyse_numerators}
use Rattle.pyramid.proofs.Finish.{analyse_cong}
use Rattle.pyramid.proofs.Ranges.{halved_le}
use Rattle.variation.specs.Smooth.{sign_of, against, gradient, spared, masked, slopes, smoothed}

-- which places are spared
pub low_spared : (R h w : ℕ) (P : Image) (y x : ℕ) → y < halved R h → x < halved R w → spared R h w P y x ≡ true
low_spared R h w P y x a b = rw (true_at y (halved R h) a, true_at x (halved R w) b) refl

kept_spared : (R h w : ℕ) (P : Image) (y x : ℕ) → (P y x ≡ pos 0 → ⊥) → spared R h w P y x ≡ true
kept_spared R h w P y x f = ap (λ (t : Bool). (ltb y (halved R h) && ltb x (halved R w)) || not t) (not_zero (P y x) f) ∙ always (ltb y (halved R h) && ltb x (halved R w))
  where
    always : (t : Bool) → (t || true) ≡ true
    always true = refl
    always false = refl

other_spared : (R h w : ℕ) (P : Image) (y x : ℕ) → (y < halved R h → x < halved R w → ⊥) → P y x ≡ pos 0 → spared R h w P y x ≡ false
other_spared R h w P y x f e = ap (λ (z : ℤ). (ltb y (halved R h) && ltb x (halved R w)) || not (is_zero z)) e ∙ go (dec_lt y (halved R h)) (dec_lt x (halved R w))
  where
    go : Dec (y < halved R h) → Dec (x < halved R w) → ((ltb y (halved R h) && ltb x (halved R w)) || false) ≡ false
    go (yes a) (yes b) = absurd (f a b)
    go (yes a) (no b) = rw (true_at y (halved R h) a, false_at x (halved R w) (omega arith)) refl
    go (no a) b = rw (false_at y (halved R h) (omega arith)) refl

-- a place that is not spared holds 0
pub unspared : (R h w : ℕ) (P : Image) (y x : ℕ) → spared R h w P y x ≡ false → P y x ≡ pos 0
unspared R h w P y x = go (ltb y (halved R h) && ltb x (halved R w)) (is_zero (P y x)) (zero_is (P y x))
  where
    go : (t b : Bool) → (b ≡ true → P y x ≡ pos 0) → (t || not b) ≡ false → P y x ≡ pos 0
    go true b f e = absurd (subst T e tt)
    go false true f e = f refl
    go false false f e = absurd (subst T e tt)

-- the gradient reads the picture's cells only
against_cong : (t : Bool) {a b c d : ℤ} → a ≡ b → (t ≡ true → c ≡ d) → against t a c ≡ against t b d
against_cong true e f = λ i. sign_of (e i -ℤ f refl i)
against_cong false e f = refl

pub gradient_cong : (h w : ℕ) (A B : Image) → Agree h w A B → Agree h w (gradient h w A) (gradient h w B)
unfolding gradient
gradient_cong h w A B e y x a b = λ i. pos 2 *ℤ (above i +ℤ below i +ℤ left i +ℤ right i)
  where
    above : against (ltb 0 y) (A y x) (A (y - 1) x) ≡ against (ltb 0 y) (B y x) (B (y - 1) x)
    above = against_cong (ltb 0 y) (e y x a b) (λ t. e (y - 1) x (omega arith) b)

    below : against (ltb (suc y) h) (A y x) (A (suc y) x) ≡ against (ltb (suc y) h) (B y x) (B (suc y) x)
    below = against_cong (ltb (suc y) h) (e y x a b) (λ t. e (suc y) x (ltb-true (suc y) h t) b)

    left : against (ltb 0 x) (A y x) (A y (x - 1)) ≡ against (ltb 0 x) (B y x) (B y (x - 1))
    left = against_cong (ltb 0 x) (e y x a b) (λ t. e y (x - 1) a (omega arith))

    right : against (ltb (suc x) w) (A y x) (A y (suc x)) ≡ against (ltb (suc x) w) (B y x) (B y (suc x))
    right = against_cong (ltb (suc x) w) (e y x a b) (λ t. e y (suc x) a (ltb-true (suc x) w t))

-- the plane that the step restores
abbrev pub mixture : ℕ → ℕ → ℕ → (ℕ → ℕ) → ℕ → Image → Image
mixture R h w cs p P y x = pos 16 *ℤ P y x -ℤ pos p *ℤ masked R h w P (slopes R h w cs P) y x

pub mixed : (R h w : ℕ) (cs : ℕ → ℕ) (p : ℕ) (P : Image) (y x : ℕ) → smoothed R h w cs p P y x ≡ numerators R h w cs (mixture R h w cs p P) y x
unfolding smoothed
mixed R h w cs p P y x =
    sym (numerators_sub R h w cs (λ y x. pos 16 *ℤ P y x) (λ y x. pos p *ℤ M y x) y x
    ∙ (λ t. numerators_scale R h w cs (pos 16) P y x t -ℤ numerators_scale R h w cs (pos p) M y x t))
  where
    M : Image
    M = masked R h w P (slopes R h w cs P)

pub unmoved : (R h w : ℕ) (cs : ℕ → ℕ) (p : ℕ) (P : Image) → p ≡ 0 → (y x : ℕ) → smoothed R h w cs p P y x ≡ pos 16 *ℤ numerators R h w cs P y x
unfolding smoothed
unmoved R h w cs p P e y x =
    ap (λ (n : ℕ). pos 16 *ℤ numerators R h w cs P y x -ℤ pos n *ℤ G) e ∙ ring2 (λ a g. k (pos 16) ⊗ a ⊖ k (pos 0) ⊗ g) (λ a g. k (pos 16) ⊗ a) (numerators R h w cs P y x) G tt
  where
    G : ℤ
    G = numerators R h w cs (masked R h w P (slopes R h w cs P)) y x

module _ (R h w : ℕ) (f : Fits R h w) (cs : ℕ → ℕ) (ns : Numbers (all_blocks R h w) cs) (p : ℕ) (P S : Image) (e : Agree h w S (smoothed R h w cs p P)) where
  shown : (y x : ℕ) → y < h → x < w → analyse R h w cs S y x ≡ pos (4 ^ R) *ℤ mixture R h w cs p P y x
  shown y x a b =
      analyse_cong R h w f cs S (numerators R h w cs (mixture R h w cs p P)) (λ y x a b. e y x a b ∙ mixed R h w cs p P y x) y x a b
      ∙ analyse_numerators R h w f cs ns (mixture R h w cs p P) y x a b

  -- at a spared place
  pub spares : (y x : ℕ) → y < h → x < w → spared R h w P y x ≡ true → analyse R h w cs S y x ≡ pos (16 * 4 ^ R) *ℤ P y x
  spares y x a b s =
      shown y x a b
      ∙ ap (λ (t : Bool). pos (4 ^ R) *ℤ (pos 16 *ℤ P y x -ℤ pos p *ℤ cond t (pos 0) (slopes R h w cs P y x))) s
      ∙ ring3 (λ c q z. c ⊗ (k (pos 16) ⊗ z ⊖ q ⊗ k (pos 0))) (λ c q z. k (pos 16) ⊗ c ⊗ z) (pos (4 ^ R)) (pos p) (P y x) tt

  pub spares_low_law : (y x : ℕ) → y < halved R h → x < halved R w → analyse R h w cs S y x ≡ pos (16 * 4 ^ R) *ℤ P y x
  spares_low_law y x a b = spares y x (omega (arith, halved_le R h)) (omega (arith, halved_le R w)) (low_spared R h w P y x a b)

  pub spares_kept_law : (y x : ℕ) → y < h → x < w → (P y x ≡ pos 0 → ⊥) → analyse R h w cs S y x ≡ pos (16 * 4 ^ R) *ℤ P y x
  spares_kept_law y x a b n = spares y x a b (kept_spared R h w P y x n)

  -- at every other place
  pub others : (y x : ℕ) → y < h → x < w → (y < halved R h → x < halved R w → ⊥) → P y x ≡ pos 0 → analyse R h w cs S y x ≡ neg_ℤ (pos (p * 4 ^ R) *ℤ slopes R h w cs P y x)
  others y x a b n z =
      shown y x a b
      ∙ (λ t. pos (4 ^ R) *ℤ (pos 16 *ℤ z t -ℤ pos p *ℤ cond (other_spared R h w P y x n z t) (pos 0) (slopes R h w cs P y x)))
      ∙ ring3 (λ c q d. c ⊗ (k (pos 16) ⊗ k (pos 0) ⊖ q ⊗ d)) (λ c q d. ⊝ (q ⊗ c ⊗ d)) (pos (4 ^ R)) (pos p) (slopes R h w cs P y x) tt
