-- The number of a plane's entry in plane order, from its row and column: each entry is of the low-pass or is one place, and a selection asks only for its number.
-- What a loop along the places needs. Assumes nothing.
use mathlib.Core.Path.{◌≡◌, refl, ap, ◌∙◌, subst⁻¹}
use mathlib.Core.Logic.{◌⊎◌, inl, inr}
use mathlib.Core.Bool.{cond, false}
use Prim.Native.Nat.{ℕ, zero, suc, ◌+◌, ◌*◌, ◌-◌, ◌/◌, ◌%◌, ◌<◌}
use native.Mathlib.Omega.{arith}
use native.Mathlib.Decide.{dec_lt}
use lib.Dec.{ltb}
use lib.ListN.{length, get_or}
use Rattle.pyramid.specs.Plane.{Fits, top, left, halved}
use Rattle.pyramid.specs.Places.{Place, places_from}
use Rattle.integers.proofs.Index.{index_bound}
use Rattle.integers.proofs.Tests.{true_at, false_at}
use Rattle.pyramid.proofs.Places.{none, All, size, all_places, places_inside, length_places, place_number, other_number}

-- 0 for the low-pass, and one more than its number for a tetrolet entry
abbrev pub later : ℕ → ℕ → ℕ
later s zero = 0
later s (suc n) = suc (s + (s + (s + n)))

abbrev in_band : ℕ → ℕ → ℕ → ℕ → ℕ → ℕ
in_band h w b y x = suc (b * size h w + (x * (h / 2) + y))

unfoldable pub number_at : ℕ → ℕ → ℕ → ℕ → ℕ → ℕ
number_at zero h w y x = 0
number_at (suc R) h w y x =
    cond (ltb y (h / 2))
    (cond (ltb x (w / 2)) (later (size h w) (number_at R (h / 2) (w / 2) y x)) (in_band h w 0 y (x - w / 2)))
    (cond (ltb x (w / 2)) (in_band h w 1 (y - h / 2) x) (in_band h w 2 (y - h / 2) (x - w / 2)))

-- the number of a band's entry
number_band : (R h w b y x : ℕ) → b < 3 → y < h / 2 → x < w / 2 → number_at (suc R) h w (top h (suc b) + y) (left w (suc b) + x) ≡ in_band h w b y x
unfolding number_at
number_band R h w zero y x c k l = rw (true_at (0 + y) (h / 2) (omega arith), false_at (w / 2 + x) (w / 2) (omega arith)) (λ t. in_band h w 0 (e₁ t) (e₂ t))
  where
    e₁ : 0 + y ≡ y
    e₁ = omega arith

    e₂ : w / 2 + x - w / 2 ≡ x
    e₂ = omega arith
number_band R h w (suc zero) y x c k l = rw (false_at (h / 2 + y) (h / 2) (omega arith), true_at (0 + x) (w / 2) (omega arith)) (λ t. in_band h w 1 (e₁ t) (e₂ t))
  where
    e₁ : h / 2 + y - h / 2 ≡ y
    e₁ = omega arith

    e₂ : 0 + x ≡ x
    e₂ = omega arith
number_band R h w (suc (suc zero)) y x c k l = rw (false_at (h / 2 + y) (h / 2) (omega arith), false_at (w / 2 + x) (w / 2) (omega arith)) (λ t. in_band h w 2 (e₁ t) (e₂ t))
  where
    e₁ : h / 2 + y - h / 2 ≡ y
    e₁ = omega arith

    e₂ : w / 2 + x - w / 2 ≡ x
    e₂ = omega arith
number_band R h w (suc (suc (suc b))) y x c k l = absurd (omega arith)

number_low : (R h w y x : ℕ) → y < h / 2 → x < w / 2 → number_at (suc R) h w y x ≡ later (size h w) (number_at R (h / 2) (w / 2) y x)
unfolding number_at
number_low R h w y x k l = rw (true_at y (h / 2) k, true_at x (w / 2) l) refl

-- the place with the number n has the number n: no two places are one entry
pub number_place : (d R h w : ℕ) → Fits R h w → All (λ n p. number_at R h w p.down p.across ≡ suc n) (places_from false d R h w)
unfolding places_from
number_place d zero h w f = λ n l. absurd (omega arith)
number_place d (suc R) h w f =
    all_places (λ n p. number_at (suc R) h w p.down p.across ≡ suc n) d R h w
    (λ b y x c k l. number_band R h w b y x c k l)
    (deeper (number_place (suc d) R (h / 2) (w / 2) f.2))
  where
    deeper : All (λ n p. number_at R (h / 2) (w / 2) p.down p.across ≡ suc n) (places_from false (suc d) R (h / 2) (w / 2))
        → All (λ n p. number_at (suc R) h w p.down p.across ≡ suc (size h w + (size h w + (size h w + n)))) (places_from false (suc d) R (h / 2) (w / 2))
    deeper g n l =
        let i = places_inside (suc d) R (h / 2) (w / 2) f.2 n l in
        let p = get_or (places_from false (suc d) R (h / 2) (w / 2)) n none in
        number_low R h w p.down p.across i.0 i.1 ∙ ap (λ (m : ℕ). later (size h w) m) (g n l)

-- how many tetrolet entries there are
pub places_count : (d R h w : ℕ) → Fits R h w → length (places_from false d R h w) + halved R w * halved R h ≡ w * h
unfolding places_from
places_count d zero h w f = omega arith
places_count d (suc R) h w f =
    sum (w / 2) (h / 2) (length (places_from false (suc d) R (h / 2) (w / 2))) (halved R (w / 2) * halved R (h / 2)) (length_places d R h w) (places_count (suc d) R (h / 2) (w / 2) f.2) (whole w f.1) (whole h f.0)
  where
    whole : (m : ℕ) → m % 4 ≡ 0 → m ≡ 2 * (m / 2)
    whole m e = omega arith

    sum : (a b n c : ℕ) {t u v : ℕ} → t ≡ a * b + (a * b + (a * b + n)) → n + c ≡ a * b → u ≡ 2 * a → v ≡ 2 * b → t + c ≡ u * v
    sum a b n c e g p q = rw (p, q) (omega arith)

-- each entry is of the low-pass or is a place
pub entry_cases : (d R h w : ℕ) → Fits R h w → (y x : ℕ) → y < h → x < w
    → ((y < halved R h) × (x < halved R w)) ⊎ ((n : ℕ) × (n < length (places_from false d R h w)) × ((get_or (places_from false d R h w) n none).down ≡ y) × ((get_or (places_from false d R h w) n none).across ≡ x))
entry_cases d zero h w f y x k l = inl (k, l)
entry_cases d (suc R) h w f y x k l = go (dec_lt y (h / 2)) (dec_lt x (w / 2)) (entry_cases (suc d) R (h / 2) (w / 2) f.2 y x)
  where
    n' : ℕ
    n' = length (places_from false (suc d) R (h / 2) (w / 2))

    Found : Type 0
    Found = (n : ℕ) × (n < length (places_from false d (suc R) h w)) × ((get_or (places_from false d (suc R) h w) n none).down ≡ y) × ((get_or (places_from false d (suc R) h w) n none).across ≡ x)

    below : (b m : ℕ) → b < 3 → m < size h w → b * size h w + m < length (places_from false d (suc R) h w)
    below b m c l = subst⁻¹ (λ (t : ℕ). b * size h w + m < t) (length_places d R h w) (on b c)
      where
        on : (b : ℕ) → b < 3 → b * size h w + m < size h w + (size h w + (size h w + n'))
        on zero c = omega arith
        on (suc zero) c = omega arith
        on (suc (suc zero)) c = omega arith
        on (suc (suc (suc b))) c = absurd (omega arith)

    in_band_law : (b i j : ℕ) → b < 3 → i < h / 2 → j < w / 2 → top h (suc b) + i ≡ y → left w (suc b) + j ≡ x → Found
    in_band_law b i j c p q e g = (
      b * size h w + (j * (h / 2) + i),
      below b (j * (h / 2) + i) c (index_bound j i (w / 2) (h / 2) q p),
      ap (λ (p : Place). p.down) (place_number d R h w b i j c p q) ∙ e,
      ap (λ (p : Place). p.across) (place_number d R h w b i j c p q) ∙ g,
    )

    go : Dec (y < h / 2) → Dec (x < w / 2)
        → (y < h / 2 → x < w / 2 → ((y < halved R (h / 2)) × (x < halved R (w / 2))) ⊎ ((n : ℕ) × (n < n') × ((get_or (places_from false (suc d) R (h / 2) (w / 2)) n none).down ≡ y) × ((get_or (places_from false (suc d) R (h / 2) (w / 2)) n none).across ≡ x)))
        → ((y < halved R (h / 2)) × (x < halved R (w / 2))) ⊎ Found
    go (yes a) (yes b) ih = on (ih a b)
      where
        on : ((y < halved R (h / 2)) × (x < halved R (w / 2))) ⊎ ((n : ℕ) × (n < n') × ((get_or (places_from false (suc d) R (h / 2) (w / 2)) n none).down ≡ y) × ((get_or (places_from false (suc d) R (h / 2) (w / 2)) n none).across ≡ x)) → ((y < halved R (h / 2)) × (x < halved R (w / 2))) ⊎ Found
        on (inl i) = inl i
        on (inr r) = inr (
          size h w + (size h w + (size h w + r.0)),
          subst⁻¹ (λ (t : ℕ). size h w + (size h w + (size h w + r.0)) < t) (length_places d R h w) (more r.0 n' r.1),
          ap (λ (p : Place). p.down) (other_number d R h w r.0) ∙ r.2,
          ap (λ (p : Place). p.across) (other_number d R h w r.0) ∙ r.3,
        )
          where
            more : (m n : ℕ) → m < n → size h w + (size h w + (size h w + m)) < size h w + (size h w + (size h w + n))
            more m n l = omega arith
    go (yes a) (no b) ih = inr (in_band_law 0 y (x - w / 2) (omega arith) a (omega arith) (omega arith) (omega arith))
    go (no a) (yes b) ih = inr (in_band_law 1 (y - h / 2) x (omega arith) (omega arith) b (omega arith) (omega arith))
    go (no a) (no b) ih = inr (in_band_law 2 (y - h / 2) (x - w / 2) (omega arith) (omega arith) (omega arith) (omega arith) (omega arith))
