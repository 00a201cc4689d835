-- A selection of a plane's entries by their numbers in plane order: what it leaves, and what a second one leaves of that. Assumes nothing.
use mathlib.Core.Path.{◌≡◌, ap, sym, ◌∙◌, refl, subst⁻¹}
use mathlib.Core.Logic.{◌⊎◌, inl, inr}
use mathlib.Core.Bool.{Bool, cond, true, false}
use mathlib.Core.List.{List}
use Prim.Native.Nat.{ℕ, zero, suc, ◌+◌, ◌*◌, ◌-◌, ◌/◌, ◌≤◌, ◌<◌, ◌^◌}
use native.Mathlib.Omega.{arith}
use lib.IntN.{pos, ℤ, nat_abs, ◌-ℤ◌, +ℤ_invr}
use lib.ListN.{length, get_or}
use native.Mathlib.Decide.{dec_lt}
use Rattle.pyramid.specs.Plane.{Image, Fits, band, layout, with_low, halved}
use Rattle.pyramid.specs.Places.{Place, places_from, at, tetrolet_places}
use Rattle.pyramid.specs.Slices.{image_of, slice_of}
use Rattle.quota.specs.Quota.{select}
use Rattle.pyramid.proofs.Levels.{layout_low, layout_band}
use Rattle.integers.proofs.Tests.{true_at, false_at}
use Rattle.pyramid.proofs.Places.{none, All, size, all_places, places_inside, at_cong}
use Rattle.pyramid.proofs.Number.{later, number_at, entry_cases}
use Rattle.pyramid.specs.Ranges.{InRange}
use Rattle.pyramid.proofs.Ranges.{halved_le}
use Rattle.integers.specs.Sum.{Σℕ, sq}
use Rattle.integers.proofs.Sums.{Σℕ_cong, Σℕ_zero}
use Rattle.pyramid.proofs.Energy.{low_total, total_cong}
use Rattle.pyramid.proofs.Pyramid.{top_below, left_below}
use Rattle.pyramid.proofs.Slices.{Agree, layout_cong, image_slice, slice_length, slice_of_law}

-- what a selection leaves at the place with the number n
pub select_places : (d R h w : ℕ) → Fits R h w → (stay : ℕ → Bool) (P : Image) → All (λ n p. at (select R h w stay P) p ≡ cond (stay n) (at P p) (pos 0)) (places_from false d R h w)
unfolding places_from select
select_places d zero h w f stay P = λ n l. absurd (omega arith)
select_places d (suc R) h w f stay P =
    all_places (λ n p. at S p ≡ cond (stay n) (at P p) (pos 0)) d R h w
    (λ b y x c k l.
    layout_band h w B (suc b) y x (omega arith) k l
    ∙ ap (λ (m : ℕ). cond (stay (m * size h w + (x * (h / 2) + y))) (band h w P (suc b) y x) (pos 0)) (one_less b))
    (deeper (select_places (suc d) R (h / 2) (w / 2) f.2 stay' P))
  where
    one_less : (b : ℕ) → suc b - 1 ≡ b
    one_less b = omega arith

    stay' : ℕ → Bool
    stay' n = stay (size h w + (size h w + (size h w + n)))

    B : ℕ → Image
    B = with_low (select R (h / 2) (w / 2) stay' P) (λ b y x. cond (stay ((b - 1) * size h w + (x * (h / 2) + y))) (band h w P b y x) (pos 0))

    S : Image
    S = layout h w B

    deeper : All (λ n p. at (select R (h / 2) (w / 2) stay' P) p ≡ cond (stay' n) (at P p) (pos 0)) (places_from false (suc d) R (h / 2) (w / 2)) → All (λ n p. at S p ≡ cond (stay' n) (at P p) (pos 0)) (places_from false (suc d) R (h / 2) (w / 2))
    deeper g n l =
        let i = places_inside (suc d) R (h / 2) (w / 2) f.2 n l in
        let p = get_or (places_from false (suc d) R (h / 2) (w / 2)) n none in
        layout_low h w B p.down p.across i.0 i.1 ∙ g n l

-- what a selection leaves, by the number
abbrev pub chosen_by : (ℕ → Bool) → ℤ → ℕ → ℤ
chosen_by stay z zero = z
chosen_by stay z (suc n) = cond (stay n) z (pos 0)

later_chosen : (s n : ℕ) (stay : ℕ → Bool) (z : ℤ) → chosen_by (λ m. stay (s + (s + (s + m)))) z n ≡ chosen_by stay z (later s n)
later_chosen s zero stay z = refl
later_chosen s (suc n) stay z = refl

pub select_number : (R h w : ℕ) → Fits R h w → (stay : ℕ → Bool) (P : Image) (y x : ℕ) → y < h → x < w → select R h w stay P y x ≡ chosen_by stay (P y x) (number_at R h w y x)
unfolding select number_at
select_number zero h w f stay P y x k l = refl
select_number (suc R) h w f stay P y x k l = go (dec_lt y (h / 2)) (dec_lt x (w / 2)) (select_number R (h / 2) (w / 2) f.2 stay' P y x)
  where
    stay' : ℕ → Bool
    stay' m = stay (size h w + (size h w + (size h w + m)))

    e₀ : (m n : ℕ) → n ≤ m → n + (m - n) ≡ m
    e₀ m n h = omega arith

    zero_plus : (m : ℕ) → 0 + m ≡ m
    zero_plus m = omega arith

    go : Dec (y < h / 2) → Dec (x < w / 2) → (y < h / 2 → x < w / 2 → select R (h / 2) (w / 2) stay' P y x ≡ chosen_by stay' (P y x) (number_at R (h / 2) (w / 2) y x))
        → select (suc R) h w stay P y x ≡ chosen_by stay (P y x) (number_at (suc R) h w y x)
    go (yes a) (yes b) ih = rw (true_at y (h / 2) a, true_at x (w / 2) b) (ih a b ∙ later_chosen (size h w) (number_at R (h / 2) (w / 2) y x) stay (P y x))
    go (yes a) (no b) ih = rw (true_at y (h / 2) a, false_at x (w / 2) (omega arith)) (λ t. cond (stay (0 * size h w + ((x - w / 2) * (h / 2) + y))) (P (zero_plus y t) (e₀ x (w / 2) (omega arith) t)) (pos 0))
    go (no a) (yes b) ih = rw (false_at y (h / 2) (omega arith), true_at x (w / 2) b) (λ t. cond (stay (1 * size h w + (x * (h / 2) + (y - h / 2)))) (P (e₀ y (h / 2) (omega arith) t) (zero_plus x t)) (pos 0))
    go (no a) (no b) ih = rw (false_at y (h / 2) (omega arith), false_at x (w / 2) (omega arith)) (λ t. cond (stay (2 * size h w + ((x - w / 2) * (h / 2) + (y - h / 2)))) (P (e₀ y (h / 2) (omega arith) t) (e₀ x (w / 2) (omega arith) t)) (pos 0))

-- the low-pass is as it was
pub select_low : (R h w : ℕ) (stay : ℕ → Bool) (P : Image) (y x : ℕ) → y < halved R h → x < halved R w → select R h w stay P y x ≡ P y x
unfolding select
select_low zero h w stay P y x k l = refl
select_low (suc R) h w stay P y x k l =
    layout_low h w (with_low (select R (h / 2) (w / 2) (λ n. stay (size + (size + (size + n)))) P) (λ b y x. cond (stay ((b - 1) * size + (x * (h / 2) + y))) (band h w P b y x) (pos 0))) y x
    (omega (arith, halved_le R (h / 2))) (omega (arith, halved_le R (w / 2)))
    ∙ select_low R (h / 2) (w / 2) (λ n. stay (size + (size + (size + n)))) P y x k l
  where
    size : ℕ
    size = (w / 2) * (h / 2)

-- a selection leaves a plane in range
pub selected_range_law : (R h w : ℕ) → Fits R h w → (stay : ℕ → Bool) (P : Image) → InRange R h w P → InRange R h w (select R h w stay P)
selected_range_law R h w f stay P r = record {
  low = λ y x k l. subst⁻¹ (λ (z : ℤ). (n : ℕ) × (z ≡ pos n) × (n ≤ 4095 * 4 ^ R)) (select_low R h w stay P y x k l) (r.low y x k l);
  tetrolet = λ k l. go (stay k) (at P (get_or (tetrolet_places R h w) k none)) (select_places 0 R h w f stay P k l) (r.tetrolet k l);
}
  where
    go : (b : Bool) {z : ℤ} {m : ℕ} (y : ℤ) → z ≡ cond b y (pos 0) → nat_abs y ≤ m → nat_abs z ≤ m
    go true {m = m} y e h = subst⁻¹ (λ (x : ℤ). nat_abs x ≤ m) e h
    go false {m = m} y e h = subst⁻¹ (λ (x : ℤ). nat_abs x ≤ m) e (omega arith)

-- planes with the same low-pass and the same entry at each place are the same slice
module _ (R h w : ℕ) (f : Fits R h w) where
  abbrev places : List Place
  places = tetrolet_places R h w

  same_plane : (A B : Image)
      → ((y x : ℕ) → y < halved R h → x < halved R w → A y x ≡ B y x)
      → ((m : ℕ) → m < length places → at A (get_or places m none) ≡ at B (get_or places m none))
      → slice_of h w A ≡ slice_of h w B
  same_plane A B low tetrolet = slice_of_law h w B (slice_of h w A) (slice_length h w A) (λ y x k l. image_slice h w A y x k l ∙ go y x (entry_cases 0 R h w f y x k l))
    where
      go : (y x : ℕ) → ((y < halved R h) × (x < halved R w)) ⊎ ((m : ℕ) × (m < length places) × ((get_or places m none).down ≡ y) × ((get_or places m none).across ≡ x)) → A y x ≡ B y x
      go y x (inl i) = low y x i.0 i.1
      go y x (inr r) = (λ t. A (sym r.2 t) (sym r.3 t)) ∙ tetrolet r.0 r.1 ∙ (λ t. B (r.2 t) (r.3 t))

  -- selections that leave the same at each place
  pub same_selected : (a b : ℕ → Bool) (P : Image)
      → ((m : ℕ) → m < length places → cond (a m) (at P (get_or places m none)) (pos 0) ≡ cond (b m) (at P (get_or places m none)) (pos 0))
      → slice_of h w (select R h w a P) ≡ slice_of h w (select R h w b P)
  same_selected a b P e =
      same_plane (select R h w a P) (select R h w b P)
      (λ y x k l. select_low R h w a P y x k l ∙ sym (select_low R h w b P y x k l))
      (λ m l. select_places 0 R h w f a P m l ∙ e m l ∙ sym (select_places 0 R h w f b P m l))

  -- a selection of the slice that a selection left
  module _ (a : ℕ → Bool) (P : Image) where
    abbrev left : Image
    left = image_of h (slice_of h w (select R h w a P))

    pub left_at : (m : ℕ) → m < length places → at left (get_or places m none) ≡ cond (a m) (at P (get_or places m none)) (pos 0)
    left_at m l = at_cong R h w f left (select R h w a P) (image_slice h w (select R h w a P)) m l ∙ select_places 0 R h w f a P m l

    pub selected-again : (b c : ℕ → Bool)
        → ((m : ℕ) → m < length places → cond (b m) (cond (a m) (at P (get_or places m none)) (pos 0)) (pos 0) ≡ cond (c m) (at P (get_or places m none)) (pos 0))
        → slice_of h w (select R h w b left) ≡ slice_of h w (select R h w c P)
    selected-again b c e =
        same_plane (select R h w b left) (select R h w c P)
        (λ y x k l.
        select_low R h w b left y x k l
        ∙ image_slice h w (select R h w a P) y x (omega (arith, halved_le R h)) (omega (arith, halved_le R w))
        ∙ select_low R h w a P y x k l ∙ sym (select_low R h w c P y x k l))
        (λ m l.
        select_places 0 R h w f b left m l
        ∙ ap (λ (z : ℤ). cond (b m) z (pos 0)) (left_at m l) ∙ e m l ∙ sym (select_places 0 R h w f c P m l))

-- a selection leaves the low-pass
low_cong : (R h w : ℕ) (f g : ℕ → ℕ → ℕ) → ((y x : ℕ) → f y x ≡ g y x) → low_total R h w f ≡ low_total R h w g
low_cong zero h w f g e = total_cong h w f g (λ y x k l. e y x)
low_cong (suc R) h w f g e = low_cong R (h / 2) (w / 2) f g e

pub low_selected : (R h w : ℕ) (stay : ℕ → Bool) (P S : Image) → ((y x : ℕ) → y < h → x < w → S y x ≡ select R h w stay P y x) → low_total R h w (λ y x. sq (S y x -ℤ P y x)) ≡ 0
unfolding select
low_selected zero h w stay P S e =
    total_cong h w (λ y x. sq (S y x -ℤ P y x)) (λ y x. 0) (λ y x k l. ap (λ (z : ℤ). sq (z -ℤ P y x)) (e y x k l) ∙ ap sq (+ℤ_invr (P y x)))
    ∙ Σℕ_cong w (λ x. Σℕ h (λ y. 0)) (λ x. 0) (λ x l. Σℕ_zero h) ∙ Σℕ_zero w
low_selected (suc R) h w stay P S e =
    low_selected R (h / 2) (w / 2) (λ n. stay (size + (size + (size + n)))) P S
    (λ y x k l. e y x (omega arith) (omega arith) ∙ layout_low h w (with_low (select R (h / 2) (w / 2) (λ n. stay (size + (size + (size + n)))) P) (λ b y x. cond (stay ((b - 1) * size + (x * (h / 2) + y))) (band h w P b y x) (pos 0))) y x k l)
  where
    size : ℕ
    size = (w / 2) * (h / 2)

pub select_cong : (R h w : ℕ) → Fits R h w → (stay : ℕ → Bool) (P Q : Image) → Agree h w P Q → Agree h w (select R h w stay P) (select R h w stay Q)
unfolding select
select_cong zero h w f stay P Q e = e
select_cong (suc R) h w f stay P Q e =
    layout_cong h w f.0 f.1 (B P) (B Q) (same (select_cong R (h / 2) (w / 2) f.2 stay' P Q (λ y x k l. e y x (omega arith) (omega arith))))
  where
    size : ℕ
    size = (w / 2) * (h / 2)

    stay' : ℕ → Bool
    stay' n = stay (size + (size + (size + n)))

    B : Image → ℕ → Image
    B P = with_low (select R (h / 2) (w / 2) stay' P) (λ b y x. cond (stay ((b - 1) * size + (x * (h / 2) + y))) (band h w P b y x) (pos 0))

    same : Agree (h / 2) (w / 2) (select R (h / 2) (w / 2) stay' P) (select R (h / 2) (w / 2) stay' Q) → (b y x : ℕ) → b < 4 → y < h / 2 → x < w / 2 → B P b y x ≡ B Q b y x
    same ih zero y x c k l = ih y x k l
    same ih (suc b) y x c k l =
        ap (λ (z : ℤ). cond (stay ((suc b - 1) * size + (x * (h / 2) + y))) z (pos 0))
        (e _ _ (top_below h (suc b) y f.0 k) (left_below w (suc b) x f.1 l))
