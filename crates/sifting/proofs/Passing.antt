-- A pass along the tetrolet entries that stores each entry again or 0: what it has stored, and that all stores together are a selection. Assumes nothing.
use mathlib.Core.Path.{◌≡◌, refl, sym, ap, ◌∙◌, subst, subst⁻¹}
use mathlib.Core.Logic.{◌⊎◌, inl, inr}
use mathlib.Core.Bool.{Bool, true, false, cond}
use mathlib.Core.List.{List, ◌∷◌}
use Prim.Native.Nat.{ℕ, zero, suc, ◌+◌, ◌*◌, ◌-◌, ◌/◌, ◌%◌, ◌^◌, ◌<◌, ◌≤◌}
use native.Mathlib.Omega.{arith}
use native.Mathlib.Nat.{zero-mul}
use lib.Dec.{T, eqb, ltb, ltb→lt, eqb→eq}
use lib.IntN.{ℤ, pos, nat_abs}
use lib.ListN.{length, get_or, drop, length-drop}
use lib.Seq.{drop-cons}
use Rattle.integers.specs.Sum.{Σℕ}
use Rattle.integers.proofs.Sums.{Σℕ_cong}
use Rattle.integers.proofs.Tests.{true_at, is_false, both_left}
use Rattle.integers.proofs.Index.{index_bound, column_row, column_col}
use Rattle.slices.specs.Stores.{scatter}
use Rattle.slices.proofs.Stores.{scatter_length, scatter_out, scatter_in}
use Rattle.pyramid.specs.Plane.{Image, Fits, halved}
use Rattle.pyramid.specs.Places.{Place, no_place, tetrolet_places, at}
use Rattle.pyramid.specs.Ranges.{InRange, in_range}
use Rattle.pyramid.specs.Slices.{image_of, slice_of}
use Rattle.pyramid.proofs.Places.{none, places_inside, places_levels, sum_numbers}
use Rattle.pyramid.proofs.Number.{later, number_at, number_place, entry_cases}
use Rattle.pyramid.proofs.Ranges.{halved_le}
use Rattle.pyramid.proofs.Slices.{image_slice, slice_of_law}
use Rattle.pyramid.proofs.Whole.{ranged}
use Rattle.places.specs.declared.walk.Walk.{Walk}
use Rattle.places.specs.Walk.{entries_left, entry_of, index_in}
use Rattle.places.proofs.Sides.{passed}
use Rattle.integers.specs.Zero.{is_zero}
use Rattle.quota.specs.Quota.{ranks, select, entries_of}
use Rattle.quota.proofs.Select.{select_places, select_low}
use Rattle.quota.proofs.Flat.{entries_cong}
use Rattle.quota.proofs.Demand.{q_at}
use Rattle.sifting.specs.Sifting.{Ready, sifts}

-- where the place with the number k stands, what is stored there, and what the first m stores leave
abbrev pub spot : ℕ → ℕ → ℕ → ℕ → ℕ
spot R h w k = index_in h (get_or (tetrolet_places R h w) k no_place)

abbrev pub value : ℕ → ℕ → ℕ → (ℕ → Bool) → List ℤ → ℕ → ℤ
value R h w stay p k = cond (stay k) (get_or p (spot R h w k) (pos 0)) (pos 0)

abbrev pub stores : ℕ → ℕ → ℕ → (ℕ → Bool) → ℕ → List ℤ → List ℤ
stores R h w stay m p = scatter (spot R h w) (value R h w stay p) m p

flat : (h x y x' y' : ℕ) → y < h → y' < h → x * h + y ≡ x' * h + y' → (y ≡ y') × (x ≡ x')
flat h x y x' y' k l e = (
  sym (column_row x y h k) ∙ ap (λ (z : ℕ). z % h) e ∙ column_row x' y' h l,
  sym (column_col x y h k) ∙ ap (λ (z : ℕ). z / h) e ∙ column_col x' y' h l,
)

-- the low-pass has the number 0
number_of_low : (R h w y x : ℕ) → y < halved R h → x < halved R w → number_at R h w y x ≡ 0
unfolding number_at
number_of_low zero h w y x k l = refl
number_of_low (suc R) h w y x k l =
    rw (true_at y (h / 2) (omega (arith, halved_le R (h / 2))), true_at x (w / 2) (omega (arith, halved_le R (w / 2))))
    (ap (λ (m : ℕ). later ((w / 2) * (h / 2)) m) (number_of_low R (h / 2) (w / 2) y x k l))

module _ (R h w : ℕ) (f : Fits R h w) where
  abbrev ps : List Place
  ps = tetrolet_places R h w

  -- an entry that stands at a place has its number
  number_at_spot : (y x j : ℕ) → y < h → j < length ps → x * h + y ≡ spot R h w j → number_at R h w y x ≡ suc j
  number_at_spot y x j k l e =
      let i = places_inside 0 R h w f j l in
      let g = flat h x y (get_or ps j none).across (get_or ps j none).down k i.0 e in
      (λ t. number_at R h w (g.0 t) (g.1 t)) ∙ number_place 0 R h w f j l

  pub spots_differ : (i j : ℕ) → i < length ps → j < length ps → spot R h w i ≡ spot R h w j → i ≡ j
  spots_differ i j k l e =
      let a = places_inside 0 R h w f i k in
      let g = sym (number_place 0 R h w f i k) ∙ number_at_spot (get_or ps i none).down (get_or ps i none).across j a.0 l e in
      omega arith

  pub spot_below : (j : ℕ) → j < length ps → spot R h w j < w * h
  spot_below j l = let i = places_inside 0 R h w f j l in index_bound (get_or ps j none).across (get_or ps j none).down w h i.1 i.0

  module _ (stay : ℕ → Bool) (p : List ℤ) where
    -- an entry is as it was until the pass reaches it
    pub unread : (m : ℕ) → m < length ps → get_or (stores R h w stay m p) (spot R h w m) (pos 0) ≡ get_or p (spot R h w m) (pos 0)
    unread m l = scatter_out (spot R h w) (value R h w stay p) p m (spot R h w m) (pos 0) (λ j k e. let d = spots_differ m j l (omega arith) e in omega arith)

    pub stores-all : length p ≡ w * h → stores R h w stay (length ps) p ≡ slice_of h w (select R h w stay (image_of h p))
    stores-all long =
        slice_of_law h w (select R h w stay (image_of h p)) (stores R h w stay (length ps) p) (scatter_length (spot R h w) (value R h w stay p) p (length ps) ∙ long) agree
      where
        P : Image
        P = image_of h p

        agree : (y x : ℕ) → y < h → x < w → get_or (stores R h w stay (length ps) p) (x * h + y) (pos 0) ≡ select R h w stay P y x
        agree y x k l = go (entry_cases 0 R h w f y x k l)
          where
            go : ((y < halved R h) × (x < halved R w)) ⊎ ((m : ℕ) × (m < length ps) × ((get_or ps m none).down ≡ y) × ((get_or ps m none).across ≡ x))
                → get_or (stores R h w stay (length ps) p) (x * h + y) (pos 0) ≡ select R h w stay P y x
            go (inl i) =
                scatter_out (spot R h w) (value R h w stay p) p (length ps) (x * h + y) (pos 0)
                (λ j b e. let a = sym (number_at_spot y x j k b e) ∙ number_of_low R h w y x i.0 i.1 in omega arith)
                ∙ sym (select_low R h w stay P y x i.0 i.1)
            go (inr r) =
                (λ t. get_or (stores R h w stay (length ps) p) (sym r.3 t * h + sym r.2 t) (pos 0))
                ∙ scatter_in (spot R h w) (value R h w stay p) p (length ps) r.0 (pos 0) r.1 (subst⁻¹ (λ (z : ℕ). spot R h w r.0 < z) long (spot_below r.0 r.1))
                (λ j a b e. let d = spots_differ r.0 j r.1 b e in omega arith)
                ∙ sym (select_places 0 R h w f stay P r.0 r.1)
                ∙ (λ t. select R h w stay P (r.2 t) (r.3 t))

-- how many entries a selection leaves that are not zero, where none that stays is zero
pub count_selected : (R h w : ℕ) → Fits R h w → (stay : ℕ → Bool) (P : Image)
    → ((m : ℕ) → m < length (tetrolet_places R h w) → stay m ≡ true → 0 < nat_abs (at P (get_or (tetrolet_places R h w) m none)))
    → entries_of R h w (slice_of h w (select R h w stay P)) ≡ Σℕ (length (tetrolet_places R h w)) (λ m. cond (stay m) 1 0)
count_selected R h w f stay P some =
    entries_cong R h w f (image_of h (slice_of h w S)) S (image_slice h w S)
    ∙ sum_numbers ps (λ p. cond (is_zero (at S p)) 0 1)
    ∙ Σℕ_cong (length ps) (λ m. cond (is_zero (at S (get_or ps m none))) 0 1) (λ m. cond (stay m) 1 0) (λ m l. ap {B = ℕ} (λ (z : ℤ). cond (is_zero z) 0 1) (select_places 0 R h w f stay P m l) ∙ go (stay m) (at P (get_or ps m none)) (some m l))
  where
    ps : List Place
    ps = tetrolet_places R h w

    S : Image
    S = select R h w stay P

    go : (b : Bool) (z : ℤ) → (b ≡ true → 0 < nat_abs z) → ◌≡◌ {A = ℕ} (cond (is_zero (cond b z (pos 0))) 0 1) (cond b 1 0)
    go true z o = ap {B = ℕ} (λ (b : Bool). cond b 0 1) (is_false (eqb (nat_abs z) 0) (λ t. let e = eqb→eq (nat_abs z) 0 t in let l = o refl in omega arith))
    go false z o = refl

-- ---- at one place of a walk

-- what is known where a walk stands at the place with the number m
pub record Here (R h w : ℕ) (p : List ℤ) (m : ℕ) (k : Walk) : Type 0 where
  pub number : m < length (tetrolet_places R h w)
  pub index : index_in h (entry_of k) ≡ spot R h w m
  pub low : 1 ≤ k.level
  pub high : k.level ≤ R
  pub most : R ≤ 8
  pub rank : get_or (ranks R h w (image_of h p)) m 0 ≡ nat_abs (get_or p (spot R h w m) (pos 0)) * 2 ^ (R - k.level)
  pub bound : nat_abs (get_or p (spot R h w m) (pos 0)) ≤ 2 * 4 ^ (k.level - 1) * 4095

pub in_range_law : (R h w : ℕ) (P : Image) → 1 ≤ R → in_range R h w P ≡ true → InRange R h w P
in_range_law zero h w P l e = absurd (omega arith)
in_range_law (suc R) h w P l e = (ranged R h w P).0 (subst T (sym e) tt)

pub more_left : (l : List Place) (m : ℕ) (x : Place) (t : List Place) → drop m l ≡ x ∷ t → m < length l
more_left l m x t e = let a = ap length e in omega (arith, length-drop m l)

pub here : (R h w : ℕ) (p : List ℤ) → Ready h w R p → (m : ℕ) (k : Walk) (t : List Place) → entries_left k ≡ drop m (tetrolet_places R h w) → entries_left k ≡ entry_of k ∷ t → Here R h w p m k
here R h w p r m k t e g =
    let q = passed h w R r.sided r.deep in
    let l = more_left ps m (entry_of k) t (sym e ∙ g) in
    let d = sym (drop-cons ps m none l) ∙ sym e ∙ g in
    let is : get_or ps m none ≡ entry_of k = head-is d in
    let v = places_levels 0 R R h w (omega arith) m l in
    let lv : (get_or ps m none).level ≡ k.level = ap (λ (x : Place). x.level) is in
    record {
      number = l;
      index = ap (index_in h) (sym is);
      low = omega (arith, v.0);
      high = omega (arith, v.1);
      most = omega (arith, q.few);
      rank = q_at R h w q.fits 0 (image_of h p) m l ∙ ap (λ (x : ℕ). nat_abs (get_or p (spot R h w m) (pos 0)) * 2 ^ (R - x)) lv;
      bound = subst (λ (x : ℕ). nat_abs (get_or p (spot R h w m) (pos 0)) ≤ 2 * 4 ^ (x - 1) * 4095) lv ((in_range_law R h w (image_of h p) q.some_level r.range).tetrolet m l);
    }
  where
    ps : List Place
    ps = tetrolet_places R h w

    head-is : {a b : Place} {u v : List Place} → a ∷ u ≡ b ∷ v → a ≡ b
    head-is e = cc

-- an entry that a pass leaves is not zero
pub sifted_not_zero : (R h w : ℕ) → Fits R h w → (P : Image) (limit left m : ℕ) → m < length (tetrolet_places R h w) → sifts limit left (ranks R h w P) m ≡ true → 0 < nat_abs (at P (get_or (tetrolet_places R h w) m none))
sifted_not_zero R h w f P limit left m l e =
    go (nat_abs (at P (get_or (tetrolet_places R h w) m none))) (2 ^ (R - (get_or (tetrolet_places R h w) m none).level))
    (subst (λ (x : ℕ). 0 < x) (q_at R h w f 0 P m l) (ltb→lt 0 (get_or (ranks R h w P) m 0) (both_left (ltb 0 (get_or (ranks R h w P) m 0)) _ (subst T (sym e) tt))))
  where
    go : (a b : ℕ) → 0 < a * b → 0 < a
    go zero b e = absurd (let z = zero-mul b in omega arith)
    go (suc a) b e = omega arith
