-- The places of a plane: each entry once, each with a key of its own, and all numbers small. Assumes nothing.
use mathlib.Core.Path.{◌≡◌, refl, sym, ap, ◌∙◌, subst}
use mathlib.Core.Bool.{Bool, true, false, ◌&&◌}
use mathlib.Core.List.{List, [], ◌∷◌, ◌++◌}
use mathlib.Core.Logic.{◌≢◌}
use Prim.Native.Nat.{ℕ, zero, suc, ◌+◌, ◌-◌, ◌*◌, ◌/◌, ◌%◌, ◌<◌, ◌≤◌}
use native.Mathlib.Nat.{div-add-mod'}
use native.Mathlib.Omega.{arith}
use borrow.Author.Tests.{eqb-true}
use lib.Dec.{eqb}
use lib.IntN.{pos}
use lib.ListN.{length, get_or, length-append}
use Rattle.integers.specs.Lists.{tabulate}
use Rattle.integers.proofs.Index.{index_bound, index_place, column_row, column_col}
use Rattle.integers.proofs.Tabulate.{length_tabulate}
use Rattle.pyramid.specs.Plane.{Fits, top, left, halved, all_blocks, blocks}
use Rattle.pyramid.specs.Places.{Place, BlockPlace, place_at, no_place, band_places, places_from, plane_places, blocks_from, block_places}
use Rattle.pyramid.proofs.Places.{All, all_append, all_band, all_bands}
use Rattle.pyramid.proofs.Order.{plane_inside, number_of, plane_count, entry_at, number_in}
use Rattle.places.specs.Walk.{index_in}
use Rattle.sheet_text.specs.Rows.{is_place, entry_row}
use Rattle.sheet_text.proofs.Each.{Each, Pairs, each_of, pairs_of, each_append, each_tabulate}
use Rattle.integers.proofs.Tests.{both_true}
use Rattle.sheet_text.proofs.Lines.{OtherKey}
use Rattle.sheet_text.proofs.Spread.{OtherIndex, AtIndex, at_number}
use Rattle.places.proofs.Sides.{Passed}

-- ---- what is known of each place behind the first d levels, where T is the last level

pub record Known (d T h w : ℕ) (p : Place) : Type 0 where
  pub above : d < p.level
  pub below : p.level ≤ T
  pub band : p.band ≤ 3
  pub row : p.row < h
  pub col : p.col < w
  pub down : p.down ≡ top (halved (p.level - suc d) h) p.band + p.row
  pub across : p.across ≡ left (halved (p.level - suc d) w) p.band + p.col

here : (d T h w b y x : ℕ) → d < T → b < 4 → y < h / 2 → x < w / 2 → Known d T h w (place_at h w (suc d) b y x)
here d T h w b y x t c k l =
    let e : suc d - suc d ≡ 0 = omega arith in
    record {
      above = omega arith;
      below = t;
      band = omega arith;
      row = omega arith;
      col = omega arith;
      down = ap (λ (n : ℕ). top (halved n h) b + y) (sym e);
      across = ap (λ (n : ℕ). left (halved n w) b + x) (sym e);
    }

wider : (d T h w : ℕ) (p : Place) → Known (suc d) T (h / 2) (w / 2) p → Known d T h w p
wider d T h w p i =
    let e : p.level - suc d ≡ suc (p.level - suc (suc d)) = omega (arith, i.above) in
    record {
      above = omega (arith, i.above);
      below = i.below;
      band = i.band;
      row = omega (arith, i.row);
      col = omega (arith, i.col);
      down = i.down ∙ ap (λ (n : ℕ). top (halved n h) p.band + p.row) (sym e);
      across = i.across ∙ ap (λ (n : ℕ). left (halved n w) p.band + p.col) (sym e);
    }

pub known : (d R T h w : ℕ) → d + suc R ≡ T → All (λ n p. Known d T h w p) (places_from true d (suc R) h w)
unfolding places_from
known d zero T h w e =
    all_append (λ n p. Known d T h w p) (band_places h w (suc d) 0) _
    (all_band (λ n p. Known d T h w p) h w (suc d) 0 (λ y x k l. here d T h w 0 y x (omega arith) (omega arith) k l))
    (all_bands (λ n p. Known d T h w p) h w (suc d) []
    (λ b y x c k l. here d T h w (suc b) y x (omega arith) (omega arith) k l)
    (λ n l. absurd (omega arith)))
known d (suc R) T h w e =
    all_bands (λ n p. Known d T h w p) h w (suc d) (places_from true (suc d) (suc R) (h / 2) (w / 2))
    (λ b y x c k l. here d T h w (suc b) y x (omega arith) (omega arith) k l)
    (λ n l. wider d T h w (get_or (places_from true (suc d) (suc R) (h / 2) (w / 2)) n no_place) (known (suc d) R T (h / 2) (w / 2) (omega arith) n l))

-- ---- each entry once

module _ (R h w : ℕ) (f : Fits (suc R) h w) where
  abbrev ps : List Place
  ps = plane_places (suc R) h w

  abbrev pl : ℕ → Place
  pl n = get_or ps n no_place

  -- two places at one spot are one place
  one_spot : (m n : ℕ) → m < n → n < length ps → (pl m).down ≡ (pl n).down → (pl m).across ≡ (pl n).across → ⊥
  one_spot m n l k e g =
      let a = number_of 0 R h w f m (omega arith) in
      let b = number_of 0 R h w f n k in
      let c : m ≡ n = sym a ∙ (λ i. number_in (suc R) h w (e i) (g i)) ∙ b in
      omega arith

  pub indexes : Pairs (OtherIndex h) ps
  indexes =
      pairs_of (OtherIndex h) no_place ps
      (λ m n l k e.
      let a = plane_inside 0 R h w f m (omega arith) in
      let b = plane_inside 0 R h w f n k in
      one_spot m n l k
      (sym (column_row (pl m).across (pl m).down h a.0) ∙ ap (λ (i : ℕ). i % h) (sym e) ∙ column_row (pl n).across (pl n).down h b.0)
      (sym (column_col (pl m).across (pl m).down h a.0) ∙ ap (λ (i : ℕ). i / h) (sym e) ∙ column_col (pl n).across (pl n).down h b.0))

  pub inside : Each (λ p. index_in h p < w * h) ps
  inside = each_of (λ p. index_in h p < w * h) no_place ps (λ n l. let i = plane_inside 0 R h w f n l in index_bound (pl n).across (pl n).down w h i.1 i.0)

  pub onto : (k : ℕ) → k < w * h → AtIndex h k ps
  onto k l =
      let z = index_place h w k l in
      let a = entry_at 0 R h w f (k % h) (k / h) z.0 z.1 in
      at_number h k ps (number_in (suc R) h w (k % h) (k / h)) a.inside ((λ i. a.across i * h + a.down i) ∙ div-add-mod' k h)

  key_spot : (p q : Place) → Known 0 (suc R) h w p → Known 0 (suc R) h w q → is_place p (entry_row q (pos 0)) ≡ true → (p.down ≡ q.down) × (p.across ≡ q.across)
  key_spot p q i j e =
      let a = both_true (eqb q.level p.level) (eqb q.band p.band && (eqb q.row p.row && eqb q.col p.col)) e in
      let b = both_true (eqb q.band p.band) (eqb q.row p.row && eqb q.col p.col) a.1 in
      let c = both_true (eqb q.row p.row) (eqb q.col p.col) b.1 in
      let e₀ = eqb-true q.level p.level a.0 in
      let e₁ = eqb-true q.band p.band b.0 in
      let e₂ = eqb-true q.row p.row c.0 in
      let e₃ = eqb-true q.col p.col c.1 in (
        i.down ∙ sym (j.down ∙ (λ t. top (halved (e₀ t - 1) h) (e₁ t) + e₂ t)),
        i.across ∙ sym (j.across ∙ (λ t. left (halved (e₀ t - 1) w) (e₁ t) + e₃ t)),
      )

  pub keys : Pairs OtherKey ps
  keys = pairs_of OtherKey no_place ps (λ m n l k. go m n l k (is_place (pl m) (entry_row (pl n) (pos 0))) refl)
    where
      go : (m n : ℕ) → m < n → n < length ps → (x : Bool) → is_place (pl m) (entry_row (pl n) (pos 0)) ≡ x → x ≡ false
      go m n l k true e =
          let s = key_spot (pl m) (pl n) (known 0 R (suc R) h w (omega arith) m (omega arith)) (known 0 R (suc R) h w (omega arith) n k) e in
          absurd (one_spot m n l k s.0 s.1)
      go m n l k false e = refl

  pub count : length ps ≡ w * h
  count = plane_count 0 R h w f

-- ---- small numbers

pub record SmallPlace (p : Place) : Type 0 where
  pub level : p.level ≤ 9
  pub band : p.band ≤ 3
  pub row : p.row ≤ 512
  pub col : p.col ≤ 512

pub record SmallBlock (b : BlockPlace) : Type 0 where
  pub level : b.level ≤ 9
  pub row : b.row ≤ 512
  pub col : b.col ≤ 512

pub places_small : (R h w : ℕ) → suc R ≤ 9 → h ≤ 512 → w ≤ 512 → Each SmallPlace (plane_places (suc R) h w)
places_small R h w r hh hw =
    each_of SmallPlace no_place (plane_places (suc R) h w)
    (λ n l. let i = known 0 R (suc R) h w (omega arith) n l in
    record { level = omega (arith, i.below); band = i.band; row = omega (arith, i.row); col = omega (arith, i.col) })

abbrev level_blocks : ℕ → ℕ → ℕ → List BlockPlace
level_blocks d h w = tabulate ((w / 4) * (h / 4)) (λ k. record { level = suc d; row = k % (h / 4); col = k / (h / 4) })

pub blocks_small : (d R h w : ℕ) → d + R ≤ 9 → h ≤ 512 → w ≤ 512 → Each SmallBlock (blocks_from d R h w)
unfolding blocks_from Each
blocks_small d zero h w r hh hw = tt
blocks_small d (suc R) h w r hh hw =
    each_append SmallBlock (level_blocks d h w) (blocks_from (suc d) R (h / 2) (w / 2))
    (each_tabulate SmallBlock ((w / 4) * (h / 4)) (λ k. record { level = suc d; row = k % (h / 4); col = k / (h / 4) })
    (λ k q. let s = index_place (h / 4) (w / 4) k q in record { level = omega arith; row = omega (arith, s.0); col = omega (arith, s.1) }))
    (blocks_small (suc d) R (h / 2) (w / 2) (omega arith) (omega arith) (omega arith))

-- as many blocks as there are coverings
pub blocks_count : (d R h w : ℕ) → length (blocks_from d R h w) ≡ all_blocks R h w
unfolding blocks_from
blocks_count d zero h w = refl
blocks_count d (suc R) h w =
    length-append (level_blocks d h w) (blocks_from (suc d) R (h / 2) (w / 2))
    ∙ (λ i. length_tabulate {A = BlockPlace} (blocks h w) (λ k. record { level = suc d; row = k % (h / 4); col = k / (h / 4) }) i + blocks_count (suc d) R (h / 2) (w / 2) i)

-- a plane that passed has at most 512 times 512 entries
pub plane_size : (h w R : ℕ) → Passed h w R → length (plane_places R h w) ≤ 262144
plane_size h w zero q = absurd (omega (arith, q.some_level))
plane_size h w (suc R) q = omega (arith, count R h w q.fits, q.area)
