-- Where the entries of the two strips stand in the joined plane, by level, band, row and column. What holds of each entry of the joined plane holds of each
-- entry of the left strip, and of each of the right strip further right; and back. Assumes nothing.
use mathlib.Core.Path.{◌≡◌, refl, sym, ◌∙◌, subst, subst⁻¹}
use mathlib.Core.Bool.{true}
use mathlib.Core.List.{List, [], ◌++◌}
use Prim.Native.Nat.{ℕ, zero, suc, ◌+◌, ◌*◌, ◌/◌, ◌%◌, ◌<◌}
use native.Mathlib.Omega.{arith}
use native.Mathlib.Nat.{zero-add}
use lib.IntN.{ℤ}
use lib.ListN.{length, get_or, length-append}
use Rattle.integers.proofs.Index.{index_bound}
use Rattle.pyramid.specs.Plane.{Image, Fits, halved, band, layout, with_low}
use Rattle.pyramid.specs.Places.{Place, place_at, no_place, band_places, places_from, plane_places, at}
use Rattle.pyramid.specs.Slices.{image_of, slice_of}
use Rattle.pyramid.proofs.Levels.{layout_low, layout_band}
use Rattle.pyramid.proofs.Places.{All, size, bands, all_append, all_band, all_bands, of_bands, length_band, band_at, past_band}
use Rattle.pyramid.proofs.Order.{plane_inside}
use Rattle.pyramid.proofs.Slices.{image_slice}
use Rattle.strips.specs.Join.{beside, joined, joined_of}
use Rattle.strips.specs.Laws.{Entry}
use Rattle.strips.proofs.Beside.{beside_left, beside_right, by_part, wide_half, wide_fits, Columns, first_columns, other_columns, level_columns}

-- a statement of each place of the last level is one of each entry of its four bands
abbrev Four : (Place → Type 0) → ℕ → ℕ → ℕ → Type 0
Four Q h w r = (b y x : ℕ) → b < 4 → y < h / 2 → x < w / 2 → Q (place_at h w r b y x)

four_of_law : (Q : Place → Type 0) (h w r : ℕ) → All (λ n p. Q p) (band_places h w r 0 ++ bands h w r []) → Four Q h w r
four_of_law Q h w r a zero y x c k l =
    subst Q (band_at h w r 0 t y x k l) (a (x * (h / 2) + y) (omega (arith, length-append (band_places h w r 0) t, length_band h w r 0, index_bound x y (w / 2) (h / 2) l k)))
  where
    t : List Place
    t = bands h w r []
four_of_law Q h w r a (suc b) y x c k l =
    (of_bands Q h w r [] (λ n g. subst Q (past_band h w r 0 t n) (a (size h w + n) (omega (arith, length-append (band_places h w r 0) t, length_band h w r 0))))).0 b y x (omega arith) k l
  where
    t : List Place
    t = bands h w r []

to_four : (Q : Place → Type 0) (h w r : ℕ) → Four Q h w r → All (λ n p. Q p) (band_places h w r 0 ++ bands h w r [])
to_four Q h w r f =
    all_append (λ n p. Q p) (band_places h w r 0) (bands h w r [])
    (all_band (λ n p. Q p) h w r 0 (λ y x k l. f 0 y x (omega arith) k l))
    (all_bands (λ n p. Q p) h w r [] (λ b y x c k l. f (suc b) y x (omega arith) k l) (λ n l. absurd (omega arith)))

-- a statement of level, band, row, column and value, at an entry of a plane; m columns further right
abbrev Said : Type 1
Said = ℕ → ℕ → ℕ → ℕ → ℤ → Type 0

abbrev Here : Said → Image → Place → Type 0
Here G P p = G p.level p.band p.row p.col (at P p)

abbrev Further : Said → (ℕ → ℕ) → Image → Place → Type 0
Further G c P p = G p.level p.band p.row (c p.level + p.col) (at P p)

-- the bands of one level
module _ (G : Said) (c : ℕ → ℕ) (P Q L : Image) (d h w : ℕ) (w4 : w % 4 ≡ 0) (e : Columns c d w) where
  abbrev sides : ℕ → Image
  sides b = beside (w / 2) (band h w P b) (band h w Q b)

  abbrev laid : Image
  laid = layout h (w + w) (with_low L sides)

  -- band b of the joined level is side by side
  abbrev Side : ℕ → Type 0
  Side b = (y x : ℕ) → y < h / 2 → x < w / 2 + w / 2 → with_low L sides b y x ≡ sides b y x

  wider : (x : ℕ) → x < w / 2 + w / 2 → x < (w + w) / 2
  wider x l = omega (arith, wide_half w w4)

  joined_here : (b : ℕ) → Side b → b < 4 → (y x : ℕ) → y < h / 2 → x < w / 2 + w / 2 → at laid (place_at h (w + w) (suc d) b y x) ≡ sides b y x
  joined_here b s l y x k g = layout_band h (w + w) (with_low L sides) b y x l k (wider x g) ∙ s y x k g

  band_left : (b : ℕ) → Side b → b < 4 → (y x : ℕ) → y < h / 2 → x < w / 2 → at laid (place_at h (w + w) (suc d) b y x) ≡ at P (place_at h w (suc d) b y x)
  band_left b s l y x k g = joined_here b s l y x k (omega arith) ∙ beside_left (w / 2) (band h w P b) (band h w Q b) y x g

  band_right : (b : ℕ) → Side b → b < 4 → (y x : ℕ) → y < h / 2 → x < w / 2 → at laid (place_at h (w + w) (suc d) b y (w / 2 + x)) ≡ at Q (place_at h w (suc d) b y x)
  band_right b s l y x k g = joined_here b s l y (w / 2 + x) k (omega arith) ∙ beside_right (w / 2) (band h w P b) (band h w Q b) y (w / 2 + x) x refl

  to_band : (b : ℕ) → Side b → b < 4
      → ((y x : ℕ) → y < h / 2 → x < w / 2 → Here G P (place_at h w (suc d) b y x))
      → ((y x : ℕ) → y < h / 2 → x < w / 2 → Further G c Q (place_at h w (suc d) b y x))
      → (y x : ℕ) → y < h / 2 → x < (w + w) / 2 → Here G laid (place_at h (w + w) (suc d) b y x)
  to_band b s l f g y x k a =
      by_part (w / 2) (λ x. Here G laid (place_at h (w + w) (suc d) b y x))
      (λ x m. subst⁻¹ (λ (z : ℤ). G (suc d) b y x z) (band_left b s l y x k m) (f y x k m))
      (λ x m. subst⁻¹ (λ (z : ℤ). G (suc d) b y (w / 2 + x) z) (band_right b s l y x k m) (subst (λ (n : ℕ). G (suc d) b y (n + x) (at Q (place_at h w (suc d) b y x))) (first_columns c d w e) (g y x k m)))
      x (omega (arith, wide_half w w4))

  of_band : (b : ℕ) → Side b → b < 4
      → ((y x : ℕ) → y < h / 2 → x < (w + w) / 2 → Here G laid (place_at h (w + w) (suc d) b y x))
      → (y x : ℕ) → y < h / 2 → x < w / 2 → Here G P (place_at h w (suc d) b y x) × Further G c Q (place_at h w (suc d) b y x)
  of_band b s l f y x k m = (
    subst (λ (z : ℤ). G (suc d) b y x z) (band_left b s l y x k m) (f y x k (wider x (omega arith))),
    subst⁻¹ (λ (n : ℕ). G (suc d) b y (n + x) (at Q (place_at h w (suc d) b y x))) (first_columns c d w e)
        (subst (λ (z : ℤ). G (suc d) b y (w / 2 + x) z) (band_right b s l y x k m) (f y (w / 2 + x) k (wider (w / 2 + x) (omega arith)))),
  )

-- the low-pass after the last level is side by side
low_side : (P Q : Image) (d h w b : ℕ) (G : Said) (c : ℕ → ℕ) (w4 : w % 4 ≡ 0) (e : Columns c d w) → Side G c P Q (beside (w / 2) P Q) d h w w4 e b
low_side P Q d h w zero G c w4 e y x k l = sym (λ i. beside (w / 2) (λ y x. P (zero-add y i) (zero-add x i)) (λ y x. Q (zero-add y i) (zero-add x i)) y x)
low_side P Q d h w (suc b) G c w4 e y x k l = refl

-- all levels
pub joined_all : (G : Said) (c : ℕ → ℕ) (P Q : Image) (d R h w : ℕ) → Fits (suc R) h w → Columns c d w
    → All (λ n p. Here G P p) (places_from true d (suc R) h w) → All (λ n p. Further G c Q p) (places_from true d (suc R) h w)
    → All (λ n p. Here G (joined (suc R) h w P Q) p) (places_from true d (suc R) h (w + w))
unfolding places_from joined
joined_all G c P Q d zero h w f e a b =
    to_four (Here G (laid G c P Q (beside (w / 2) P Q) d h w f.1 e)) h (w + w) (suc d)
    (λ s y x l. to_band G c P Q (beside (w / 2) P Q) d h w f.1 e s (low_side P Q d h w s G c f.1 e) l
    (λ y x. four_of_law (Here G P) h w (suc d) a s y x l) (λ y x. four_of_law (Further G c Q) h w (suc d) b s y x l) y x)
joined_all G c P Q d (suc R) h w f e a b =
    go (of_bands (Here G P) h w (suc d) (places_from true (suc d) (suc R) (h / 2) (w / 2)) a) (of_bands (Further G c Q) h w (suc d) (places_from true (suc d) (suc R) (h / 2) (w / 2)) b)
    (joined_all G c P Q (suc d) R (h / 2) (w / 2) f.2 (other_columns c d w e))
  where
    L : Image
    L = joined (suc R) (h / 2) (w / 2) P Q

    J : Image
    J = laid G c P Q L d h w f.1 e

    rest : List Place
    rest = places_from true (suc d) (suc R) (h / 2) (w / 2)

    t : List Place
    t = places_from true (suc d) (suc R) (h / 2) ((w + w) / 2)

    low : All (λ n p. Here G L p) (places_from true (suc d) (suc R) (h / 2) (w / 2 + w / 2)) → All (λ n p. Here G J p) t
    low g n l =
        let i = plane_inside (suc d) R (h / 2) ((w + w) / 2) (wide_fits (suc (suc R)) h w f).2 n l in
        let p = get_or t n no_place in
        subst⁻¹ (λ (z : ℤ). G p.level p.band p.row p.col z) (layout_low h (w + w) (with_low L (sides G c P Q L d h w f.1 e)) p.down p.across i.0 i.1)
        (subst⁻¹ (λ (m : ℕ). All (λ n p. Here G L p) (places_from true (suc d) (suc R) (h / 2) m)) (wide_half w f.1) g n l)

    go : ((s y x : ℕ) → s < 3 → y < h / 2 → x < w / 2 → Here G P (place_at h w (suc d) (suc s) y x)) × All (λ n p. Here G P p) rest
        → ((s y x : ℕ) → s < 3 → y < h / 2 → x < w / 2 → Further G c Q (place_at h w (suc d) (suc s) y x)) × All (λ n p. Further G c Q p) rest
        → (All (λ n p. Here G P p) rest → All (λ n p. Further G c Q p) rest → All (λ n p. Here G L p) (places_from true (suc d) (suc R) (h / 2) (w / 2 + w / 2)))
        → All (λ n p. Here G J p) (bands h (w + w) (suc d) t)
    go o q ih =
        all_bands (λ n p. Here G J p) h (w + w) (suc d) t
        (λ s y x l. to_band G c P Q L d h w f.1 e (suc s) (λ y x k l. refl) (omega arith) (λ y x. o.0 s y x l) (λ y x. q.0 s y x l) y x)
        (low (ih o.1 q.1))

pub all_joined : (G : Said) (c : ℕ → ℕ) (P Q : Image) (d R h w : ℕ) → Fits (suc R) h w → Columns c d w
    → All (λ n p. Here G (joined (suc R) h w P Q) p) (places_from true d (suc R) h (w + w))
    → All (λ n p. Here G P p × Further G c Q p) (places_from true d (suc R) h w)
unfolding places_from joined
all_joined G c P Q d zero h w f e a =
    to_four (λ p. Here G P p × Further G c Q p) h w (suc d)
    (λ s y x l. of_band G c P Q (beside (w / 2) P Q) d h w f.1 e s (low_side P Q d h w s G c f.1 e) l
    (λ y x. four_of_law (Here G (laid G c P Q (beside (w / 2) P Q) d h w f.1 e)) h (w + w) (suc d) a s y x l) y x)
all_joined G c P Q d (suc R) h w f e a =
    go (of_bands (Here G J) h (w + w) (suc d) t a) (all_joined G c P Q (suc d) R (h / 2) (w / 2) f.2 (other_columns c d w e))
  where
    L : Image
    L = joined (suc R) (h / 2) (w / 2) P Q

    J : Image
    J = laid G c P Q L d h w f.1 e

    rest : List Place
    rest = places_from true (suc d) (suc R) (h / 2) (w / 2)

    t : List Place
    t = places_from true (suc d) (suc R) (h / 2) ((w + w) / 2)

    low : All (λ n p. Here G J p) t → All (λ n p. Here G L p) (places_from true (suc d) (suc R) (h / 2) (w / 2 + w / 2))
    low g = subst (λ (m : ℕ). All (λ n p. Here G L p) (places_from true (suc d) (suc R) (h / 2) m)) (wide_half w f.1) inner
      where
        inner : All (λ n p. Here G L p) t
        inner n l =
            let i = plane_inside (suc d) R (h / 2) ((w + w) / 2) (wide_fits (suc (suc R)) h w f).2 n l in
            let p = get_or t n no_place in
            subst (λ (z : ℤ). G p.level p.band p.row p.col z) (layout_low h (w + w) (with_low L (sides G c P Q L d h w f.1 e)) p.down p.across i.0 i.1) (g n l)

    go : ((s y x : ℕ) → s < 3 → y < h / 2 → x < (w + w) / 2 → Here G J (place_at h (w + w) (suc d) (suc s) y x)) × All (λ n p. Here G J p) t
        → (All (λ n p. Here G L p) (places_from true (suc d) (suc R) (h / 2) (w / 2 + w / 2)) → All (λ n p. Here G P p × Further G c Q p) rest)
        → All (λ n p. Here G P p × Further G c Q p) (bands h w (suc d) rest)
    go o ih =
        all_bands (λ n p. Here G P p × Further G c Q p) h w (suc d) rest
        (λ s y x l. of_band G c P Q L d h w f.1 e (suc s) (λ y x k l. refl) (omega arith) (λ y x. o.0 s y x l) y x)
        (ih (low o.1))

-- each entry of the two strips stands in the joined plane
pub placed : (R h w : ℕ) → Fits R h w → (p q : List ℤ) (n : ℕ) → n < length (plane_places R h w)
    → let e = get_or (plane_places R h w) n no_place in let wide = plane_places R h (w + w) in let P = image_of h (joined_of R h w p q) in
    Entry wide P e.level e.band e.row e.col (at (image_of h p) e) × Entry wide P e.level e.band e.row (halved e.level w + e.col) (at (image_of h q) e)
unfolding places_from
placed zero h w f p q n l = absurd (omega arith)
placed (suc R) h w f p q n l =
    all_joined (Entry (plane_places (suc R) h (w + w)) (image_of h (joined_of (suc R) h w p q))) (λ r. halved r w) (image_of h p) (image_of h q) 0 R h w f (level_columns w) itself n l
  where
    J : Image
    J = joined (suc R) h w (image_of h p) (image_of h q)

    itself : All (λ n p. Here (Entry (plane_places (suc R) h (w + w)) (image_of h (slice_of h (w + w) J))) J p) (plane_places (suc R) h (w + w))
    itself n l =
        let i = plane_inside 0 R h (w + w) (wide_fits (suc R) h w f) n l in
        let p = get_or (plane_places (suc R) h (w + w)) n no_place in
        record { number = n; inside = l; level = refl; band = refl; row = refl; col = refl; value = image_slice h (w + w) J p.down p.across i.0 i.1 }
