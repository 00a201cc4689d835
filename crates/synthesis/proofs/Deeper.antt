-- Restoring level by level: what one level more leaves. Assumes nothing.
use mathlib.Core.Path.{◌≡◌, refl, sym, ap, ◌∙◌, subst, subst⁻¹}
use mathlib.Core.List.{List}
use Prim.Native.Nat.{ℕ, zero, suc, ◌+◌, ◌*◌, ◌-◌, ◌/◌, ◌%◌, ◌^◌, ◌<◌, ◌≤◌}
use native.Mathlib.Nat.{le_refl, le_trans, mul-le-mul_right, mod-lt, div-lt_iff_lt-mul, div-add-mod'}
use native.Mathlib.Omega.{arith}
use lib.IntN.{ℤ, pos, nat_abs, ◌*ℤ◌}
use lib.ListN.{length, get_or}
use lib.Seq.{ext_get_or}
use Rattle.slices.specs.Stores.{rectangles}
use Rattle.slices.proofs.Stores.{rectangles_in, rectangles_out}
use Rattle.pyramid.specs.Plane.{Image, Fits, Numbers, blocks, all_blocks, halved, top, left, band, with_low, after, listed, merge_of, numerators}
use Rattle.pyramid.specs.Slices.{image_of, numerators_of}
use Rattle.synthesis.specs.Synthesis.{weighted_bands, merged_block, put_columns, Level, Mergeable, Restorable}
use Rattle.pyramid.proofs.Levels.{merge_cong}
use Rattle.pyramid.proofs.Pyramid.{top_below, left_below}
use Rattle.pyramid.proofs.Ranges.{halved_le}
use Rattle.pyramid.proofs.Behind.{halved_suc, halved_shift, fits_behind, blocks_behind, next_blocks, next_after, numbers_behind, values_all, value_room, counted_room, value_small, four_most}
use Rattle.pyramid.proofs.Slices.{slice_at, slice_length}
use Rattle.synthesis.proofs.Merging.{merged_at}

-- the bands 1 to 3 lie outside the low-pass
beyond : (tall wide b y x : ℕ) → suc b < 4 → top tall (suc b) + y < tall / 2 → left wide (suc b) + x < wide / 2 → ⊥
beyond tall wide zero y x c k l = omega arith
beyond tall wide (suc zero) y x c k l = omega arith
beyond tall wide (suc (suc zero)) y x c k l = omega arith
beyond tall wide (suc (suc (suc b))) y x c k l = omega arith

-- the levels behind the first d are merged, t of them
pub record Reached (h w d t : ℕ) (cs : List ℕ) (P A : Image) : Type 0 where
  pub inside : (y x : ℕ) → y < halved d h → x < halved d w → A y x ≡ numerators t (halved d h) (halved d w) (after (all_blocks d h w) (listed cs)) P y x
  pub outside : (y x : ℕ) → y < h → x < w → (y < halved d h → x < halved d w → ⊥) → A y x ≡ P y x

module _ {R h w c : ℕ} {cs : List ℕ} {plane : List ℤ} (p : Mergeable R h w c cs plane) where
  -- ---- one level more
  module _ (d t : ℕ) (e : suc d + t ≡ R) (A : Image) (r : Reached h w (suc d) t cs (image_of h plane) A) where
    level_fits : Fits (suc t) (halved d h) (halved d w)
    level_fits = fits_behind d (suc t) R h w (omega arith) p.fits

    low_is : (y x : ℕ) → y < halved d h / 2 → x < halved d w / 2
        → A y x ≡ numerators t (halved d h / 2) (halved d w / 2) (after (blocks (halved d h) (halved d w)) (after (all_blocks d h w) (listed cs))) (image_of h plane) y x
    low_is y x k l =
        r.inside y x (omega (arith, halved_suc d h)) (omega (arith, halved_suc d w))
        ∙ λ i. numerators t (halved_suc d h i) (halved_suc d w i) (next_after d h w (listed cs) i) (image_of h plane) y x

    band-is : (b y x : ℕ) → suc b < 4 → y < halved d h / 2 → x < halved d w / 2 → band (halved d h) (halved d w) A (suc b) y x ≡ band (halved d h) (halved d w) (image_of h plane) (suc b) y x
    band-is b y x c k l =
        r.outside (top (halved d h) (suc b) + y) (left (halved d w) (suc b) + x)
        (omega (arith, top_below (halved d h) (suc b) y level_fits.0 k, halved_le d h))
        (omega (arith, left_below (halved d w) (suc b) x level_fits.1 l, halved_le d w))
        (λ i j. beyond (halved d h) (halved d w) b y x c (omega (arith, halved_suc d h)) (omega (arith, halved_suc d w)))

    pub reach-more : (B : Image)
        → ((y x : ℕ) → y < halved d h → x < halved d w → B y x ≡ merge_of (halved d h) (after (all_blocks d h w) (listed cs)) (weighted_bands (4 ^ t) (halved d h) (halved d w) A) y x)
        → ((y x : ℕ) → y < h → x < w → (y < halved d h → x < halved d w → ⊥) → B y x ≡ A y x)
        → Reached h w d (suc t) cs (image_of h plane) B
    unfolding numerators
    reach-more B merged kept = record {
      inside = λ y x k l.
          merged y x k l
          ∙ merge_cong (halved d h) (halved d w) level_fits.0 level_fits.1 (after (all_blocks d h w) (listed cs)) first (weighted_bands (4 ^ t) (halved d h) (halved d w) A) bands same y x k l;
      outside = λ y x k l other. kept y x k l other ∙ r.outside y x k l (λ i j. other (omega (arith, halved_suc d h)) (omega (arith, halved_suc d w)));
    }
      where
        first : Numbers (blocks (halved d h) (halved d w)) (after (all_blocks d h w) (listed cs))
        first k l = numbers_behind d (suc t) R h w (listed cs) (omega arith) p.numbers k (omega arith)

        bands : ℕ → Image
        bands = with_low (numerators t (halved d h / 2) (halved d w / 2) (after (blocks (halved d h) (halved d w)) (after (all_blocks d h w) (listed cs))) (image_of h plane)) (λ b y x. pos (4 ^ t) *ℤ band (halved d h) (halved d w) (image_of h plane) b y x)

        same : (b y x : ℕ) → b < 4 → y < halved d h / 2 → x < halved d w / 2 → weighted_bands (4 ^ t) (halved d h) (halved d w) A b y x ≡ bands b y x
        same zero y x c k l = low_is y x k l
        same (suc b) y x c k l = ap (λ (z : ℤ). pos (4 ^ t) *ℤ z) (band-is b y x c k l)

    small-bands : (b y x : ℕ) → b < 4 → y < halved d h / 2 → x < halved d w / 2 → nat_abs (weighted_bands (4 ^ t) (halved d h) (halved d w) A b y x) ≤ 2 ^ 40
    small-bands zero y x c k l =
        subst⁻¹ (λ (z : ℤ). nat_abs z ≤ 2 ^ 40) (r.inside y x (omega (arith, halved_suc d h)) (omega (arith, halved_suc d w)))
        (value_room R h w (listed cs) (image_of h plane) p.most p.fits p.numbers p.size p.limit (suc d) t e y x (omega (arith, halved_suc d h)) (omega (arith, halved_suc d w)))
    small-bands (suc b) y x c k l =
        subst⁻¹ (λ (z : ℤ). nat_abs z ≤ 2 ^ 40) (ap (λ (z : ℤ). pos (4 ^ t) *ℤ z) (band-is b y x c k l))
        (counted_room R h w (listed cs) (image_of h plane) p.most p.fits p.numbers p.size p.limit d t (omega arith) b y x (omega arith) k l)

  pub level_at : (d t : ℕ) → suc d + t ≡ R → (image : List ℤ) → length image ≡ w * h → Reached h w (suc d) t cs (image_of h plane) (image_of h image) → Level h (halved d h) (halved d w) (4 ^ t) (all_blocks d h w) cs image
  level_at d t e image len r = record {
    tall_whole = (level_fits d t e (image_of h image) r).0;
    wide_whole = (level_fits d t e (image_of h image) r).1;
    inside = halved_le d h;
    height = p.height;
    width = omega (arith, halved_le d w, p.width);
    long = omega (arith, mul-le-mul_right h (halved_le d w));
    covered = omega (arith, next_blocks d h w, blocks_behind (suc d) t R h w e, p.covered);
    numbers = λ k l. numbers_behind d (suc t) R h w (listed cs) (omega arith) p.numbers k (omega arith);
    weight = omega (arith, four_most t (omega (arith, p.most)));
    small = small-bands d t e (image_of h image) r;
  }

  -- ---- before the first turn, and after the last
  pub reach_none : Reached h w R 0 cs (image_of h plane) (image_of h plane)
  unfolding numerators
  reach_none = record { inside = λ y x k l. refl; outside = λ y x k l o. refl }

  pub reach_all : (n : List ℤ) → length n ≡ w * h → Reached h w 0 R cs (image_of h plane) (image_of h n) → n ≡ numerators_of R h w cs plane
  reach_all n len r = ext_get_or (pos 0) n (numerators_of R h w cs plane) (len ∙ sym (slice_length h w (numerators R h w (listed cs) (image_of h plane)))) (λ k l. at_each k (omega arith))
    where
      at_each : (k : ℕ) → k < w * h → get_or n k (pos 0) ≡ get_or (numerators_of R h w cs plane) k (pos 0)
      at_each k l =
          ap (λ (m : ℕ). get_or n m (pos 0)) (sym (div-add-mod' k h))
          ∙ r.inside (k % h) (k / h) (mod-lt k high) ((div-lt_iff_lt-mul high).1 l)
          ∙ ap (λ (A : Image). A (k % h) (k / h)) (values_all R h w (listed cs) (image_of h plane))
          ∙ sym (slice_at h w (numerators R h w (listed cs) (image_of h plane)) k l)
        where
          high : 0 < h
          high = go h l
            where
              go : (m : ℕ) → k < w * m → 0 < m
              go zero q = absurd (omega arith)
              go (suc m) q = omega arith

-- a plane that can be merged, by the largest limit
pub by_largest : {R h w c : ℕ} {cs : List ℕ} {plane : List ℤ} → Mergeable R h w c cs plane → Mergeable R h w (2 ^ 33) cs plane
by_largest p = record {
  fits = p.fits;
  some = p.some;
  most = p.most;
  height = p.height;
  width = p.width;
  plane_long = p.plane_long;
  covered = p.covered;
  numbers = p.numbers;
  limit = le_refl (2 ^ 33);
  size = record { low = λ y x k l. le_trans (p.size.low y x k l) p.limit; tetrolet = λ k l. le_trans (p.size.tetrolet k l) p.limit };
}

-- the numerators of a plane in range are small
numerators_small : {R h w : ℕ} {cs : List ℕ} {plane : List ℤ} → Restorable R h w cs plane → (k : ℕ) → k < w * h → nat_abs (get_or (numerators_of R h w cs plane) k (pos 0)) ≤ 2 ^ 33
numerators_small {R} {h} {w} {cs} {plane} p k l =
    subst⁻¹ (λ (z : ℤ). nat_abs z ≤ 2 ^ 33)
    (slice_at h w (numerators R h w (listed cs) (image_of h plane)) k l ∙ ap (λ (A : Image). A (k % h) (k / h)) (sym (values_all R h w (listed cs) (image_of h plane))))
    (value_small R h w (listed cs) (image_of h plane) p.most p.fits p.numbers p.size 0 R (omega arith) (k % h) (k / h) (mod-lt k high) ((div-lt_iff_lt-mul high).1 l))
  where
    high : 0 < h
    high = go h l
      where
        go : (m : ℕ) → k < w * m → 0 < m
        go zero q = absurd (omega arith)
        go (suc m) q = omega arith

-- the same of a slice that holds them
module _ {R h w : ℕ} {cs : List ℕ} {plane n : List ℤ} (p : Restorable R h w cs plane) (e : n ≡ numerators_of R h w cs plane) where
  pub held_length : length n ≡ w * h
  held_length = ap length e ∙ slice_length h w (numerators R h w (listed cs) (image_of h plane))

  pub held_small : (k : ℕ) → k < length n → nat_abs (get_or n k (pos 0)) ≤ 2 ^ 33
  held_small k l = subst⁻¹ (λ (x : List ℤ). nat_abs (get_or x k (pos 0)) ≤ 2 ^ 33) e (numerators_small p k (omega (arith, held_length)))

-- ---- a turn of the loop over the levels: what its numbers are
pub record Turn (R h w L tall wide first m d : ℕ) : Type 0 where
  pub is : L ≡ suc d
  pub within : L ≤ R
  pub tall_is : tall ≡ halved d h
  pub wide_is : wide ≡ halved d w
  pub first_is : first ≡ all_blocks d h w
  pub weight_is : m ≡ 4 ^ (R - L)

module _ {R h w L tall wide first m d c : ℕ} {cs : List ℕ} {plane : List ℤ} (p : Mergeable R h w c cs plane) (u : Turn R h w L tall wide first m d)
    (image : List ℤ) (len : length image ≡ w * h) (r : Reached h w L (R - L) cs (image_of h plane) (image_of h image)) where
  rest : suc d + (R - L) ≡ R
  rest = omega (arith, u.is, u.within)

  deeper : Reached h w (suc d) (R - L) cs (image_of h plane) (image_of h image)
  deeper = subst (λ (n : ℕ). Reached h w n (R - L) cs (image_of h plane) (image_of h image)) u.is r

  pub turn_level : Level h tall wide m first cs image
  turn_level = rw (u.tall_is, u.wide_is, u.first_is, u.weight_is) (level_at p d (R - L) rest image len deeper)

  pub turn_reached : (scratch : List ℤ) → length scratch ≡ w * h
      → Reached h w d (R - d) cs (image_of h plane) (image_of h (rectangles h tall wide (put_columns h (merged_block h tall wide m (after first (listed cs)) image) (tall / 4) (wide / 4) scratch) image))
  turn_reached scratch long =
      let q : R - d ≡ suc (R - L) = omega (arith, u.is, u.within) in
      rw (q, u.tall_is, u.wide_is, u.first_is, u.weight_is)
      (reach-more p d (R - L) rest (image_of h image) deeper _
      (λ y x k l. rectangles_in from h (halved d h) (halved_le d h) image (halved d w) y x fit l k ∙ merged_at lv scratch (omega (arith, fit)) y x k l)
      (λ y x k l other. rectangles_out from h (halved d h) (halved_le d h) image (halved d w) y x k (λ i j. other j i)))
    where
      lv : Level h (halved d h) (halved d w) (4 ^ (R - L)) (all_blocks d h w) cs image
      lv = level_at p d (R - L) rest image len deeper

      fit : halved d w * h ≤ length image
      fit = lv.long

      from : List ℤ
      from = put_columns h (merged_block h (halved d h) (halved d w) (4 ^ (R - L)) (after (all_blocks d h w) (listed cs)) image) (halved d h / 4) (halved d w / 4) scratch

-- the numbers of a turn as the loop computes them, by a shift and by what the level's blocks take off
module _ (R h w L first m : ℕ) (more : 0 < L) (fewer : L ≤ R) (f : first ≡ all_blocks L h w) (g : m ≡ 4 ^ (R - L)) where
  taken : w / 2 ^ (L - 1) / 4 * (h / 2 ^ (L - 1) / 4) + all_blocks (L - 1) h w ≡ first
  taken = go (all_blocks (L - 1) h w) (λ i. (halved_shift (L - 1) w i / 4) * (halved_shift (L - 1) h i / 4)) (f ∙ ap (λ (n : ℕ). all_blocks n h w) one_less ∙ next_blocks (L - 1) h w)
    where
      one_less : L ≡ suc (L - 1)
      one_less = omega arith

      go : (c : ℕ) {a b d : ℕ} → a ≡ b → d ≡ c + b → a + c ≡ d
      go c p q = omega arith

  pub turn_takes : w / 2 ^ (L - 1) / 4 * (h / 2 ^ (L - 1) / 4) ≤ first
  turn_takes = omega (arith, taken)

  pub turn_of : Turn R h w L (h / 2 ^ (L - 1)) (w / 2 ^ (L - 1)) (first - w / 2 ^ (L - 1) / 4 * (h / 2 ^ (L - 1) / 4)) m (L - 1)
  turn_of = record { is = omega arith; within = fewer; tall_is = halved_shift (L - 1) h; wide_is = halved_shift (L - 1) w; first_is = omega (arith, taken); weight_is = g }
