-- What Keep leaves of a plane in range is in range, the numerators of a plane in range are bounded, samples are rounded to nearest, and the plane of a picture gives its
-- samples back. Assumes nothing.
use mathlib.Core.Path.{◌≡◌, refl, sym, ap, ◌∙◌, subst, subst⁻¹}
use mathlib.Core.List.{List, [], ◌∷◌, map}
use mathlib.Core.Bool.{false}
use Prim.Native.Nat.{ℕ, zero, suc, ◌+◌, ◌*◌, ◌-◌, ◌/◌, ◌%◌, ◌^◌, ◌≤◌, ◌<◌, min}
use native.Mathlib.Omega.{arith}
use native.Mathlib.Nat.{pow-succ', one-le-pow, mul-add-div_right, div-eq_of_lt, add-zero, mod-lt, div-lt_iff_lt-mul, div-add-mod', mul-le-mul_left}
use lib.IntN.{ℤ, pos, nat_abs, ◌+ℤ◌, ◌*ℤ◌}
use lib.Signed.{◌≤ℤ◌, ◌<ℤ◌}
use lib.ListN.{length, get_or, length-map}
use lib.Seq.{ext_get_or}
use Rattle.integers.proofs.Bound.{abs_mul}
use Rattle.integers.proofs.Div.{shr_low, shr_high}
use Rattle.coverings.specs.Block.{name_of}
use Rattle.block.specs.Block.{labels_of, inverse}
use Rattle.pyramid.specs.Plane.{Image, Fits, blocks, after, word_at, band, with_low, merge_of, analyse, numerators, listed, Numbers, all_blocks, halved}
use Rattle.pyramid.specs.Places.{tetrolet_places, places_from, at}
use Rattle.pyramid.specs.Slices.{image_of, picture_of, plane_with, numerators_of, nearest, sample_of, samples_of}
use Rattle.pyramid.specs.Ranges.{InRange, Limited}
use Rattle.block.proofs.Words.{Good, label_in}
use Rattle.pyramid.proofs.Levels.{good_at}
use Rattle.pyramid.proofs.Pyramid.{first_numbers, other_numbers, numerators_cong, numerators_analyse}
use Rattle.pyramid.proofs.Places.{none, All, of_places, places_levels}
use Rattle.pyramid.proofs.Energy.{pow_add}
use Rattle.pyramid.proofs.Slices.{slice_at, image_slice, slice_length}
use Rattle.block.proofs.Blocks.{inverse_abs}

-- d levels are done, R are left, and T are all: c bounds the low-pass, and twice each W as it is counted
pub bounded : (d R T h w c : ℕ) → d + R ≡ T → Fits R h w → (cs : ℕ → ℕ) → Numbers (all_blocks R h w) cs → (P : Image)
    → ((y x : ℕ) → y < halved R h → x < halved R w → nat_abs (P y x) ≤ c)
    → All (λ n p. 2 * (4 ^ (T - p.level) * nat_abs (at P p)) ≤ c) (places_from false d R h w)
    → (y x : ℕ) → y < h → x < w → 2 * nat_abs (numerators R h w cs P y x) ≤ c * (2 + 3 * R)
unfolding numerators
bounded d zero T h w c e f cs ns P low tet y x k l = omega (arith, low y x k l)
bounded d (suc R) T h w c e f cs ns P low tet y x k l =
    merged (λ y x p q. bounded (suc d) R T (h / 2) (w / 2) c (omega arith) f.2 (after (blocks h w) cs) (other_numbers {cs = cs} R h w ns) P low o.1 y x p q)
  where
    o : ((b y x : ℕ) → b < 3 → y < h / 2 → x < w / 2 → 2 * (4 ^ (T - suc d) * nat_abs (band h w P (suc b) y x)) ≤ c) × All (λ n p. 2 * (4 ^ (T - p.level) * nat_abs (at P p)) ≤ c) (places_from false (suc d) R (h / 2) (w / 2))
    o = of_places (λ p. 2 * (4 ^ (T - p.level) * nat_abs (at P p)) ≤ c) d R h w tet

    B : ℕ → Image
    B = with_low (numerators R (h / 2) (w / 2) (after (blocks h w) cs) P) (λ b y x. pos (4 ^ R) *ℤ band h w P b y x)

    word : List ℕ
    word = word_at h cs (y / 4) (x / 4)

    good : Good word
    good = good_at h w f.0 f.1 cs (first_numbers {cs = cs} R h w ns) (y / 4) (x / 4) (omega arith) (omega arith)

    cell : ℕ
    cell = x % 4 * 4 + y % 4

    s : ℕ
    s = label_in (labels_of word) (name_of word cell)

    s-below : s < 4
    s-below = good.labels.below (name_of word cell) (good.cells.named cell (omega arith))

    y' : ℕ
    y' = y / 4 * 2 + s % 2

    x' : ℕ
    x' = x / 4 * 2 + s / 2

    y-below : y' < h / 2
    y-below = let q = s-below in omega arith

    x_below : x' < w / 2
    x_below = let q = s-below in omega arith

    level : (b : ℕ) → b < 3 → 2 * nat_abs (B (suc b) y' x') ≤ c
    level b p = subst⁻¹ (λ (m : ℕ). 2 * m ≤ c) (abs_mul (pos (4 ^ R)) (band h w P (suc b) y' x') ∙ ap (λ (m : ℕ). 4 ^ m * nat_abs (band h w P (suc b) y' x')) exponent) (o.0 b y' x' p y-below x_below)
      where
        exponent : R ≡ T - suc d
        exponent = omega arith

    row : nat_abs (inverse word (λ b s. B b (y / 4 * 2 + s % 2) (x / 4 * 2 + s / 2)) cell) ≤ nat_abs (B 0 y' x') + nat_abs (B 1 y' x') + nat_abs (B 2 y' x') + nat_abs (B 3 y' x')
    row = inverse_abs word (λ b s. B b (y / 4 * 2 + s % 2) (x / 4 * 2 + s / 2)) cell

    merged : ((y x : ℕ) → y < h / 2 → x < w / 2 → 2 * nat_abs (numerators R (h / 2) (w / 2) (after (blocks h w) cs) P y x) ≤ c * (2 + 3 * R)) → 2 * nat_abs (merge_of h cs B y x) ≤ c * (2 + 3 * suc R)
    merged ih = omega (arith, row, ih y' x' y-below x_below, level 0 (omega arith), level 1 (omega arith), level 2 (omega arith))

-- the low-pass of a plane in range, and its tetrolet coefficients as they are counted
module _ (R h w : ℕ) (P : Image) (r : InRange R h w P) where
  low_size : (y x : ℕ) → y < halved R h → x < halved R w → nat_abs (P y x) ≤ 4095 * 4 ^ R
  low_size y x k l = let q = r.low y x k l in subst⁻¹ (λ (z : ℤ). nat_abs z ≤ 4095 * 4 ^ R) q.1 q.2

  tetrolet_size : All (λ n p. 2 * (4 ^ (R - p.level) * nat_abs (at P p)) ≤ 4095 * 4 ^ R) (tetrolet_places R h w)
  tetrolet_size n l = go (get_or (tetrolet_places R h w) n none).level (nat_abs (at P (get_or (tetrolet_places R h w) n none))) (places_levels 0 R R h w (omega arith) n l) (r.tetrolet n l)
    where
      go : (v a : ℕ) → (0 < v) × (v ≤ R) → a ≤ 2 * 4 ^ (v - 1) * 4095 → 2 * (4 ^ (R - v) * a) ≤ 4095 * 4 ^ R
      go zero a i b = absurd (omega arith)
      go (suc v) a i b = subst⁻¹ (λ (m : ℕ). 2 * (4 ^ (R - suc v) * a) ≤ 4095 * m) power (last (4 ^ v) (4 ^ (R - suc v)) (subst (λ (m : ℕ). a ≤ 2 * 4 ^ m * 4095) one_less b))
        where
          one_less : suc v - 1 ≡ v
          one_less = omega arith

          power : 4 ^ R ≡ 4 * 4 ^ v * 4 ^ (R - suc v)
          power =
              let q : R ≡ suc v + (R - suc v) = omega arith in
              ap (λ (m : ℕ). 4 ^ m) q ∙ pow_add 4 (suc v) (R - suc v) ∙ ap (λ (m : ℕ). m * 4 ^ (R - suc v)) (pow-succ' 4 v)

          last : (p q : ℕ) → a ≤ 2 * p * 4095 → 2 * (q * a) ≤ 4095 * (4 * p * q)
          last p q h = omega (arith, mul-le-mul_left q h)

  pub limited : Limited R h w (4095 * 4 ^ R) P
  limited = record { low = low_size; tetrolet = tetrolet_size }

pub bounds : (R h w : ℕ) → Fits R h w → (cs : ℕ → ℕ) → Numbers (all_blocks R h w) cs → (P : Image) → InRange R h w P → (y x : ℕ) → y < h → x < w → 2 * nat_abs (numerators R h w cs P y x) ≤ 4095 * 4 ^ R * (2 + 3 * R)
bounds R h w f cs ns P r = let z = limited R h w P r in bounded 0 R R h w (4095 * 4 ^ R) (omega arith) f cs ns P z.low z.tetrolet

-- rounding to nearest
pub rounded : (R : ℕ) (y : ℤ) → let m = 2 * 4 ^ R in let n = nearest R y in
    ((pos m *ℤ n) ≤ℤ (pos 2 *ℤ y +ℤ pos (4 ^ R))) × ((pos 2 *ℤ y +ℤ pos (4 ^ R)) <ℤ (pos m *ℤ n +ℤ pos m))
rounded R y = let z = pos 2 *ℤ y +ℤ pos (4 ^ R) in (shr_low (2 * 4 ^ R) z even, shr_high (2 * 4 ^ R) z even)
  where
    even : 0 < 2 * 4 ^ R
    even = let h = one-le-pow R 4 (omega arith) in omega arith

-- exact restoring, of samples
pub get_d_map : {A B : Type 0} (f : A → B) (l : List A) (a : A) (b : B) (n : ℕ) → n < length l → get_or (map f l) n b ≡ f (get_or l n a)
get_d_map f [] a b n h = absurd (omega arith)
get_d_map f (x ∷ l) a b zero h = refl
get_d_map f (x ∷ l) a b (suc n) h = get_d_map f l a b n (omega arith)

pub sample_exact : (R n : ℕ) → n ≤ 4095 → sample_of R (pos (4 ^ R) *ℤ pos n) ≡ n
sample_exact R n l = ap {B = ℕ} (λ (m : ℕ). min m 4095) (go (4 ^ R) (one-le-pow R 4 (omega arith))) ∙ least
  where
    least : min n 4095 ≡ n
    least = omega arith

    go : (c : ℕ) → 1 ≤ c → (2 * (c * n) + c) / (2 * c) ≡ n
    go c p =
        let e : 2 * (c * n) + c ≡ n * (2 * c) + c = omega arith in
        ap (λ (m : ℕ). m / (2 * c)) e ∙ mul-add-div_right (omega arith) n c ∙ ap (λ (m : ℕ). n + m) (div-eq_of_lt (omega arith)) ∙ add-zero n

pub exactly : (R h w : ℕ) → Fits R h w → (cs : List ℕ) → Numbers (all_blocks R h w) (listed cs) → (s : List ℕ) → length s ≡ w * h → ((k : ℕ) → k < w * h → get_or s k 0 ≤ 4095) → samples_of R h w cs (plane_with R h w cs s) ≡ s
exactly R h w f cs ns s len small = ext_get_or 0 (samples_of R h w cs p) s (long ∙ sym len) at_each
  where
    A : Image
    A = picture_of h s

    p : List ℤ
    p = plane_with R h w cs s

    Y : Image
    Y = numerators R h w (listed cs) (image_of h p)

    long : length (samples_of R h w cs p) ≡ w * h
    long = length-map (numerators_of R h w cs p) (sample_of R) ∙ slice_length h w Y

    at_each : (k : ℕ) → k < length (samples_of R h w cs p) → get_or (samples_of R h w cs p) k 0 ≡ get_or s k 0
    at_each k l =
        get_d_map (sample_of R) (numerators_of R h w cs p) (pos 0) 0 k (omega (arith, slice_length h w Y, long))
        ∙ ap (sample_of R)
        (slice_at h w Y k below
        ∙ numerators_cong R h w f (listed cs) ns (image_of h p) (analyse R h w (listed cs) A) (image_slice h w (analyse R h w (listed cs) A)) (k % h) (k / h) row col
        ∙ numerators_analyse R h w f (listed cs) ns A (k % h) (k / h) row col
        ∙ ap (λ (m : ℕ). pos (4 ^ R) *ℤ pos (get_or s m 0)) (div-add-mod' k h))
        ∙ sample_exact R (get_or s k 0) (small k below)
      where
        below : k < w * h
        below = omega (arith, long)

        pos-h : 0 < h
        pos-h = go h below
          where
            go : (m : ℕ) → k < w * m → 0 < m
            go zero q = absurd (omega arith)
            go (suc m) q = omega arith

        row : k % h < h
        row = mod-lt k pos-h

        col : k / h < w
        col = (div-lt_iff_lt-mul pos-h).1 below
