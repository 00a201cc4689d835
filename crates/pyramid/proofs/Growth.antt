-- How large the bands and the plane of an image are, where none of its entries is over m; and how large each entry of a plane of limited size is. Assumes nothing.
use mathlib.Core.Path.{◌≡◌, subst, subst⁻¹}
use mathlib.Core.Bool.{Bool, false}
use mathlib.Core.Logic.{◌⊎◌, inl, inr}
use Prim.Native.Nat.{ℕ, zero, suc, ◌+◌, ◌*◌, ◌-◌, ◌/◌, ◌%◌, ◌^◌, ◌≤◌, ◌<◌}
use native.Mathlib.Omega.{arith}
use native.Mathlib.Nat.{pow-succ', one-le-pow, le_trans, mul-le-mul_left, mul-le-mul_right}
use lib.IntN.{ℤ, nat_abs}
use lib.ListN.{length, get_or}
use Rattle.coverings.specs.Block.{cells, filter}
use Rattle.block.specs.Block.{values_of, shapes_of, place_in, labels_of, forward}
use Rattle.block.proofs.Blocks.{row_abs}
use Rattle.block.proofs.Pick.{shape_below}
use Rattle.pyramid.specs.Plane.{Image, Fits, blocks, block_of, word_at, after, bands_of, top, band, layout, with_low, analyse, halved}
use Rattle.pyramid.specs.Places.{tetrolet_places, places_from, at}
use Rattle.pyramid.specs.Ranges.{Limited}
use Rattle.pyramid.proofs.Levels.{layout_low, layout_band}
use Rattle.pyramid.proofs.Slices.{Agree}
use Rattle.pyramid.proofs.Ranges.{halved_le}
use Rattle.pyramid.proofs.Places.{none, All, all_places, places_inside, at_cong}
use Rattle.pyramid.proofs.Number.{entry_cases}
use Rattle.pyramid.proofs.Order.{InBand, in_band_law}

-- one level
pub bands_abs : (h w m : ℕ) → h % 4 ≡ 0 → w % 4 ≡ 0 → (cs : ℕ → ℕ) (A : Image) → ((y x : ℕ) → y < h → x < w → nat_abs (A y x) ≤ m) → (b y x : ℕ) → y < h / 2 → x < w / 2 → nat_abs (bands_of h cs A b y x) ≤ 4 * m
unfolding forward
bands_abs h w m h4 w4 cs A a b y x k l = omega (arith, row_abs b values, value 0, value 1, value 2, value 3)
  where
    shape : ℕ → Bool
    shape = shapes_of (word_at h cs (y / 2) (x / 2)) (place_in (x % 2 * 2 + y % 2) (labels_of (word_at h cs (y / 2) (x / 2))))

    values : ℕ → ℤ
    values = values_of shape (block_of A (y / 2) (x / 2))

    at-cell : (c : ℕ) → c < 16 → nat_abs (block_of A (y / 2) (x / 2) c) ≤ m
    at-cell c q = a (y / 2 * 4 + c % 4) (x / 2 * 4 + c / 4) (omega arith) (omega arith)

    value : (i : ℕ) → nat_abs (values i) ≤ m
    value i = at-cell (get_or (filter shape cells) i 0) (shape_below shape i)

-- one level more of 4 times m is R + 1 levels of m
level_less : (R m c : ℕ) → 4 ^ suc R * m ≤ c → 4 ^ R * (4 * m) ≤ c
level_less R m c u = by (4 ^ R) (4 ^ suc R) (pow-succ' 4 R) u
  where
    by : (q r : ℕ) → r ≡ 4 * q → r * m ≤ c → q * (4 * m) ≤ c
    by q r e u = let l : 4 * q * m ≤ c = subst (λ (z : ℕ). z * m ≤ c) e u in omega arith

-- d levels are done, R are left, and T are all: an entry as it is counted is at most 4 ^ R times m
pub analyse_counted : (d R T h w m c : ℕ) → d + R ≡ T → Fits R h w → (cs : ℕ → ℕ) (A : Image) → ((y x : ℕ) → y < h → x < w → nat_abs (A y x) ≤ m) → 4 ^ R * m ≤ c
    → All (λ n p. 4 ^ (T - p.level) * nat_abs (at (analyse R h w cs A) p) ≤ c) (places_from false d R h w)
unfolding analyse places_from
analyse_counted d zero T h w m c e f cs A a u = λ n l. absurd (omega arith)
analyse_counted d (suc R) T h w m c e f cs A a u =
    go (analyse_counted (suc d) R T (h / 2) (w / 2) (4 * m) c (omega arith) f.2 (after (blocks h w) cs) (bands_of h cs A 0) (bands_abs h w m f.0 f.1 cs A a 0) (level_less R m c u))
  where
    L : Image
    L = analyse R (h / 2) (w / 2) (after (blocks h w) cs) (bands_of h cs A 0)

    B : ℕ → Image
    B = with_low L (bands_of h cs A)

    first : (b y x : ℕ) → b < 3 → y < h / 2 → x < w / 2 → 4 ^ (T - suc d) * nat_abs (band h w (layout h w B) (suc b) y x) ≤ c
    first b y x i j l =
        let q : T - suc d ≡ R = omega arith in
        subst⁻¹ (λ (n : ℕ). 4 ^ n * nat_abs (band h w (layout h w B) (suc b) y x) ≤ c) q
        (subst⁻¹ (λ (z : ℤ). 4 ^ R * nat_abs z ≤ c) (layout_band h w B (suc b) y x (omega arith) j l)
        (le_trans (mul-le-mul_left (4 ^ R) (bands_abs h w m f.0 f.1 cs A a (suc b) y x j l)) (level_less R m c u)))

    go : All (λ n p. 4 ^ (T - p.level) * nat_abs (at L p) ≤ c) (places_from false (suc d) R (h / 2) (w / 2))
        → All (λ n p. 4 ^ (T - p.level) * nat_abs (at (layout h w B) p) ≤ c) (places_from false d (suc R) h w)
    go ih =
        all_places (λ n p. 4 ^ (T - p.level) * nat_abs (at (layout h w B) p) ≤ c) d R h w first
        (λ n l.
        let i = places_inside (suc d) R (h / 2) (w / 2) f.2 n l in
        let p = get_or (places_from false (suc d) R (h / 2) (w / 2)) n none in
        subst⁻¹ (λ (z : ℤ). 4 ^ (T - p.level) * nat_abs z ≤ c) (layout_low h w B p.down p.across i.0 i.1) (ih n l))

-- and every entry, the low-pass too
pub analyse_abs : (R h w m c : ℕ) → Fits R h w → (cs : ℕ → ℕ) (A : Image) → ((y x : ℕ) → y < h → x < w → nat_abs (A y x) ≤ m) → 4 ^ R * m ≤ c → (y x : ℕ) → y < h → x < w → nat_abs (analyse R h w cs A y x) ≤ c
unfolding analyse
analyse_abs zero h w m c f cs A a u y x k l = omega (arith, a y x k l)
analyse_abs (suc R) h w m c f cs A a u y x k l =
    on (analyse_abs R (h / 2) (w / 2) (4 * m) c f.2 (after (blocks h w) cs) (bands_of h cs A 0) (bands_abs h w m f.0 f.1 cs A a 0) (level_less R m c u)) (in_band_law h w y x f.0 f.1 k l)
  where
    L : Image
    L = analyse R (h / 2) (w / 2) (after (blocks h w) cs) (bands_of h cs A 0)

    B : ℕ → Image
    B = with_low L (bands_of h cs A)

    four : 4 * m ≤ c
    four = omega (arith, mul-le-mul_right (4 * m) (one-le-pow R 4 (omega arith)), level_less R m c u)

    each : ((y x : ℕ) → y < h / 2 → x < w / 2 → nat_abs (L y x) ≤ c) → (b y x : ℕ) → y < h / 2 → x < w / 2 → nat_abs (B b y x) ≤ c
    each ih zero y x k l = ih y x k l
    each ih (suc b) y x k l = omega (arith, bands_abs h w m f.0 f.1 cs A a (suc b) y x k l, four)

    on : ((y x : ℕ) → y < h / 2 → x < w / 2 → nat_abs (L y x) ≤ c) → InBand h w y x → nat_abs (layout h w B y x) ≤ c
    on ih q =
        subst (λ (z : ℕ). nat_abs (layout h w B z x) ≤ c) q.down
        (subst (λ (z : ℕ). nat_abs (layout h w B (top h q.band + q.row) z) ≤ c) q.across
        (subst⁻¹ (λ (z : ℤ). nat_abs z ≤ c) (layout_band h w B q.band q.row q.col q.some q.tall q.wide) (each ih q.band q.row q.col q.tall q.wide)))

-- every entry of a plane of limited size
pub limited_abs : {R h w c : ℕ} {P : Image} → Fits R h w → Limited R h w c P → (y x : ℕ) → y < h → x < w → nat_abs (P y x) ≤ c
limited_abs {R} {h} {w} {c} {P} f z y x k l = go (entry_cases 0 R h w f y x k l)
  where
    less : (q n : ℕ) → 1 ≤ q → 2 * (q * n) ≤ c → n ≤ c
    less q n i u = omega (arith, mul-le-mul_left n i)

    go : ((y < halved R h) × (x < halved R w)) ⊎ ((n : ℕ) × (n < length (tetrolet_places R h w)) × ((get_or (tetrolet_places R h w) n none).down ≡ y) × ((get_or (tetrolet_places R h w) n none).across ≡ x)) → nat_abs (P y x) ≤ c
    go (inl i) = z.low y x i.0 i.1
    go (inr (n, i, d, a)) =
        let q = get_or (tetrolet_places R h w) n none in
        subst (λ (t : ℕ). nat_abs (P t x) ≤ c) d
        (subst (λ (t : ℕ). nat_abs (P q.down t) ≤ c) a
        (less (4 ^ (R - q.level)) (nat_abs (at P q)) (one-le-pow (R - q.level) 4 (omega arith)) (z.tetrolet n i)))

-- the same of a plane that agrees with it
pub limited_cong : {R h w c : ℕ} {P Q : Image} → Fits R h w → Agree h w P Q → Limited R h w c P → Limited R h w c Q
limited_cong {R} {h} {w} {c} {P} {Q} f e z = record {
  low = λ y x k l. subst (λ (v : ℤ). nat_abs v ≤ c) (e y x (omega (arith, halved_le R h)) (omega (arith, halved_le R w))) (z.low y x k l);
  tetrolet = λ n i. subst (λ (v : ℤ). 2 * (4 ^ (R - (get_or (tetrolet_places R h w) n none).level) * nat_abs v) ≤ c) (at_cong R h w f P Q e n i) (z.tetrolet n i);
}
