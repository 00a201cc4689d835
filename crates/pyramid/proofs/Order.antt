-- Plane order with band 0: every entry of the plane stands in the list at one place. `number_in R h w y x` is the number of the entry in row y, column x.
-- Assumes nothing.
use mathlib.Core.Path.{◌≡◌, sym, ap, ◌∙◌, subst⁻¹}
use mathlib.Core.Bool.{true}
use mathlib.Core.List.{List, [], ◌++◌}
use Prim.Native.Nat.{ℕ, zero, suc, ◌+◌, ◌*◌, ◌-◌, ◌/◌, ◌%◌, ◌<◌}
use native.Mathlib.Omega.{arith}
use native.Mathlib.Decide.{dec_lt}
use lib.ListN.{length, get_or, length-append}
use Rattle.integers.proofs.Index.{index_bound}
use Rattle.pyramid.specs.Plane.{Fits, top, left, layout, with_low}
use Rattle.pyramid.specs.Places.{Place, place_at, band_places, places_from}
use Rattle.pyramid.proofs.Levels.{layout_low, layout_band}
use Rattle.pyramid.proofs.Pyramid.{top_below, left_below}
use Rattle.pyramid.proofs.Places.{none, All, size, bands, all_append, all_band, all_bands, length_band, length_bands, band_at, past_band, in_bands, past_bands}

-- what an entry of a band counts to, in the last level and in the others
abbrev last_at : ℕ → ℕ → ℕ → ℕ → ℕ → ℕ
last_at h w b y x = b * size h w + (x * (h / 2) + y)

abbrev rest_at : ℕ → ℕ → ℕ → ℕ → ℕ → ℕ
rest_at h w b y x = (b - 1) * size h w + (x * (h / 2) + y)

unfoldable pub number_in : ℕ → ℕ → ℕ → ℕ → ℕ → ℕ
number_in zero h w y x = 0
number_in (suc zero) h w y x = layout h w (last_at h w) y x
number_in (suc (suc R)) h w y x = layout h w (with_low (λ y x. size h w + (size h w + (size h w + number_in (suc R) (h / 2) (w / 2) y x))) (rest_at h w)) y x

less : (b : ℕ) → suc b - 1 ≡ b
less b = omega arith

-- the places are in the plane
pub plane_inside : (d R h w : ℕ) → Fits (suc R) h w → All (λ n p. (p.down < h) × (p.across < w)) (places_from true d (suc R) h w)
unfolding places_from
plane_inside d zero h w f =
    all_append (λ n p. (p.down < h) × (p.across < w)) (band_places h w (suc d) 0) _
    (all_band (λ n p. (p.down < h) × (p.across < w)) h w (suc d) 0 (λ y x k l. (top_below h 0 y f.0 k, left_below w 0 x f.1 l)))
    (all_bands (λ n p. (p.down < h) × (p.across < w)) h w (suc d) []
    (λ b y x c k l. (top_below h (suc b) y f.0 k, left_below w (suc b) x f.1 l))
    (λ n l. absurd (omega arith)))
plane_inside d (suc R) h w f =
    all_bands (λ n p. (p.down < h) × (p.across < w)) h w (suc d) (places_from true (suc d) (suc R) (h / 2) (w / 2))
    (λ b y x c k l. (top_below h (suc b) y f.0 k, left_below w (suc b) x f.1 l))
    (wider (plane_inside (suc d) R (h / 2) (w / 2) f.2))
  where
    wider : All (λ n p. (p.down < h / 2) × (p.across < w / 2)) (places_from true (suc d) (suc R) (h / 2) (w / 2)) → All (λ n p. (p.down < h) × (p.across < w)) (places_from true (suc d) (suc R) (h / 2) (w / 2))
    wider g n l = let i = g n l in (omega arith, omega arith)

-- the place with the number n has the number n
pub number_of : (d R h w : ℕ) → Fits (suc R) h w → All (λ n p. number_in (suc R) h w p.down p.across ≡ n) (places_from true d (suc R) h w)
unfolding places_from number_in
number_of d zero h w f =
    all_append (λ n p. N p.down p.across ≡ n) (band_places h w (suc d) 0) _
    (all_band (λ n p. N p.down p.across ≡ n) h w (suc d) 0 (λ y x k l. layout_band h w (last_at h w) 0 y x (omega arith) k l ∙ none_before (x * (h / 2) + y)))
    (rw (length_band h w (suc d) 0)
    (all_bands (λ n p. N p.down p.across ≡ size h w + n) h w (suc d) []
    (λ b y x c k l. layout_band h w (last_at h w) (suc b) y x (omega arith) k l ∙ one_more b (x * (h / 2) + y))
    (λ n l. absurd (omega arith))))
  where
    N : ℕ → ℕ → ℕ
    N y x = layout h w (last_at h w) y x

    none_before : (m : ℕ) → 0 * size h w + m ≡ m
    none_before m = omega arith

    one_more : (b m : ℕ) → suc b * size h w + m ≡ size h w + (b * size h w + m)
    one_more b m = omega arith
number_of d (suc R) h w f =
    all_bands (λ n p. layout h w B p.down p.across ≡ n) h w (suc d) (places_from true (suc d) (suc R) (h / 2) (w / 2))
    (λ b y x c k l. layout_band h w B (suc b) y x (omega arith) k l ∙ ap (λ (m : ℕ). m * size h w + (x * (h / 2) + y)) (less b))
    (deeper (number_of (suc d) R (h / 2) (w / 2) f.2))
  where
    B : ℕ → ℕ → ℕ → ℕ
    B = with_low (λ y x. size h w + (size h w + (size h w + number_in (suc R) (h / 2) (w / 2) y x))) (rest_at h w)

    deeper : All (λ n p. number_in (suc R) (h / 2) (w / 2) p.down p.across ≡ n) (places_from true (suc d) (suc R) (h / 2) (w / 2))
        → All (λ n p. layout h w B p.down p.across ≡ size h w + (size h w + (size h w + n))) (places_from true (suc d) (suc R) (h / 2) (w / 2))
    deeper g n l =
        let i = plane_inside (suc d) R (h / 2) (w / 2) f.2 n l in
        let p = get_or (places_from true (suc d) (suc R) (h / 2) (w / 2)) n none in
        layout_low h w B p.down p.across i.0 i.1 ∙ ap (λ (m : ℕ). size h w + (size h w + (size h w + m))) (g n l)

-- there are as many as the plane has entries
pub plane_count : (d R h w : ℕ) → Fits (suc R) h w → length (places_from true d (suc R) h w) ≡ w * h
unfolding places_from
plane_count d zero h w f =
    length-append (band_places h w (suc d) 0) _ ∙ (λ i. length_band h w (suc d) 0 i + length_bands h w (suc d) [] i) ∙ all-four (w / 2) (h / 2) (omega arith) (omega arith)
  where
    all-four : (a b : ℕ) {u v : ℕ} → u ≡ 2 * a → v ≡ 2 * b → a * b + (a * b + (a * b + (a * b + 0))) ≡ u * v
    all-four a b e g = rw (e, g) (omega arith)
plane_count d (suc R) h w f =
    length_bands h w (suc d) (places_from true (suc d) (suc R) (h / 2) (w / 2))
    ∙ ap (λ (m : ℕ). size h w + (size h w + (size h w + m))) (plane_count (suc d) R (h / 2) (w / 2) f.2)
    ∙ all-four (w / 2) (h / 2) (omega arith) (omega arith)
  where
    all-four : (a b : ℕ) {u v : ℕ} → u ≡ 2 * a → v ≡ 2 * b → a * b + (a * b + (a * b + a * b)) ≡ u * v
    all-four a b e g = rw (e, g) (omega arith)

-- each entry is in one of the four bands
pub record InBand (h w y x : ℕ) : Type 0 where
  pub band : ℕ
  pub row : ℕ
  pub col : ℕ
  pub some : band < 4
  pub tall : row < h / 2
  pub wide : col < w / 2
  pub down : top h band + row ≡ y
  pub across : left w band + col ≡ x

pub in_band_law : (h w y x : ℕ) → h % 4 ≡ 0 → w % 4 ≡ 0 → y < h → x < w → InBand h w y x
in_band_law h w y x h4 w4 k l = go (dec_lt y (h / 2)) (dec_lt x (w / 2))
  where
    go : Dec (y < h / 2) → Dec (x < w / 2) → InBand h w y x
    go (yes a) (yes b) = record { band = 0; row = y; col = x; some = omega arith; tall = a; wide = b; down = omega arith; across = omega arith }
    go (yes a) (no b) = record { band = 1; row = y; col = x - w / 2; some = omega arith; tall = a; wide = omega arith; down = omega arith; across = omega arith }
    go (no a) (yes b) = record { band = 2; row = y - h / 2; col = x; some = omega arith; tall = omega arith; wide = b; down = omega arith; across = omega arith }
    go (no a) (no b) = record { band = 3; row = y - h / 2; col = x - w / 2; some = omega arith; tall = omega arith; wide = omega arith; down = omega arith; across = omega arith }

-- the entry in row y, column x is the place with its number
pub record AtNumber (l : List Place) (n y x : ℕ) : Type 0 where
  pub inside : n < length l
  pub down : (get_or l n none).down ≡ y
  pub across : (get_or l n none).across ≡ x

found : (l : List Place) (n y x : ℕ) (p : Place) → n < length l → get_or l n none ≡ p → p.down ≡ y → p.across ≡ x → AtNumber l n y x
found l n y x p h e d a = record { inside = h; down = ap (λ (p : Place). p.down) e ∙ d; across = ap (λ (p : Place). p.across) e ∙ a }

pub entry_at : (d R h w : ℕ) → Fits (suc R) h w → (y x : ℕ) → y < h → x < w → AtNumber (places_from true d (suc R) h w) (number_in (suc R) h w y x) y x
unfolding places_from number_in
entry_at d zero h w f y x k l = subst⁻¹ (λ (n : ℕ). AtNumber L n y x) is (on q.band q.some q.down q.across)
  where
    q : InBand h w y x
    q = in_band_law h w y x f.0 f.1 k l

    L : List Place
    L = band_places h w (suc d) 0 ++ bands h w (suc d) []

    m : ℕ
    m = q.col * (h / 2) + q.row

    m-below : m < size h w
    m-below = index_bound q.col q.row (w / 2) (h / 2) q.wide q.tall

    is : layout h w (last_at h w) y x ≡ q.band * size h w + m
    is = (λ i. layout h w (last_at h w) (sym q.down i) (sym q.across i)) ∙ layout_band h w (last_at h w) q.band q.row q.col q.some q.tall q.wide

    long : length L ≡ size h w + (size h w + (size h w + (size h w + 0)))
    long = length-append (band_places h w (suc d) 0) _ ∙ (λ i. length_band h w (suc d) 0 i + length_bands h w (suc d) [] i)

    on : (b : ℕ) → b < 4 → top h b + q.row ≡ y → left w b + q.col ≡ x → AtNumber L (b * size h w + m) y x
    on zero c e g =
        let z : 0 * size h w + m ≡ m = omega arith in
        subst⁻¹ (λ (n : ℕ). AtNumber L n y x) z
        (found L m y x (place_at h w (suc d) 0 q.row q.col) (omega (arith, long, m-below)) (band_at h w (suc d) 0 _ q.row q.col q.tall q.wide) e g)
    on (suc b) c e g =
        let z : suc b * size h w + m ≡ size h w + (b * size h w + m) = omega arith in
        subst⁻¹ (λ (n : ℕ). AtNumber L n y x) z
        (found L (size h w + (b * size h w + m)) y x (place_at h w (suc d) (suc b) q.row q.col) (inside b c)
        (past_band h w (suc d) 0 _ (b * size h w + m) ∙ in_bands h w (suc d) [] b q.row q.col (omega arith) q.tall q.wide) e g)
      where
        inside : (b : ℕ) → suc b < 4 → size h w + (b * size h w + m) < length L
        inside zero c = omega (arith, long, m-below)
        inside (suc zero) c = omega (arith, long, m-below)
        inside (suc (suc zero)) c = omega (arith, long, m-below)
        inside (suc (suc (suc b))) c = absurd (omega arith)
entry_at d (suc R) h w f y x k l = subst⁻¹ (λ (n : ℕ). AtNumber L n y x) is (on (λ i j r s. entry_at (suc d) R (h / 2) (w / 2) f.2 i j r s) q.band q.some q.down q.across)
  where
    q : InBand h w y x
    q = in_band_law h w y x f.0 f.1 k l

    rest : List Place
    rest = places_from true (suc d) (suc R) (h / 2) (w / 2)

    L : List Place
    L = bands h w (suc d) rest

    B : ℕ → ℕ → ℕ → ℕ
    B = with_low (λ y x. size h w + (size h w + (size h w + number_in (suc R) (h / 2) (w / 2) y x))) (rest_at h w)

    m : ℕ
    m = q.col * (h / 2) + q.row

    m-below : m < size h w
    m-below = index_bound q.col q.row (w / 2) (h / 2) q.wide q.tall

    is : layout h w B y x ≡ B q.band q.row q.col
    is = (λ i. layout h w B (sym q.down i) (sym q.across i)) ∙ layout_band h w B q.band q.row q.col q.some q.tall q.wide

    long : length L ≡ size h w + (size h w + (size h w + length rest))
    long = length_bands h w (suc d) rest

    on : ((i j : ℕ) → i < h / 2 → j < w / 2 → AtNumber rest (number_in (suc R) (h / 2) (w / 2) i j) i j) → (b : ℕ) → b < 4 → top h b + q.row ≡ y → left w b + q.col ≡ x → AtNumber L (B b q.row q.col) y x
    on ih zero c e g =
        let r = ih q.row q.col q.tall q.wide in
        found L (B 0 q.row q.col) y x (get_or rest (number_in (suc R) (h / 2) (w / 2) q.row q.col) none)
        (more (number_in (suc R) (h / 2) (w / 2) q.row q.col) r.inside) (past_bands h w (suc d) rest (number_in (suc R) (h / 2) (w / 2) q.row q.col))
        (r.down ∙ sym zero-down ∙ e) (r.across ∙ sym zero-across ∙ g)
      where
        zero-down : 0 + q.row ≡ q.row
        zero-down = omega arith

        zero-across : 0 + q.col ≡ q.col
        zero-across = omega arith

        more : (n : ℕ) → n < length rest → size h w + (size h w + (size h w + n)) < length L
        more n i = omega (arith, long)
    on ih (suc b) c e g =
        subst⁻¹ (λ (n : ℕ). AtNumber L (n * size h w + m) y x) (less b)
        (found L (b * size h w + m) y x (place_at h w (suc d) (suc b) q.row q.col) (inside b c)
        (in_bands h w (suc d) rest b q.row q.col (omega arith) q.tall q.wide) e g)
      where
        inside : (b : ℕ) → suc b < 4 → b * size h w + m < length L
        inside zero c = omega (arith, long, m-below)
        inside (suc zero) c = omega (arith, long, m-below)
        inside (suc (suc zero)) c = omega (arith, long, m-below)
        inside (suc (suc (suc b))) c = absurd (omega arith)
