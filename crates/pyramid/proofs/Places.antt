-- Sums along plane order: those over the bands of a level, then those of the other levels; and what a selection leaves at each place. Assumes nothing.
use mathlib.Core.Path.{◌≡◌, refl, sym, ap, ◌∙◌, subst}
use mathlib.Core.List.{List, [], ◌∷◌, ◌++◌}
use mathlib.Core.Bool.{false}
use Prim.Native.Nat.{ℕ, zero, suc, ◌+◌, ◌*◌, ◌-◌, ◌/◌, ◌%◌, ◌≤◌, ◌<◌}
use native.Mathlib.Omega.{arith}
use native.Mathlib.Nat.{mod-lt, div-lt_iff_lt-mul, div-add-mod', le_refl}
use native.Mathlib.Decide.{dec_lt}
use lib.ListN.{length, get_or, length-append, get_or-append}
use lib.Seq.{get_or-append-add}
use Rattle.integers.specs.Sum.{Σℕ, total}
use Rattle.integers.proofs.Sums.{Σℕ_cong, Σℕ_blocks, Σℕ_head}
use Rattle.integers.specs.Lists.{tabulate}
use Rattle.pyramid.specs.Plane.{Fits, Image}
use Rattle.pyramid.specs.Places.{Place, place_at, no_place, band_places, places_from, sum_over, tetrolet_places, at}
use Rattle.integers.proofs.Index.{index_bound, column_row, column_col}
use Rattle.pyramid.proofs.Pyramid.{top_below, left_below}
use Rattle.integers.proofs.Tabulate.{length_tabulate, get_d_tabulate}
use Rattle.pyramid.proofs.Slices.{Agree}

sum_append : (a b : List Place) (g : Place → ℕ) → sum_over (a ++ b) g ≡ sum_over a g + sum_over b g
sum_append [] b g = omega arith
sum_append (p ∷ a) b g = omega (arith, sum_append a b g)

sum_tabulate : (n : ℕ) (f : ℕ → Place) (g : Place → ℕ) → sum_over (tabulate n f) g ≡ Σℕ n (λ k. g (f k))
sum_tabulate zero f g = refl
sum_tabulate (suc n) f g = omega (arith, sum_tabulate n (λ k. f (suc k)) g, Σℕ_head n (λ k. g (f k)))

sum_band : (h w r b : ℕ) (g : Place → ℕ) → sum_over (band_places h w r b) g ≡ total (h / 2) (w / 2) (λ y x. g (place_at h w r b y x))
sum_band h w r b g =
    sum_tabulate ((w / 2) * (h / 2)) (λ k. place_at h w r b (k % (h / 2)) (k / (h / 2))) g
    ∙ Σℕ_blocks (w / 2) (h / 2) (λ k. g (place_at h w r b (k % (h / 2)) (k / (h / 2))))
    ∙ Σℕ_cong (w / 2) (λ x. Σℕ (h / 2) (λ y. g (place_at h w r b ((x * (h / 2) + y) % (h / 2)) ((x * (h / 2) + y) / (h / 2))))) (λ x. Σℕ (h / 2) (λ y. g (place_at h w r b y x)))
    (λ x l. Σℕ_cong (h / 2) (λ y. g (place_at h w r b ((x * (h / 2) + y) % (h / 2)) ((x * (h / 2) + y) / (h / 2)))) (λ y. g (place_at h w r b y x))
    (λ y k. λ t. g (place_at h w r b (column_row x y (h / 2) k t) (column_col x y (h / 2) k t))))

-- the bands of the first level, then the other levels
pub sum_places : (d R h w : ℕ) (g : Place → ℕ)
    → sum_over (places_from false d (suc R) h w) g
    ≡ Σℕ 3 (λ b. total (h / 2) (w / 2) (λ y x. g (place_at h w (suc d) (suc b) y x))) + sum_over (places_from false (suc d) R (h / 2) (w / 2)) g
unfolding places_from
sum_places d R h w g =
    omega (
      arith,
      sum_append (band_places h w (suc d) 1) (band_places h w (suc d) 2 ++ (band_places h w (suc d) 3 ++ places_from false (suc d) R (h / 2) (w / 2))) g,
      sum_append (band_places h w (suc d) 2) (band_places h w (suc d) 3 ++ places_from false (suc d) R (h / 2) (w / 2)) g,
      sum_append (band_places h w (suc d) 3) (places_from false (suc d) R (h / 2) (w / 2)) g,
      sum_band h w (suc d) 1 g,
      sum_band h w (suc d) 2 g,
      sum_band h w (suc d) 3 g,
    )

-- the sum by number
abbrev pub none : Place
none = no_place

pub sum_numbers : (l : List Place) (g : Place → ℕ) → sum_over l g ≡ Σℕ (length l) (λ n. g (get_or l n none))
sum_numbers [] g = refl
sum_numbers (p ∷ l) g = omega (arith, sum_numbers l g, Σℕ_head (length l) (λ n. g (get_or (p ∷ l) n none)))

-- a statement of each place of a list and its number
abbrev pub All : (ℕ → Place → Type 0) → List Place → Type 0
All Q l = (n : ℕ) → n < length l → Q n (get_or l n none)

pub all_append : (Q : ℕ → Place → Type 0) (a b : List Place) → All Q a → All (λ n p. Q (length a + n) p) b → All Q (a ++ b)
all_append Q a b f g n h = go (dec_lt n (length a))
  where
    go : Dec (n < length a) → Q n (get_or (a ++ b) n none)
    go (yes l) = rw (get_or-append a b none n l) (f n l)
    go (no l) =
        let e : length a + (n - length a) ≡ n = omega arith in
        subst (λ (m : ℕ). Q m (get_or (a ++ b) m none)) e
        (rw (get_or-append-add a b (n - length a) none) (g (n - length a) (omega (arith, length-append a b))))

abbrev pub size : ℕ → ℕ → ℕ
size h w = (w / 2) * (h / 2)

pub length_band : (h w r b : ℕ) → length (band_places h w r b) ≡ size h w
length_band h w r b = length_tabulate (size h w) (λ k. place_at h w r b (k % (h / 2)) (k / (h / 2)))

pub all_band : (Q : ℕ → Place → Type 0) (h w r b : ℕ) → ((y x : ℕ) → y < h / 2 → x < w / 2 → Q (x * (h / 2) + y) (place_at h w r b y x)) → All Q (band_places h w r b)
all_band Q h w r b f n l =
    rw (get_d_tabulate (size h w) (λ k. place_at h w r b (k % (h / 2)) (k / (h / 2))) none n n-below)
    (subst (λ (m : ℕ). Q m (place_at h w r b (n % (h / 2)) (n / (h / 2)))) (div-add-mod' n (h / 2)) (f (n % (h / 2)) (n / (h / 2)) (mod-lt n pos-h) ((div-lt_iff_lt-mul pos-h).1 n-below)))
  where
    n-below : n < size h w
    n-below = omega (arith, length_band h w r b)

    pos-h : 0 < h / 2
    pos-h = go (h / 2) n-below
      where
        go : (m : ℕ) → n < (w / 2) * m → 0 < m
        go zero q = absurd (omega arith)
        go (suc m) q = omega arith

-- bands 1 to 3 of a level, and what comes after them
abbrev pub bands : ℕ → ℕ → ℕ → List Place → List Place
bands h w r t = band_places h w r 1 ++ (band_places h w r 2 ++ (band_places h w r 3 ++ t))

pub all_bands : (Q : ℕ → Place → Type 0) (h w r : ℕ) (t : List Place)
    → ((b y x : ℕ) → b < 3 → y < h / 2 → x < w / 2 → Q (b * size h w + (x * (h / 2) + y)) (place_at h w r (suc b) y x))
    → All (λ n p. Q (size h w + (size h w + (size h w + n))) p) t
    → All Q (bands h w r t)
all_bands Q h w r t f g =
    all_append Q (band_places h w r 1) (band_places h w r 2 ++ (band_places h w r 3 ++ t))
    (all_band Q h w r 1 (λ y x a b. subst (λ (m : ℕ). Q m (place_at h w r 1 y x)) (e₁ (x * (h / 2) + y)) (f 0 y x (omega arith) a b)))
    (rw (length_band h w r 1)
    (all_append (λ n p. Q (size h w + n) p) (band_places h w r 2) (band_places h w r 3 ++ t)
    (all_band (λ n p. Q (size h w + n) p) h w r 2 (λ y x a b. subst (λ (m : ℕ). Q m (place_at h w r 2 y x)) (e₂ (x * (h / 2) + y)) (f 1 y x (omega arith) a b)))
    (rw (length_band h w r 2)
    (all_append (λ n p. Q (size h w + (size h w + n)) p) (band_places h w r 3) t
    (all_band (λ n p. Q (size h w + (size h w + n)) p) h w r 3 (λ y x a b. subst (λ (m : ℕ). Q m (place_at h w r 3 y x)) (e₃ (x * (h / 2) + y)) (f 2 y x (omega arith) a b)))
    (rw (length_band h w r 3) g)))))
  where
    e₁ : (m : ℕ) → 0 * size h w + m ≡ m
    e₁ m = omega arith

    e₂ : (m : ℕ) → 1 * size h w + m ≡ size h w + m
    e₂ m = omega arith

    e₃ : (m : ℕ) → 2 * size h w + m ≡ size h w + (size h w + m)
    e₃ m = omega arith

-- the bands of the first level, then the other levels
pub all_places : (Q : ℕ → Place → Type 0) (d R h w : ℕ)
    → ((b y x : ℕ) → b < 3 → y < h / 2 → x < w / 2 → Q (b * size h w + (x * (h / 2) + y)) (place_at h w (suc d) (suc b) y x))
    → All (λ n p. Q (size h w + (size h w + (size h w + n))) p) (places_from false (suc d) R (h / 2) (w / 2))
    → All Q (places_from false d (suc R) h w)
unfolding places_from
all_places Q d R h w f g = all_bands Q h w (suc d) (places_from false (suc d) R (h / 2) (w / 2)) f g

-- the levels of the places
pub places_levels : (d R T h w : ℕ) → d + R ≡ T → All (λ n p. (d < p.level) × (p.level ≤ T)) (places_from false d R h w)
unfolding places_from
places_levels d zero T h w e = λ n l. absurd (omega arith)
places_levels d (suc R) T h w e =
    all_places (λ n p. (d < p.level) × (p.level ≤ T)) d R h w (λ b y x c k l. (omega arith, omega arith)) (λ n l. let i = places_levels (suc d) R T (h / 2) (w / 2) (omega arith) n l in (omega arith, omega arith))

-- the places are in the plane
pub places_inside : (d R h w : ℕ) → Fits R h w → All (λ n p. (p.down < h) × (p.across < w)) (places_from false d R h w)
unfolding places_from
places_inside d zero h w f = λ n l. absurd (omega arith)
places_inside d (suc R) h w f =
    all_places (λ n p. (p.down < h) × (p.across < w)) d R h w
    (λ b y x c k l. (top_below h (suc b) y f.0 k, left_below w (suc b) x f.1 l))
    (wider (places_inside (suc d) R (h / 2) (w / 2) f.2))
  where
    wider : All (λ n p. (p.down < h / 2) × (p.across < w / 2)) (places_from false (suc d) R (h / 2) (w / 2)) → All (λ n p. (p.down < h) × (p.across < w)) (places_from false (suc d) R (h / 2) (w / 2))
    wider g n l = let i = g n l in (omega arith, omega arith)

-- the numbers of the entries of the first level's bands, and of the others
pub band_at : (h w r b : ℕ) (t : List Place) (y x : ℕ) → y < h / 2 → x < w / 2 → get_or (band_places h w r b ++ t) (x * (h / 2) + y) none ≡ place_at h w r b y x
band_at h w r b t y x k l =
    get_or-append (band_places h w r b) t none (x * (h / 2) + y) (omega (arith, length_band h w r b, index_bound x y (w / 2) (h / 2) l k))
    ∙ get_d_tabulate (size h w) (λ k. place_at h w r b (k % (h / 2)) (k / (h / 2))) none (x * (h / 2) + y) (index_bound x y (w / 2) (h / 2) l k)
    ∙ λ i. place_at h w r b (column_row x y (h / 2) k i) (column_col x y (h / 2) k i)

pub past_band : (h w r b : ℕ) (t : List Place) (n : ℕ) → get_or (band_places h w r b ++ t) (size h w + n) none ≡ get_or t n none
past_band h w r b t n = ap (λ (m : ℕ). get_or (band_places h w r b ++ t) (m + n) none) (sym (length_band h w r b)) ∙ get_or-append-add (band_places h w r b) t n none

pub length_bands : (h w r : ℕ) (t : List Place) → length (bands h w r t) ≡ size h w + (size h w + (size h w + length t))
length_bands h w r t =
    omega (
      arith,
      length-append (band_places h w r 1) (band_places h w r 2 ++ (band_places h w r 3 ++ t)),
      length-append (band_places h w r 2) (band_places h w r 3 ++ t),
      length-append (band_places h w r 3) t,
      length_band h w r 1,
      length_band h w r 2,
      length_band h w r 3,
    )

pub in_bands : (h w r : ℕ) (t : List Place) (b y x : ℕ) → b < 3 → y < h / 2 → x < w / 2 → get_or (bands h w r t) (b * size h w + (x * (h / 2) + y)) none ≡ place_at h w r (suc b) y x
in_bands h w r t zero y x c k l =
    let e : 0 * size h w + (x * (h / 2) + y) ≡ x * (h / 2) + y = omega arith in
    ap (λ (m : ℕ). get_or (bands h w r t) m none) e ∙ band_at h w r 1 (band_places h w r 2 ++ (band_places h w r 3 ++ t)) y x k l
in_bands h w r t (suc zero) y x c k l =
    let e : 1 * size h w + (x * (h / 2) + y) ≡ size h w + (x * (h / 2) + y) = omega arith in
    let u = band_places h w r 3 ++ t in
    ap (λ (m : ℕ). get_or (bands h w r t) m none) e ∙ past_band h w r 1 (band_places h w r 2 ++ u) (x * (h / 2) + y) ∙ band_at h w r 2 u y x k l
in_bands h w r t (suc (suc zero)) y x c k l =
    let e : 2 * size h w + (x * (h / 2) + y) ≡ size h w + (size h w + (x * (h / 2) + y)) = omega arith in
    let u = band_places h w r 3 ++ t in
    ap (λ (m : ℕ). get_or (bands h w r t) m none) e ∙ past_band h w r 1 (band_places h w r 2 ++ u) (size h w + (x * (h / 2) + y))
    ∙ past_band h w r 2 u (x * (h / 2) + y) ∙ band_at h w r 3 t y x k l
in_bands h w r t (suc (suc (suc b))) y x c k l = absurd (omega arith)

pub past_bands : (h w r : ℕ) (t : List Place) (n : ℕ) → get_or (bands h w r t) (size h w + (size h w + (size h w + n))) none ≡ get_or t n none
past_bands h w r t n =
    let c = band_places h w r 3 ++ t in
    past_band h w r 1 (band_places h w r 2 ++ c) (size h w + (size h w + n)) ∙ past_band h w r 2 c (size h w + n) ∙ past_band h w r 3 t n

pub length_places : (d R h w : ℕ) → length (places_from false d (suc R) h w) ≡ size h w + (size h w + (size h w + length (places_from false (suc d) R (h / 2) (w / 2))))
unfolding places_from
length_places d R h w = length_bands h w (suc d) (places_from false (suc d) R (h / 2) (w / 2))

pub place_number : (d R h w b y x : ℕ) → b < 3 → y < h / 2 → x < w / 2 → get_or (places_from false d (suc R) h w) (b * size h w + (x * (h / 2) + y)) none ≡ place_at h w (suc d) (suc b) y x
unfolding places_from
place_number d R h w b y x c k l = in_bands h w (suc d) (places_from false (suc d) R (h / 2) (w / 2)) b y x c k l

pub other_number : (d R h w n : ℕ) → get_or (places_from false d (suc R) h w) (size h w + (size h w + (size h w + n))) none ≡ get_or (places_from false (suc d) R (h / 2) (w / 2)) n none
unfolding places_from
other_number d R h w n = past_bands h w (suc d) (places_from false (suc d) R (h / 2) (w / 2)) n

-- back from a statement of each place: of the bands of a level, and of what comes after them
pub of_bands : (Q : Place → Type 0) (h w r : ℕ) (t : List Place) → All (λ n p. Q p) (bands h w r t)
    → ((b y x : ℕ) → b < 3 → y < h / 2 → x < w / 2 → Q (place_at h w r (suc b) y x)) × All (λ n p. Q p) t
of_bands Q h w r t a = (
  (λ b y x c k l. subst Q (in_bands h w r t b y x c k l) (a (b * size h w + (x * (h / 2) + y)) (inside b (x * (h / 2) + y) c (index_bound x y (w / 2) (h / 2) l k) (length_bands h w r t)))),
  (λ n l. subst Q (past_bands h w r t n) (a (size h w + (size h w + (size h w + n))) (omega (arith, length_bands h w r t)))),
)
  where
    inside : (b m : ℕ) {u : ℕ} → b < 3 → m < size h w → u ≡ size h w + (size h w + (size h w + length t)) → b * size h w + m < u
    inside zero m c l e = omega arith
    inside (suc zero) m c l e = omega arith
    inside (suc (suc zero)) m c l e = omega arith
    inside (suc (suc (suc b))) m c l e = absurd (omega arith)

pub of_places : (Q : Place → Type 0) (d R h w : ℕ) → All (λ n p. Q p) (places_from false d (suc R) h w)
    → ((b y x : ℕ) → b < 3 → y < h / 2 → x < w / 2 → Q (place_at h w (suc d) (suc b) y x)) × All (λ n p. Q p) (places_from false (suc d) R (h / 2) (w / 2))
unfolding places_from
of_places Q d R h w a = of_bands Q h w (suc d) (places_from false (suc d) R (h / 2) (w / 2)) a

-- sums over a list of places, place by place
pub sum_cong : (l : List Place) (f g : Place → ℕ) → ((n : ℕ) → n < length l → f (get_or l n none) ≡ g (get_or l n none)) → sum_over l f ≡ sum_over l g
sum_cong l f g e = sum_numbers l f ∙ Σℕ_cong (length l) (λ n. f (get_or l n none)) (λ n. g (get_or l n none)) e ∙ sym (sum_numbers l g)

pub sum_mono : (l : List Place) (f g : Place → ℕ) → ((p : Place) → f p ≤ g p) → sum_over l f ≤ sum_over l g
sum_mono [] f g e = le_refl 0
sum_mono (p ∷ l) f g e = omega (arith, sum_mono l f g e, e p)

-- what is read of two planes that agree
pub at_cong : (R h w : ℕ) → Fits R h w → (P Q : Image) → Agree h w P Q → (n : ℕ) → n < length (tetrolet_places R h w) → at P (get_or (tetrolet_places R h w) n none) ≡ at Q (get_or (tetrolet_places R h w) n none)
at_cong R h w f P Q e n l = let i = places_inside 0 R h w f n l in e (get_or (tetrolet_places R h w) n none).down (get_or (tetrolet_places R h w) n none).across i.0 i.1
