-- The squares of the numerators of a plane: 4 ^ R times those of the low-pass, and 4 ^ (2R - r) times those of the tetrolet entries of each level r. Assumes nothing.
use mathlib.Core.Path.{◌≡◌, sym, ap, ◌∙◌, subst}
use mathlib.Core.Bool.{false}
use Prim.Native.Nat.{ℕ, zero, suc, ◌+◌, ◌*◌, ◌-◌, ◌/◌, ◌^◌, ◌<◌}
use native.Mathlib.Omega.{arith}
use native.Mathlib.Nat.{pow-succ', pow-zero, add-zero, add-suc, mul-one}
use lib.IntN.{ℤ, pos, ◌*ℤ◌}
use Rattle.integers.proofs.Bound.{abs_mul}
use Rattle.integers.specs.Sum.{Σℕ, sq, total}
use Rattle.integers.proofs.Sums.{Σℕ_cong, Σℕ_scale}
use Rattle.pyramid.specs.Plane.{Image, Fits, blocks, after, band, with_low, numerators, Numbers, all_blocks}
use Rattle.pyramid.specs.Places.{Place, place_at, places_from, at, sum_over}
use Rattle.pyramid.proofs.Levels.{merge_squares}
use Rattle.pyramid.proofs.Pyramid.{first_numbers, other_numbers}
use Rattle.pyramid.proofs.Places.{sum_places}

pub pow_add : (n a b : ℕ) → n ^ (a + b) ≡ n ^ a * n ^ b
pow_add n a zero = ap (λ (e : ℕ). n ^ e) (add-zero a) ∙ sym (mul-one (n ^ a)) ∙ ap (λ (x : ℕ). n ^ a * x) (sym (pow-zero n))
pow_add n a (suc b) = ap (λ (e : ℕ). n ^ e) (add-suc a b) ∙ pow-succ' n (a + b) ∙ ap (λ (x : ℕ). n * x) (pow_add n a b) ∙ move (n ^ a) (n ^ b) (n ^ suc b) (pow-succ' n b)
  where
    move : (x y z : ℕ) → z ≡ n * y → n * (x * y) ≡ x * z
    move x y z e = rw e (omega arith)

-- the sum over the low-pass that R levels leave
abbrev pub low_total : ℕ → ℕ → ℕ → (ℕ → ℕ → ℕ) → ℕ
low_total zero h w f = total h w f
low_total (suc R) h w f = low_total R (h / 2) (w / 2) f

pub total_cong : (h w : ℕ) (f g : ℕ → ℕ → ℕ) → ((y x : ℕ) → y < h → x < w → f y x ≡ g y x) → total h w f ≡ total h w g
total_cong h w f g e = Σℕ_cong w (λ x. Σℕ h (λ y. f y x)) (λ x. Σℕ h (λ y. g y x)) (λ x l. Σℕ_cong h (λ y. f y x) (λ y. g y x) (λ y k. e y x k l))

pub total_scale : (h w c : ℕ) (f : ℕ → ℕ → ℕ) → total h w (λ y x. c * f y x) ≡ c * total h w f
total_scale h w c f =
    Σℕ_cong w (λ x. Σℕ h (λ y. c * f y x)) (λ x. c * Σℕ h (λ y. f y x)) (λ x l. Σℕ_scale h c (λ y. f y x)) ∙ Σℕ_scale w c (λ x. Σℕ h (λ y. f y x))

sq_scale : (c : ℕ) (z : ℤ) → sq (pos c *ℤ z) ≡ c * c * sq z
sq_scale c z = rw (abs_mul (pos c) z) (omega arith)

-- d levels are done, R are left, and T are all
pub energy : (d R T h w : ℕ) → d + R ≡ T → Fits R h w → (cs : ℕ → ℕ) → Numbers (all_blocks R h w) cs → (P : Image)
    → 4 ^ d * total h w (λ y x. sq (numerators R h w cs P y x))
    ≡ 4 ^ T * low_total R h w (λ y x. sq (P y x)) + sum_over (places_from false d R h w) (λ p. 4 ^ (2 * T - p.level) * sq (at P p))
unfolding numerators places_from
energy d zero T h w e f cs ns P =
    let q : d ≡ T = omega arith in
    ap (λ (n : ℕ). 4 ^ n * total h w (λ y x. sq (P y x))) q ∙ sym (add-zero (4 ^ T * total h w (λ y x. sq (P y x))))
energy d (suc R) T h w e f cs ns P =
    go (4 ^ d) (4 ^ R) (4 ^ suc d) (total (h / 2) (w / 2) (λ y x. sq (numerators R (h / 2) (w / 2) (after (blocks h w) cs) P y x))) (4 ^ T * low_total R (h / 2) (w / 2) (λ y x. sq (P y x)))
    (sum_over (places_from false (suc d) R (h / 2) (w / 2)) weighted) (4 ^ (2 * T - suc d)) (pow-succ' 4 d) weight
    (energy (suc d) R T (h / 2) (w / 2) (omega arith) f.2 (after (blocks h w) cs) (other_numbers {cs = cs} R h w ns) P)
    (λ b. total (h / 2) (w / 2) (λ y x. sq (pos (4 ^ R) *ℤ band h w P (suc b) y x))) (λ b. total (h / 2) (w / 2) (λ y x. sq (band h w P (suc b) y x))) (λ b. total (h / 2) (w / 2) (λ y x. 4 ^ (2 * T - suc d) * sq (band h w P (suc b) y x)))
    (merge_squares h w f.0 f.1 cs (first_numbers {cs = cs} R h w ns) B)
    (bands (4 ^ R * 4 ^ R) (λ b y x. pos (4 ^ R) *ℤ band h w P (suc b) y x) (λ b y x. sq_scale (4 ^ R) (band h w P (suc b) y x)))
    (sum_places d R h w weighted)
    (Σℕ_cong 3 (λ b. total (h / 2) (w / 2) (λ y x. 4 ^ (2 * T - suc d) * sq (band h w P (suc b) y x))) (λ b. 4 ^ (2 * T - suc d) * total (h / 2) (w / 2) (λ y x. sq (band h w P (suc b) y x)))
    (λ b l. total_scale (h / 2) (w / 2) (4 ^ (2 * T - suc d)) (λ y x. sq (band h w P (suc b) y x)))
    ∙ Σℕ_scale 3 (4 ^ (2 * T - suc d)) (λ b. total (h / 2) (w / 2) (λ y x. sq (band h w P (suc b) y x))))
  where
    weighted : Place → ℕ
    weighted p = 4 ^ (2 * T - p.level) * sq (at P p)

    B : ℕ → Image
    B = with_low (numerators R (h / 2) (w / 2) (after (blocks h w) cs) P) (λ b y x. pos (4 ^ R) *ℤ band h w P b y x)

    weight : 4 ^ (2 * T - suc d) ≡ 4 * 4 ^ d * (4 ^ R * 4 ^ R)
    weight =
        let q : 2 * T - suc d ≡ suc d + (R + R) = omega arith in
        ap (λ (n : ℕ). 4 ^ n) q ∙ pow_add 4 (suc d) (R + R) ∙ (λ i. pow-succ' 4 d i * pow_add 4 R R i)

    bands : (c : ℕ) (C : ℕ → Image) → ((b y x : ℕ) → sq (C b y x) ≡ c * sq (band h w P (suc b) y x))
        → Σℕ 3 (λ b. total (h / 2) (w / 2) (λ y x. sq (C b y x))) ≡ c * Σℕ 3 (λ b. total (h / 2) (w / 2) (λ y x. sq (band h w P (suc b) y x)))
    bands c C q =
        Σℕ_cong 3 (λ b. total (h / 2) (w / 2) (λ y x. sq (C b y x))) (λ b. c * total (h / 2) (w / 2) (λ y x. sq (band h w P (suc b) y x)))
        (λ b l. total_cong (h / 2) (w / 2) (λ y x. sq (C b y x)) (λ y x. c * sq (band h w P (suc b) y x)) (λ y x k m. q b y x) ∙ total_scale (h / 2) (w / 2) c (λ y x. sq (band h w P (suc b) y x)))
        ∙ Σℕ_scale 3 c (λ b. total (h / 2) (w / 2) (λ y x. sq (band h w P (suc b) y x)))

    go : (a r a' X L S u : ℕ) → a' ≡ 4 * a → u ≡ 4 * a * (r * r) → a' * X ≡ L + S → (c y v : ℕ → ℕ) {t s : ℕ}
        → t ≡ 4 * (0 + X + c 0 + c 1 + c 2) → Σℕ 3 c ≡ r * r * Σℕ 3 y → s ≡ Σℕ 3 v + S → Σℕ 3 v ≡ u * Σℕ 3 y → a * t ≡ L + s
    go a r a' X L S u ea eu ih c y v {t} {s} et ec es ev =
        let t' : t ≡ 4 * (X + r * r * Σℕ 3 y) = (et ∙ ap (λ (z : ℕ). 4 * z) (regroup ∙ ap (λ (z : ℕ). X + z) ec)) in
        rw (t', es) (last (Σℕ 3 y) (Σℕ 3 v) (ev ∙ ap (λ (z : ℕ). z * Σℕ 3 y) eu) (subst (λ (z : ℕ). z * X ≡ L + S) ea ih))
      where
        regroup : 0 + X + c 0 + c 1 + c 2 ≡ X + Σℕ 3 c
        regroup = omega arith

        last : (y v : ℕ) → v ≡ 4 * a * (r * r) * y → 4 * a * X ≡ L + S → a * (4 * (X + r * r * y)) ≡ L + (v + S)
        last y v h g = omega arith

-- the weights are 4 ^ T times those of the ranks
pub factor : (d R T h w : ℕ) → d + R ≡ T → (g : Place → ℕ)
    → sum_over (places_from false d R h w) (λ p. 4 ^ (2 * T - p.level) * g p) ≡ 4 ^ T * sum_over (places_from false d R h w) (λ p. 4 ^ (T - p.level) * g p)
unfolding places_from
factor d zero T h w e g = sym (omega arith)
factor d (suc R) T h w e g =
    go (sum_over (places_from false (suc d) R (h / 2) (w / 2)) (λ p. 4 ^ (T - p.level) * g p)) (Σℕ 3 (λ b. total (h / 2) (w / 2) (λ y x. 4 ^ (T - suc d) * g (place_at h w (suc d) (suc b) y x)))) (sum_places d R h w (λ p. 4 ^ (2 * T - p.level) * g p)) (sum_places d R h w (λ p. 4 ^ (T - p.level) * g p))
    (factor (suc d) R T (h / 2) (w / 2) (omega arith) g)
    (Σℕ_cong 3 (λ b. total (h / 2) (w / 2) (λ y x. 4 ^ (2 * T - suc d) * g (place_at h w (suc d) (suc b) y x))) (λ b. 4 ^ T * total (h / 2) (w / 2) (λ y x. 4 ^ (T - suc d) * g (place_at h w (suc d) (suc b) y x)))
    (λ b l. total_cong (h / 2) (w / 2) (λ y x. 4 ^ (2 * T - suc d) * g (place_at h w (suc d) (suc b) y x)) (λ y x. 4 ^ T * (4 ^ (T - suc d) * g (place_at h w (suc d) (suc b) y x))) (λ y x k m. one (g (place_at h w (suc d) (suc b) y x)))
    ∙ total_scale (h / 2) (w / 2) (4 ^ T) (λ y x. 4 ^ (T - suc d) * g (place_at h w (suc d) (suc b) y x)))
    ∙ Σℕ_scale 3 (4 ^ T) (λ b. total (h / 2) (w / 2) (λ y x. 4 ^ (T - suc d) * g (place_at h w (suc d) (suc b) y x))))
  where
    one : (x : ℕ) → 4 ^ (2 * T - suc d) * x ≡ 4 ^ T * (4 ^ (T - suc d) * x)
    one x =
        let q : 2 * T - suc d ≡ T + (T - suc d) = omega arith in
        ap (λ (n : ℕ). 4 ^ n * x) q ∙ ap (λ (n : ℕ). n * x) (pow_add 4 T (T - suc d)) ∙ assoc (4 ^ T) (4 ^ (T - suc d))
      where
        assoc : (a b : ℕ) → a * b * x ≡ a * (b * x)
        assoc a b = omega arith

    go : (S b' : ℕ) {t s S' b : ℕ} → t ≡ b + S' → s ≡ b' + S → S' ≡ 4 ^ T * S → b ≡ 4 ^ T * b' → t ≡ 4 ^ T * s
    go S b' {t} {s} {S'} {b} e₁ e₂ e₃ e₄ = rw (e₁, e₂, e₃, e₄) (omega arith)
