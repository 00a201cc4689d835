-- All levels: no half is rounded, and at each place of plane order the published plane is ours times a power of two. Assumes nothing.
use mathlib.Core.Path.{◌≡◌, refl, sym, ap, ◌∙◌, subst⁻¹}
use mathlib.Core.Bool.{Bool, true, false, ◌&&◌}
use mathlib.Core.List.{List, ◌++◌}
use Prim.Native.Nat.{ℕ, zero, suc, ◌+◌, ◌*◌, ◌-◌, ◌/◌, ◌^◌, ◌<◌, ◌≤◌}
use native.Mathlib.Omega.{arith}
use native.Mathlib.Nat.{pow-succ'}
use lib.IntN.{ℤ, pos, ◌*ℤ◌}
use lib.ListN.{get_or}
use Rattle.integers.proofs.Laws.{*ℤ_assoc}
use Rattle.pyramid.specs.Plane.{Image, Fits, blocks, block_of, after, bands_of, layout, with_low, analyse}
use Rattle.pyramid.specs.Places.{Place, no_place, place_at, low_places, is_last, band_places, places_from, at}
use Rattle.pyramid.proofs.Levels.{layout_low, layout_band}
use Rattle.pyramid.proofs.Pyramid.{top_below, left_below}
use Rattle.pyramid.proofs.Places.{all_append, all_band, all_bands, bands}
use Rattle.published.specs.Published.{times, published_level}
use Rattle.published.specs.Laws.{Each, Exact}
use Rattle.published.proofs.Halves.{twice_coefficient}
use Rattle.published.proofs.Choices.{bands_even}

-- no half is rounded, in units of 1 / 2 ^ N
pub exact_units : (R N h w : ℕ) → R ≤ N → (cs : ℕ → ℕ) (A : Image) → Exact R h w cs (times (2 ^ N) A)
exact_units zero N h w l cs A = tt
exact_units (suc R) zero h w l cs A = absurd (omega arith)
exact_units (suc R) (suc N) h w l cs A = subst⁻¹ (λ (u : ℕ). Exact (suc R) h w cs (times u A)) (pow-succ' 2 N) (
  (λ y x. (pos (2 ^ N) *ℤ A y x, *ℤ_assoc (pos 2) (pos (2 ^ N)) (A y x))),
  (λ word i j l p g. twice_coefficient (2 ^ N) word (block_of A i j) l p g),
  subst⁻¹ (λ (L : Image). Exact R (h / 2) (w / 2) (after (blocks h w) cs) L) (bands_even (2 ^ N) h cs A 0 (omega arith))
      (exact_units R N (h / 2) (w / 2) (omega arith) (after (blocks h w) cs) (bands_of h cs A 0)),
)

-- plane order with band 0 or without: the bands of the first level, then the other levels
each_from : (Q : Place → Type 0) (low : Bool) (d R h w : ℕ)
    → ((b y x : ℕ) → b < 4 → y < h / 2 → x < w / 2 → (b ≡ 0 → R ≡ 0) → Q (place_at h w (suc d) b y x))
    → Each (places_from low (suc d) R (h / 2) (w / 2)) Q → Each (places_from low d (suc R) h w) Q
unfolding places_from
each_from Q low d R h w f g = go low R refl (all_bands (λ n p. Q p) h w (suc d) rest (λ b y x c k l. f (suc b) y x (omega arith) k l (λ e. absurd (omega arith))) g)
  where
    rest : List Place
    rest = places_from low (suc d) R (h / 2) (w / 2)

    go : (low : Bool) (S : ℕ) → R ≡ S → Each (bands h w (suc d) rest) Q → Each (low_places (low && is_last S) h w (suc d) ++ bands h w (suc d) rest) Q
    go true zero e a = all_append (λ n p. Q p) (band_places h w (suc d) 0) (bands h w (suc d) rest) (all_band (λ n p. Q p) h w (suc d) 0 (λ y x k l. f 0 y x (omega arith) k l (λ z. e))) a
    go true (suc S) e a = a
    go false S e a = a

pub each_inside : (low : Bool) (d R h w : ℕ) → Fits R h w → Each (places_from low d R h w) (λ p. (p.down < h) × (p.across < w))
unfolding places_from
each_inside low d zero h w f = λ n l. absurd (omega arith)
each_inside low d (suc R) h w f =
    each_from (λ p. (p.down < h) × (p.across < w)) low d R h w
    (λ b y x c k l z. (top_below h b y f.0 k, left_below w b x f.1 l))
    (λ n l. let i = each_inside low (suc d) R (h / 2) (w / 2) f.2 n l in (omega arith, omega arith))

pub each_level : (low : Bool) (d R T h w : ℕ) → d + R ≡ T → Each (places_from low d R h w) (λ p. p.level ≤ T)
unfolding places_from
each_level low d zero T h w e = λ n l. absurd (omega arith)
each_level low d (suc R) T h w e = each_from (λ p. p.level ≤ T) low d R h w (λ b y x c k l z. omega arith) (each_level low (suc d) R T (h / 2) (w / 2) (omega arith))

-- a place stands behind the levels before it
each_behind : (low : Bool) (d R h w : ℕ) → Each (places_from low d R h w) (λ p. d < p.level)
unfolding places_from
each_behind low d zero h w = λ n l. absurd (omega arith)
each_behind low d (suc R) h w = each_from (λ p. d < p.level) low d R h w (λ b y x c k l z. omega arith) (λ n l. let i = each_behind low (suc d) R (h / 2) (w / 2) n l in omega arith)

-- no level is left
none_left : (R h w : ℕ) (cs : ℕ → ℕ) (A : Image) → R ≡ 0 → analyse R h w cs A ≡ A
unfolding analyse
none_left zero h w cs A e = refl
none_left (suc R) h w cs A e = absurd (omega arith)

-- the published numbers of an image behind the first d levels, by their places
abbrev pub behind : ℕ → ℕ → ℕ → (ℕ → ℕ) → Image → Place → ℤ
behind d h w cs A p = published_level (p.level - d) h w cs A p.band p.row p.col

-- behind the first d levels, in units of 1 / 2 ^ N
pub scaled_units : (low : Bool) (d R N h w : ℕ) → R ≤ N → Fits R h w → (cs : ℕ → ℕ) (A : Image)
    → Each (places_from low d R h w) (λ p. behind d h w cs (times (2 ^ N) A) p ≡ pos (2 ^ (d + N - p.level)) *ℤ at (analyse R h w cs A) p)
unfolding places_from published_level analyse
scaled_units low d zero N h w l f cs A = λ n k. absurd (omega arith)
scaled_units low d (suc R) zero h w l f cs A = absurd (omega arith)
scaled_units low d (suc R) (suc N) h w l f cs A =
    subst⁻¹ (λ (u : ℕ). Each (places_from low d (suc R) h w) (λ p. behind d h w cs (times u A) p ≡ factor p *ℤ at P p)) (pow-succ' 2 N)
    (each_from (λ p. behind d h w cs E p ≡ factor p *ℤ at P p) low d R h w
    in_band_law
    (deeper (scaled_units low (suc d) R N (h / 2) (w / 2) (omega arith) f.2 (after (blocks h w) cs) (bands_of h cs A 0))))
  where
    E : Image
    E = times (2 * 2 ^ N) A

    factor : Place → ℤ
    factor p = pos (2 ^ (d + suc N - p.level))

    M : Image
    M = analyse R (h / 2) (w / 2) (after (blocks h w) cs) (bands_of h cs A 0)

    P : Image
    P = layout h w (with_low M (bands_of h cs A))

    -- the other levels
    step : (p : Place) → suc d < p.level → behind d h w cs E p ≡ behind (suc d) (h / 2) (w / 2) (after (blocks h w) cs) (times (2 ^ N) (bands_of h cs A 0)) p
    step p g =
        let two : p.level - d ≡ suc (suc (p.level - suc (suc d))) = omega arith in
        let one : suc (p.level - suc (suc d)) ≡ p.level - suc d = omega arith in
        ap (λ (r : ℕ). published_level r h w cs E p.band p.row p.col) two
        ∙ (λ t. published_level (one t) (h / 2) (w / 2) (after (blocks h w) cs) (bands_even (2 ^ N) h cs A 0 (omega arith) t) p.band p.row p.col)

    deeper : Each (places_from low (suc d) R (h / 2) (w / 2)) (λ p. behind (suc d) (h / 2) (w / 2) (after (blocks h w) cs) (times (2 ^ N) (bands_of h cs A 0)) p ≡ pos (2 ^ (suc d + N - p.level)) *ℤ at M p)
        → Each (places_from low (suc d) R (h / 2) (w / 2)) (λ p. behind d h w cs E p ≡ factor p *ℤ at P p)
    deeper g n k =
        let i = each_inside low (suc d) R (h / 2) (w / 2) f.2 n k in
        let p = get_or (places_from low (suc d) R (h / 2) (w / 2)) n no_place in
        let e : suc d + N - p.level ≡ d + suc N - p.level = omega arith in
        step p (each_behind low (suc d) R (h / 2) (w / 2) n k)
        ∙ g n k
        ∙ (λ t. pos (2 ^ e t) *ℤ sym (layout_low h w (with_low M (bands_of h cs A)) p.down p.across i.0 i.1) t)

    -- the bands of this level
    ours : (b y x : ℕ) → (b ≡ 0 → R ≡ 0) → bands_of h cs A b y x ≡ with_low M (bands_of h cs A) b y x
    ours zero y x z = ap (λ (I : Image). I y x) (sym (none_left R (h / 2) (w / 2) (after (blocks h w) cs) (bands_of h cs A 0) (z refl)))
    ours (suc b) y x z = refl

    in_band_law : (b y x : ℕ) → b < 4 → y < h / 2 → x < w / 2 → (b ≡ 0 → R ≡ 0) → behind d h w cs E (place_at h w (suc d) b y x) ≡ factor (place_at h w (suc d) b y x) *ℤ at P (place_at h w (suc d) b y x)
    in_band_law b y x c k l z =
        let e : N ≡ d + suc N - suc d = omega arith in
        let one : suc d - d ≡ 1 = omega arith in
        ap (λ (r : ℕ). published_level r h w cs E b y x) one
        ∙ ap (λ (I : Image). I y x) (bands_even (2 ^ N) h cs A b c)
        ∙ (λ t. pos (2 ^ e t) *ℤ (ours b y x z ∙ sym (layout_band h w (with_low M (bands_of h cs A)) b y x c k l)) t)
