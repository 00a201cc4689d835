-- A statement of each place of a plane, band 0 included, is one of each entry of the low-pass and one of each tetrolet entry; so the ranges as a test
-- are the ranges as a fact. Assumes nothing.
use mathlib.Core.Path.{◌≡◌, refl, ap, subst, subst⁻¹}
use mathlib.Core.Logic.{◌↔◌}
use mathlib.Core.Bool.{Bool, true, false, cond}
use mathlib.Core.List.{List, []}
use Prim.Native.Nat.{ℕ, zero, suc, ◌+◌, ◌*◌, ◌-◌, ◌/◌, ◌^◌, ◌<◌, ◌≤◌}
use native.Mathlib.Omega.{arith}
use lib.Dec.{T, eqb, eqb→eq, leb, leb→le, le→leb}
use lib.IntN.{ℤ, pos, negsuc, nat_abs}
use lib.ListN.{get_or, length-append}
use Rattle.integers.specs.Lists.{every}
use Rattle.integers.proofs.Tests.{every_at, every_of, is_false}
use Rattle.integers.proofs.Index.{index_bound}
use Rattle.pyramid.specs.Plane.{Image, halved}
use Rattle.pyramid.specs.Places.{Place, place_at, band_places, places_from, tetrolet_places, plane_places, at}
use Rattle.pyramid.specs.Ranges.{is_low, fits_range, in_range, InRange}
use Rattle.pyramid.proofs.Places.{none, All, size, bands, all_append, all_band, all_bands, of_bands, length_band, band_at, past_band}

-- an entry of the low-pass: it stands where it stands in band 0
abbrev pub low_place : ℕ → ℕ → ℕ → Place
low_place r y x = place_at 0 0 r 0 y x

abbrev Both : (Place → Type 0) → ℕ → ℕ → ℕ → ℕ → Type 0
Both Q d R h w = ((y x : ℕ) → y < halved R h → x < halved R w → Q (low_place (d + R) y x)) × All (λ n p. Q p) (places_from false d R h w)

deeper : (d R : ℕ) → suc d + suc R ≡ d + suc (suc R)
deeper d R = omega arith

last : (d : ℕ) → suc d ≡ d + 1
last d = omega arith

pub of_plane : (Q : Place → Type 0) (d R h w : ℕ) → All (λ n p. Q p) (places_from true d (suc R) h w) → Both Q d (suc R) h w
unfolding places_from
of_plane Q d zero h w a = (
  (λ y x k l. subst (λ (r : ℕ). Q (low_place r y x)) (last d) (subst Q (band_at h w (suc d) 0 t y x k l) (a (x * (h / 2) + y) (omega (arith, length-append (band_places h w (suc d) 0) t, length_band h w (suc d) 0, index_bound x y (w / 2) (h / 2) l k))))),
  (λ n l. subst Q (past_band h w (suc d) 0 t n) (a (size h w + n) (omega (arith, length-append (band_places h w (suc d) 0) t, length_band h w (suc d) 0)))),
)
  where
    t : List Place
    t = bands h w (suc d) []
of_plane Q d (suc R) h w a = go (of_bands Q h w (suc d) (places_from true (suc d) (suc R) (h / 2) (w / 2)) a) (of_plane Q (suc d) R (h / 2) (w / 2))
  where
    go : ((b y x : ℕ) → b < 3 → y < h / 2 → x < w / 2 → Q (place_at h w (suc d) (suc b) y x)) × All (λ n p. Q p) (places_from true (suc d) (suc R) (h / 2) (w / 2))
        → (All (λ n p. Q p) (places_from true (suc d) (suc R) (h / 2) (w / 2)) → Both Q (suc d) (suc R) (h / 2) (w / 2))
        → Both Q d (suc (suc R)) h w
    go o ih =
        let r = ih o.1 in (
          (λ y x k l. subst (λ (r : ℕ). Q (low_place r y x)) (deeper d R) (r.0 y x k l)),
          all_bands (λ n p. Q p) h w (suc d) (places_from false (suc d) (suc R) (h / 2) (w / 2)) (λ b y x c k l. o.0 b y x c k l) r.1,
        )

pub to_plane : (Q : Place → Type 0) (d R h w : ℕ) → Both Q d (suc R) h w → All (λ n p. Q p) (places_from true d (suc R) h w)
unfolding places_from
to_plane Q d zero h w b =
    all_append (λ n p. Q p) (band_places h w (suc d) 0) (bands h w (suc d) [])
    (all_band (λ n p. Q p) h w (suc d) 0 (λ y x k l. subst⁻¹ (λ (r : ℕ). Q (low_place r y x)) (last d) (b.0 y x k l)))
    b.1
to_plane Q d (suc R) h w b = go (of_bands Q h w (suc d) (places_from false (suc d) (suc R) (h / 2) (w / 2)) b.1) (to_plane Q (suc d) R (h / 2) (w / 2))
  where
    go : ((b y x : ℕ) → b < 3 → y < h / 2 → x < w / 2 → Q (place_at h w (suc d) (suc b) y x)) × All (λ n p. Q p) (places_from false (suc d) (suc R) (h / 2) (w / 2))
        → (Both Q (suc d) (suc R) (h / 2) (w / 2) → All (λ n p. Q p) (places_from true (suc d) (suc R) (h / 2) (w / 2)))
        → All (λ n p. Q p) (bands h w (suc d) (places_from true (suc d) (suc R) (h / 2) (w / 2)))
    go o ih =
        all_bands (λ n p. Q p) h w (suc d) (places_from true (suc d) (suc R) (h / 2) (w / 2)) (λ b y x c k l. o.0 b y x c k l)
        (ih ((λ y x k l. subst⁻¹ (λ (r : ℕ). Q (low_place r y x)) (deeper d R) (b.0 y x k l)), o.1))

-- the tetrolet entries are of bands 1 to 3
pub places_banded : (d R h w : ℕ) → All (λ n p. 0 < p.band) (places_from false d R h w)
unfolding places_from
places_banded d zero h w = λ n l. absurd (omega arith)
places_banded d (suc R) h w = all_bands (λ n p. 0 < p.band) h w (suc d) (places_from false (suc d) R (h / 2) (w / 2)) (λ b y x c k l. omega arith) (places_banded (suc d) R (h / 2) (w / 2))

-- the test of one entry
low_fits : (R : ℕ) (z : ℤ) → T (is_low R z) ↔ ((n : ℕ) × (z ≡ pos n) × (n ≤ 4095 * 4 ^ R))
low_fits R (pos n) = ((λ t. (n, refl, leb→le n (4095 * 4 ^ R) t)), (λ r. subst⁻¹ (λ (y : ℤ). T (is_low R y)) r.1 (le→leb r.0 (4095 * 4 ^ R) r.2)))
low_fits R (negsuc n) = ((λ t. absurd t), (λ r. subst⁻¹ (λ (y : ℤ). T (is_low R y)) r.1 (le→leb r.0 (4095 * 4 ^ R) r.2)))

pub band_fits : (R : ℕ) (p : Place) (z : ℤ) → 0 < p.band → fits_range R p z ≡ leb (nat_abs z) (2 * 4 ^ (p.level - 1) * 4095)
band_fits R p z h = ap (λ (b : Bool). cond b (is_low R z) (leb (nat_abs z) (2 * 4 ^ (p.level - 1) * 4095))) (is_false (eqb p.band 0) (λ t. no t))
  where
    no : T (eqb p.band 0) → ⊥
    no t = let e = eqb→eq p.band 0 t in omega arith

abbrev Fine : ℕ → Image → Place → Type 0
Fine R P p = T (fits_range R p (at P p))

zero_plus : (y : ℕ) → 0 + y ≡ y
zero_plus y = omega arith

-- the ranges as a test are the ranges as a fact
pub ranged : (R h w : ℕ) (P : Image) → T (in_range (suc R) h w P) ↔ InRange (suc R) h w P
unfolding in_range
ranged R h w P = (there, back)
  where
    ps : List Place
    ps = plane_places (suc R) h w

    ts : List Place
    ts = tetrolet_places (suc R) h w

    there : T (every (λ p. fits_range (suc R) p (at P p)) ps) → InRange (suc R) h w P
    there t =
        let b = of_plane (Fine (suc R) P) 0 R h w (every_at (λ p. fits_range (suc R) p (at P p)) ps none t) in
        record {
          low = λ y x k l. (low_fits (suc R) (P y x)).0 (subst (λ (z : ℤ). T (is_low (suc R) z)) (λ i. P (zero_plus y i) (zero_plus x i)) (b.0 y x k l));
          tetrolet = λ k l. let p = get_or ts k none in leb→le _ _ (subst T (band_fits (suc R) p (at P p) (places_banded 0 (suc R) h w k l)) (b.1 k l));
        }

    back : InRange (suc R) h w P → T (every (λ p. fits_range (suc R) p (at P p)) ps)
    back r =
        every_of (λ p. fits_range (suc R) p (at P p)) ps none
        (to_plane (Fine (suc R) P) 0 R h w (
          (λ y x k l. subst⁻¹ (λ (z : ℤ). T (is_low (suc R) z)) (λ i. P (zero_plus y i) (zero_plus x i)) ((low_fits (suc R) (P y x)).1 (r.low y x k l))),
          (λ k l. let p = get_or ts k none in subst⁻¹ T (band_fits (suc R) p (at P p) (places_banded 0 (suc R) h w k l)) (le→leb _ _ (r.tetrolet k l))),
        ))
