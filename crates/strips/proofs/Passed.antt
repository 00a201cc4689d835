-- The joined strip passes the checks that the two strips pass. Assumes nothing.
use mathlib.Core.Path.{◌≡◌, refl, ap, ◌∙◌, subst⁻¹}
use mathlib.Core.Bool.{Bool, true}
use mathlib.Core.List.{List}
use Prim.Native.Nat.{ℕ, zero, suc, ◌+◌, ◌^◌, ◌<◌, ◌≤◌}
use native.Mathlib.Omega.{arith}
use native.Mathlib.Decide.{dec_lt}
use borrow.Author.Tests.{eqb-true}
use lib.Dec.{T}
use lib.IntN.{ℤ}
use lib.ListN.{length, get_or}
use Rattle.integers.specs.Lists.{every}
use Rattle.integers.proofs.Tests.{is_true, both, both_true, eq→eqb, every_at, every_of}
use Rattle.coverings.specs.Entry.{is_number}
use Rattle.coverings.proofs.Checks.{number_at, every_number}
use Rattle.pyramid.specs.Plane.{Image, Fits, all_blocks, halved, Numbers, listed}
use Rattle.pyramid.specs.Places.{Place, place_at, no_place, places_from, plane_places, at}
use Rattle.pyramid.specs.Ranges.{fits_range, in_range}
use Rattle.pyramid.specs.Sides.{Side, is_sides, is_depth, is_plane, is_coverings}
use Rattle.pyramid.specs.Slices.{image_of, slice_of}
use Rattle.pyramid.proofs.Order.{plane_inside}
use Rattle.pyramid.proofs.Sides.{size_laws}
use Rattle.pyramid.proofs.Slices.{image_slice, slice_length}
use Rattle.strips.specs.Join.{joined, joined_covers, joined_of}
use Rattle.strips.specs.Strip.{Strip, strip_of, is_framed, Framed, Passes}
use Rattle.strips.proofs.Beside.{wide_fits, level_columns}
use Rattle.strips.proofs.Covers.{joined_length, joined_numbers}
use Rattle.strips.proofs.Placed.{joined_all}

-- a range asks for the level and the band only
abbrev Ranged : ℕ → ℕ → ℕ → ℕ → ℕ → ℤ → Type 0
Ranged R r b y x z = T (fits_range R (place_at 0 0 r b y x) z)

joined_range : (R h w : ℕ) → Fits R h w → (p q : List ℤ) → T (in_range R h w (image_of h p)) → T (in_range R h w (image_of h q)) → T (in_range R h (w + w) (image_of h (joined_of R h w p q)))
unfolding in_range places_from
joined_range zero h w f p q a b = tt
joined_range (suc R) h w f p q a b =
    every_of (test (image_of h (slice_of h (w + w) J))) wide no_place
    (λ n l.
    let i = plane_inside 0 R h (w + w) (wide_fits (suc R) h w f) n l in
    let e = get_or wide n no_place in
    subst⁻¹ (λ (z : ℤ). T (fits_range (suc R) e z)) (image_slice h (w + w) J e.down e.across i.0 i.1)
    (joined_all (Ranged (suc R)) (λ r. halved r w) (image_of h p) (image_of h q) 0 R h w f (level_columns w)
    (every_at (test (image_of h p)) narrow no_place a) (every_at (test (image_of h q)) narrow no_place b) n l))
  where
    test : Image → Place → Bool
    test P p = fits_range (suc R) p (at P p)

    narrow : List Place
    narrow = plane_places (suc R) h w

    wide : List Place
    wide = plane_places (suc R) h (w + w)

    J : Image
    J = joined (suc R) h w (image_of h p) (image_of h q)

-- coverings that pass check 5 are numbers
pub of_test : (n : ℕ) (cs : List ℕ) → length cs ≡ n → T (every is_number cs) → Numbers n (listed cs)
of_test n cs e t k l = number_at cs k (is_true (every is_number cs) t) (omega arith)

-- check 3 of one strip, as facts
pub framed_of : (s : Strip) → Framed s → T (is_framed s)
framed_of s f = both (is_plane s.height s.width s.plane) (is_coverings s.levels s.height s.width s.coverings) (eq→eqb f.0) (eq→eqb f.1)

pub of_framed : (s : Strip) → is_framed s ≡ true → Framed s
of_framed s e = let b = both_true (is_plane s.height s.width s.plane) (is_coverings s.levels s.height s.width s.coverings) e in (eqb-true _ _ b.0, eqb-true _ _ b.1)

-- twice a side is the next one, up to 512
twice_side : {n : ℕ} (s : Side n) → n + n ≤ 512 → (t : Side (n + n)) × (t.log ≡ suc s.log)
twice_side {n} s l = (record { log = suc s.log; small = below (dec_lt s.log 9); large = let g = s.large in omega arith; is = let e = s.is in omega arith }, refl)
  where
    below : Dec (s.log < 9) → suc s.log ≤ 9
    below (yes g) = omega arith
    below (no g) =
        let e : s.log ≡ 9 = omega (arith, s.small) in
        let t : n ≡ 512 = s.is ∙ ap (λ (m : ℕ). 2 ^ m) e in
        absurd (omega arith)

module _ (R h w : ℕ) (sides : T (is_sides h w)) (deep : T (is_depth R h w)) (narrow : w + w ≤ 512) where
  tall : Side h
  tall = ((size_laws h w).sides.0 sides).0

  wide : Side w
  wide = ((size_laws h w).sides.0 sides).1

  twice_sides : T (is_sides h (w + w))
  twice_sides = (size_laws h (w + w)).sides.1 (tall, (twice_side wide narrow).0)

  twice_deep : T (is_depth R h (w + w))
  twice_deep =
      let d = ((size_laws h w).depths tall wide R).0 deep in
      ((size_laws h (w + w)).depths tall (twice_side wide narrow).0 R).1 (d.0, d.1, omega (arith, d.2, (twice_side wide narrow).1))

pub passes : (R h w : ℕ) (p q : List ℤ) (l r : List ℕ) → Passes (strip_of h w R p l) → Passes (strip_of h w R q r) → w + w ≤ 512
    → Passes (strip_of h (w + w) R (joined_of R h w p q) (joined_covers R h w l r))
passes R h w p q l r a b g = record {
  sides = twice_sides R h w a.sides a.depth g;
  depth = twice_deep R h w a.sides a.depth g;
  frame = (slice_length h (w + w) (joined R h w (image_of h p) (image_of h q)), long);
  numbers = every_number (joined_covers R h w l r) (λ k i. joined_numbers R h w f l r (of_test (all_blocks R h w) l a.frame.1 a.numbers) (of_test (all_blocks R h w) r b.frame.1 b.numbers) k (omega (arith, long)));
  ranges = joined_range R h w f p q a.ranges b.ranges;
}
  where
    f : Fits R h w
    f = (size_laws h w).whole R a.sides a.depth

    long : length (joined_covers R h w l r) ≡ all_blocks R h (w + w)
    long = joined_length R h w f l r (omega (arith, a.frame.1)) (omega (arith, b.frame.1))
