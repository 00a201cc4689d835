-- The plane of a picture is in range, also as a slice. Assumes nothing.
use mathlib.Core.Path.{◌≡◌, refl, subst⁻¹}
use mathlib.Core.List.{List}
use Prim.Native.Nat.{ℕ, suc, ◌+◌, ◌*◌, ◌-◌, ◌^◌, ◌<◌, ◌≤◌}
use native.Mathlib.Nat.{lt_of_lt_of_le}
use lib.Dec.{T}
use lib.IntN.{ℤ, pos, nat_abs}
use lib.ListN.{get_or}
use Rattle.integers.proofs.Index.{index_bound}
use Rattle.pyramid.specs.Plane.{Image, Fits, analyse, listed}
use Rattle.pyramid.specs.Places.{tetrolet_places}
use Rattle.pyramid.specs.Ranges.{in_range, InRange}
use Rattle.pyramid.specs.Slices.{image_of, slice_of, picture_of, plane_with}
use Rattle.pyramid.proofs.Places.{none, at_cong}
use Rattle.pyramid.proofs.Ranges.{halved_le, in_range_law}
use Rattle.pyramid.proofs.Slices.{Agree, image_slice}
use Rattle.pyramid.proofs.Whole.{ranged}

-- planes that agree are in range together
pub range_cong : (R h w : ℕ) → Fits R h w → (P Q : Image) → Agree h w Q P → InRange R h w P → InRange R h w Q
range_cong R h w f P Q e r = record {
  low = λ y x k l. subst⁻¹ (λ (z : ℤ). (n : ℕ) × (z ≡ pos n) × (n ≤ 4095 * 4 ^ R)) (e y x (lt_of_lt_of_le k (halved_le R h)) (lt_of_lt_of_le l (halved_le R w))) (r.low y x k l);
  tetrolet = λ k l. let p = get_or (tetrolet_places R h w) k none in subst⁻¹ (λ (z : ℤ). nat_abs z ≤ 2 * 4 ^ (p.level - 1) * 4095) (at_cong R h w f Q P e k l) (r.tetrolet k l);
}

-- a slice of an image in range
pub slice_range : (R h w : ℕ) → Fits (suc R) h w → (P : Image) → InRange (suc R) h w P → T (in_range (suc R) h w (image_of h (slice_of h w P)))
slice_range R h w f P r = (ranged R h w (image_of h (slice_of h w P))).1 (range_cong (suc R) h w f P (image_of h (slice_of h w P)) (image_slice h w P) r)

-- the plane of a picture by any coverings
module _ (R h w : ℕ) (f : Fits (suc R) h w) (cs s : List ℕ) (small : (k : ℕ) → k < w * h → get_or s k 0 ≤ 4095) where
  own : InRange (suc R) h w (analyse (suc R) h w (listed cs) (picture_of h s))
  own = in_range_law (suc R) h w f (listed cs) (picture_of h s) (λ y x k l. (get_or s (x * h + y) 0, refl, small (x * h + y) (index_bound x y w h l k)))

  pub plane_accepted : T (in_range (suc R) h w (image_of h (plane_with (suc R) h w cs s)))
  plane_accepted = slice_range R h w f (analyse (suc R) h w (listed cs) (picture_of h s)) own
