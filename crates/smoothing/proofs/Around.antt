-- The gradient at a cell, as the machine adds it up: the signs of the cell's entry less those of its four neighbours. Assumes nothing.
use mathlib.Core.Path.{◌≡◌, refl, ap, ◌∙◌}
use mathlib.Core.List.{List, [], ◌∷◌}
use mathlib.Core.Bool.{Bool, true}
use Prim.Native.Nat.{ℕ, ◌+◌, ◌*◌, ◌-◌, ◌<◌, ◌≤◌}
use native.Mathlib.Nat.{add-mul}
use native.Mathlib.Omega.{arith}
use borrow.Author.Tests.{ltb-true}
use lib.Dec.{ltb}
use lib.IntN.{ℤ, pos, nat_abs}
use lib.ListN.{length, get_or}
use mir.Syntax.{w64}
use mir.Val.{SFits, to_z, of_z}
use Rattle.integers.proofs.Index.{index_bound}
use Rattle.integers.proofs.Machine.{raw, rd}
use Rattle.integers.proofs.Ring.{v, k, ◌⊕◌, ◌⊗◌}
use Rattle.pyramid.specs.Slices.{image_of}
use Rattle.variation.specs.Smooth.{against, gradient}
use Rattle.variation.proofs.Sizes.{against_abs}
use Rattle.smoothing.proofs.Cells.{two_fit, three_fit, four_fit, twice_fit, twice_is, slope_is}

module _ (h w : ℕ) (l : List ℤ) (y x : ℕ) where
  -- the sign of the cell's entry less that at place i
  abbrev pub beside : Bool → ℕ → ℤ
  beside inside i = against inside (get_or l (x * h + y) (pos 0)) (get_or l i (pos 0))

  abbrev pub above : ℤ
  above = beside (ltb 0 y) (x * h + y - 1)

  abbrev pub below : ℤ
  below = beside (ltb (y + 1) h) (x * h + y + 1)

  abbrev pub before : ℤ
  before = beside (ltb 0 x) (x * h + y - h)

  abbrev pub behind : ℤ
  behind = beside (ltb (x + 1) w) (x * h + y + h)

  small : (inside : Bool) (i : ℕ) → nat_abs (beside inside i) ≤ 1
  small inside i = against_abs inside (get_or l (x * h + y) (pos 0)) (get_or l i (pos 0))

  small-above : nat_abs above ≤ 1
  small-above = small (ltb 0 y) (x * h + y - 1)

  small-below : nat_abs below ≤ 1
  small-below = small (ltb (y + 1) h) (x * h + y + 1)

  small-before : nat_abs before ≤ 1
  small-before = small (ltb 0 x) (x * h + y - h)

  small-behind : nat_abs behind ≤ 1
  small-behind = small (ltb (x + 1) w) (x * h + y + h)

  -- each is 1 at most, so the machine's sums fit
  module _ {i j : ℕ} (i-is : i ≡ x * h + y - 1) (j-is : j ≡ x * h + y - h) {a b c d : ℤ} (a-is : a ≡ beside (ltb 0 y) i) (b-is : b ≡ below) (c-is : c ≡ beside (ltb 0 x) j) (d-is : d ≡ behind) where
    abbrev four : List ℤ
    four = to_z w64 (of_z w64 a) ∷ to_z w64 (of_z w64 b) ∷ to_z w64 (of_z w64 c) ∷ to_z w64 (of_z w64 d) ∷ []

    pub first_fits : SFits w64 (raw w64 (v 0 ⊕ v 1) four)
    first_fits = two_fit above below before behind (a-is ∙ ap (beside (ltb 0 y)) i-is) b-is (c-is ∙ ap (beside (ltb 0 x)) j-is) d-is small-above small-below small-before small-behind

    pub second_fits : SFits w64 (raw w64 (v 0 ⊕ v 1 ⊕ v 2) four)
    second_fits = three_fit above below before behind (a-is ∙ ap (beside (ltb 0 y)) i-is) b-is (c-is ∙ ap (beside (ltb 0 x)) j-is) d-is small-above small-below small-before small-behind

    pub third_fits : SFits w64 (raw w64 (v 0 ⊕ v 1 ⊕ v 2 ⊕ v 3) four)
    third_fits = four_fit above below before behind (a-is ∙ ap (beside (ltb 0 y)) i-is) b-is (c-is ∙ ap (beside (ltb 0 x)) j-is) d-is small-above small-below small-before small-behind

    pub last_fits : SFits w64 (raw w64 (k (pos 2) ⊗ (v 0 ⊕ v 1 ⊕ v 2 ⊕ v 3)) four)
    last_fits = twice_fit above below before behind (a-is ∙ ap (beside (ltb 0 y)) i-is) b-is (c-is ∙ ap (beside (ltb 0 x)) j-is) d-is small-above small-below small-before small-behind

    pub gradient_is : rd w64 (k (pos 2) ⊗ (v 0 ⊕ v 1 ⊕ v 2 ⊕ v 3)) four ≡ gradient h w (image_of h l) y x
    gradient_is =
        twice_is above below before behind (a-is ∙ ap (beside (ltb 0 y)) i-is) b-is (c-is ∙ ap (beside (ltb 0 x)) j-is) d-is small-above small-below small-before small-behind
        ∙ slope_is h w l y x refl refl refl refl

  -- the cell and the one behind it are in the slice
  pub inside : y < h → x < w → length l ≡ w * h → (x * h + y < length l) × (ltb (x + 1) w ≡ true → x * h + y + h < length l)
  inside row col long = (omega (arith, index_bound x y w h col row, long), λ t. omega (arith, index_bound (x + 1) y w h (ltb-true (x + 1) w t) row, add-mul x 1 h, long))
