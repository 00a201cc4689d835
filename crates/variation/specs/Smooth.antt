-- Wish 11, "One smoothing step", after section 4 of document 002 with all weights 1. P is the kept plane, Y its numerators, cs the picture's coverings, and
-- p the step. Assumes nothing.
use Rattle.std.specs.Prelude.{Bool, not, cond, ◌&&◌, ◌||◌, List, ℕ, zero, suc, ◌-◌, ltb, ℤ, pos, negsuc, ◌+ℤ◌, ◌-ℤ◌, ◌*ℤ◌}
use Rattle.integers.specs.Zero.{is_zero}
use Rattle.pyramid.specs.Plane.{Image, halved, analyse, numerators, listed}
use Rattle.pyramid.specs.Slices.{image_of, slice_of}

-- "the sign (-1, 0 or 1)".
unfoldable pub sign_of : ℤ → ℤ
sign_of (pos zero) = pos 0
sign_of (pos (suc n)) = pos 1
sign_of (negsuc n) = negsuc 0

-- "of its numerator minus theirs", where the neighbour is inside the picture.
abbrev pub against : Bool → ℤ → ℤ → ℤ
against inside here there = cond inside (sign_of (here -ℤ there)) (pos 0)

-- "For each cell g is twice the sum, over its neighbours above, below, left and right inside the picture, of the sign of its numerator minus theirs"
-- (document 002, 4.5).
unfoldable pub gradient : ℕ → ℕ → Image → Image
gradient h w Y y x =
    pos 2
    *ℤ (against (ltb 0 y) (Y y x) (Y (y - 1) x)
    +ℤ against (ltb (suc y) h) (Y y x) (Y (suc y) x)
    +ℤ against (ltb 0 x) (Y y x) (Y y (x - 1))
    +ℤ against (ltb (suc x) w) (Y y x) (Y y (suc x)))

-- "band 0 and every place where the kept plane is not zero" (document 002, 4.2).
abbrev pub spared : ℕ → ℕ → ℕ → Image → ℕ → ℕ → Bool
spared R h w P y x = (ltb y (halved R h) && ltb x (halved R w)) || not (is_zero (P y x))

-- "set band 0 and every place where the kept plane is not zero to 0".
abbrev pub masked : ℕ → ℕ → ℕ → Image → Image → Image
masked R h w P D y x = cond (spared R h w P y x) (pos 0) (D y x)

-- "Decompose g by the picture's coverings": D.
abbrev pub slopes : ℕ → ℕ → ℕ → (ℕ → ℕ) → Image → Image
slopes R h w cs P = analyse R h w cs (gradient h w (numerators R h w cs P))

-- "and restore it to numerators G. The result is 16 times Y minus p times G."
unfoldable pub smoothed : ℕ → ℕ → ℕ → (ℕ → ℕ) → ℕ → Image → Image
smoothed R h w cs p P =
    let Y = numerators R h w cs P in
    let G = numerators R h w cs (masked R h w P (slopes R h w cs P)) in
    λ y x. pos 16 *ℤ Y y x -ℤ pos p *ℤ G y x

-- The same on slices, stored down columns.
abbrev pub smoothed_of : ℕ → ℕ → ℕ → List ℕ → ℕ → List ℤ → List ℤ
smoothed_of R h w cs p plane = slice_of h w (smoothed R h w (listed cs) p (image_of h plane))
