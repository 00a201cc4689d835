-- What the parts of the step leave in a slice: the gradient of numerators, and the plane that is restored. Assumes nothing.
use Rattle.std.specs.Prelude.{◌≡◌, Bool, not, cond, ◌||◌, List, ℕ, ◌+◌, ◌<◌, ℤ, pos, ◌-ℤ◌, ◌*ℤ◌, get_or}
use Rattle.integers.specs.Zero.{is_zero}
use Rattle.pyramid.specs.Slices.{image_of, slice_of}
use Rattle.variation.specs.Smooth.{gradient, masked}

-- The gradient of the picture whose numerators a slice holds.
abbrev pub gradient_of : ℕ → ℕ → List ℤ → List ℤ
gradient_of h w Y = slice_of h w (gradient h w (image_of h Y))

-- One entry of the plane that is restored: 16 z, less p times d where z is neither of band 0 nor kept.
abbrev pub mixed_entry : ℕ → Bool → ℤ → ℤ → ℤ
mixed_entry p low z d = pos 16 *ℤ z -ℤ pos p *ℤ cond (low || not (is_zero z)) (pos 0) d

-- The `count` entries of a list from `first` on are these, of the plane P and the gradient decomposed D.
abbrev pub Mixes : ℕ → Bool → List ℤ → List ℤ → ℕ → ℕ → List ℤ → Type 0
Mixes p low P D first count new = (i : ℕ) → i < count → get_or new (first + i) (pos 0) ≡ mixed_entry p low (get_or P (first + i) (pos 0)) (get_or D (first + i) (pos 0))

-- All of them: P is the kept plane, D the gradient decomposed.
abbrev pub mixed_of : ℕ → ℕ → ℕ → ℕ → List ℤ → List ℤ → List ℤ
mixed_of R h w p P D = slice_of h w (λ y x. pos 16 *ℤ image_of h P y x -ℤ pos p *ℤ masked R h w (image_of h P) (image_of h D) y x)
