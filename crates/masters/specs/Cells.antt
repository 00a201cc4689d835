-- The numerators that the code has looked at, cell by cell. Assumes nothing.
use Rattle.std.specs.Prelude.{◌≡◌, List, ℕ, ◌/◌, ◌<◌, T, ℤ}
use Rattle.pyramid.specs.Plane.{halved, listed, numerators}
use Rattle.pyramid.specs.Slices.{image_of}
use Rattle.masters.specs.Whole.{is_whole}

-- The numerator in row y, column x is whole.
abbrev pub WholeCell : ℕ → ℕ → ℕ → List ℕ → List ℤ → ℕ → ℕ → Type 0
WholeCell R h w cs plane y x = T (is_whole R (numerators R h w (listed cs) (image_of h plane) y x))

-- P holds at each cell of the blocks of block column j, in the first h rows; d is the level less one.
abbrev pub AllAlong : ℕ → (ℕ → ℕ → Type 0) → ℕ → ℕ → Type 0
AllAlong d P h j = (y x : ℕ) → y < h → halved d (x / 4) ≡ j → P y x
