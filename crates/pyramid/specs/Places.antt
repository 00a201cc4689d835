-- Plane order: the entries of a plane, one list with band 0 or without; and the blocks in covering order. Assumes nothing.
use Rattle.std.specs.Prelude.{Bool, true, false, ◌&&◌, List, [], ◌∷◌, ◌++◌, ℕ, zero, suc, ◌+◌, ◌*◌, ◌/◌, ◌%◌, ℤ}
use Rattle.integers.specs.Lists.{tabulate}
use Rattle.pyramid.specs.Plane.{Image, top, left}

-- An entry of the plane: its level and band, its row and column in the band, and its row and column in the plane.
pub record Place : Type 0 where
  pub level : ℕ
  pub band : ℕ
  pub row : ℕ
  pub col : ℕ
  pub down : ℕ
  pub across : ℕ

abbrev pub place_at : ℕ → ℕ → ℕ → ℕ → ℕ → ℕ → Place
place_at h w r b y x = record { level = r; band = b; row = y; col = x; down = top h b + y; across = left w b + x }

-- No place: what a list gives past its end.
abbrev pub no_place : Place
no_place = record { level = 0; band = 0; row = 0; col = 0; down = 0; across = 0 }

-- The entries of a band in column order, where the level works on h by w.
abbrev pub band_places : ℕ → ℕ → ℕ → ℕ → List Place
band_places h w r b = tabulate ((w / 2) * (h / 2)) (λ k. place_at h w r b (k % (h / 2)) (k / (h / 2)))

-- Band 0 of a level, where it is listed.
abbrev pub low_places : Bool → ℕ → ℕ → ℕ → List Place
low_places true h w r = band_places h w r 0
low_places false h w r = []

-- No level is left after this one.
abbrev pub is_last : ℕ → Bool
is_last zero = true
is_last (suc R) = false

-- Document 01: "Plane order is level, band, column order", and "band 0 stays only at level R". The entries behind the first d levels, with R levels to
-- go on h by w; with band 0 or without.
unfoldable pub places_from : Bool → ℕ → ℕ → ℕ → ℕ → List Place
places_from low d zero h w = []
places_from low d (suc R) h w =
    low_places (low && is_last R) h w (suc d)
    ++ (band_places h w (suc d) 1 ++ (band_places h w (suc d) 2 ++ (band_places h w (suc d) 3 ++ places_from low (suc d) R (h / 2) (w / 2))))

-- All entries of a plane, in plane order.
abbrev pub plane_places : ℕ → ℕ → ℕ → List Place
plane_places R h w = places_from true 0 R h w

-- Document 01: "Tetrolet entries are those of bands 1 to 3". The same list without band 0.
abbrev pub tetrolet_places : ℕ → ℕ → ℕ → List Place
tetrolet_places R h w = places_from false 0 R h w

-- The entry of a plane at a place.
abbrev pub at : Image → Place → ℤ
at P p = P p.down p.across

-- The sum of g over a list of places.
abbrev pub sum_over : List Place → (Place → ℕ) → ℕ
sum_over [] g = 0
sum_over (p ∷ ps) g = g p + sum_over ps g

-- A block: its level, its block row and its block column.
pub record BlockPlace : Type 0 where
  pub level : ℕ
  pub row : ℕ
  pub col : ℕ

abbrev pub block_at : ℕ → ℕ → ℕ → BlockPlace
block_at r i j = record { level = r; row = i; col = j }

-- Document 01: "Coverings are listed by level, blocks in column order."
unfoldable pub blocks_from : ℕ → ℕ → ℕ → ℕ → List BlockPlace
blocks_from d zero h w = []
blocks_from d (suc R) h w =
    tabulate ((w / 4) * (h / 4)) (λ k. block_at (suc d) (k % (h / 4)) (k / (h / 4))) ++ blocks_from (suc d) R (h / 2) (w / 2)

abbrev pub block_places : ℕ → ℕ → ℕ → List BlockPlace
block_places R h w = blocks_from 0 R h w
