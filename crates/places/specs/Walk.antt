-- A walk along the cells of bands, level by level, band by band, down columns: the entries of a plane in plane order, or the blocks in covering order.
-- `left_in f w` is what a walk has before it, its present cell first, where f makes an entry or a block of a cell. Assumes nothing.
use Rattle.std.specs.Prelude.{◌≡◌, List, [], ◌∷◌, ◌++◌, ℕ, zero, suc, ◌+◌, ◌*◌, ◌-◌, ◌/◌, ◌%◌, ◌^◌, ◌<◌, ◌≤◌, drop}
use Rattle.integers.specs.Lists.{tabulate}
use Rattle.pyramid.specs.Places.{Place, BlockPlace}
use Rattle.places.specs.declared.walk.Walk.{Walk}

-- An entry of the plane and a block, from the height and width of a band, the level, the band, the row and the column.
abbrev pub top_of : ℕ → ℕ → ℕ
top_of h zero = 0
top_of h (suc zero) = 0
top_of h (suc (suc b)) = h

abbrev pub left_of : ℕ → ℕ → ℕ
left_of w zero = 0
left_of w (suc zero) = w
left_of w (suc (suc zero)) = 0
left_of w (suc (suc (suc b))) = w

abbrev pub entry_at : ℕ → ℕ → ℕ → ℕ → ℕ → ℕ → Place
entry_at h w r b y x = record { level = r; band = b; row = y; col = x; down = top_of h b + y; across = left_of w b + x }

abbrev pub block_at : ℕ → ℕ → ℕ → ℕ → ℕ → ℕ → BlockPlace
block_at h w r b y x = record { level = r; row = y; col = x }

module _ {A : Type 0} (f : ℕ → ℕ → ℕ → ℕ → ℕ → ℕ → A) where
  -- the cells of a band in column order
  abbrev pub band_cells : ℕ → ℕ → ℕ → ℕ → List A
  band_cells h w r b = tabulate (w * h) (λ k. f h w r b (k % h) (k / h))

  -- n bands from b on, before t
  unfoldable pub bands_from : ℕ → ℕ → ℕ → ℕ → ℕ → List A → List A
  bands_from h w r zero b t = t
  bands_from h w r (suc n) b t = band_cells h w r b ++ bands_from h w r n (suc b) t

  -- the first band of a level with R levels behind it: `low` at the last
  abbrev pub first_band : ℕ → ℕ → ℕ → ℕ
  first_band low first zero = low
  first_band low first (suc R) = first

  -- R levels behind level d, whose bands are h by w
  unfoldable pub levels_from : ℕ → ℕ → ℕ → ℕ → ℕ → ℕ → List A
  levels_from low first d zero h w = []
  levels_from low first d (suc R) h w =
      bands_from h w (suc d) (4 - first_band low first R) (first_band low first R) (levels_from low first (suc d) R (h / 2) (w / 2))

  unfoldable pub left_behind : ℕ → Walk → List A
  left_behind zero k = []
  left_behind (suc R) k =
      drop (k.col * k.height + k.row) (band_cells k.height k.width k.level k.band)
      ++ bands_from k.height k.width k.level (3 - k.band) (suc k.band) (levels_from k.low k.first k.level R (k.height / 2) (k.width / 2))

  abbrev pub left_in : Walk → List A
  left_in k = left_behind k.left k

abbrev pub entries_left : Walk → List Place
entries_left k = left_in entry_at k

abbrev pub blocks_left : Walk → List BlockPlace
blocks_left k = left_in block_at k

abbrev pub entry_of : Walk → Place
entry_of k = entry_at k.height k.width k.level k.band k.row k.col

abbrev pub block_of : Walk → BlockPlace
block_of k = block_at k.height k.width k.level k.band k.row k.col

-- Where an entry stands in a slice of height h, which is stored down columns.
abbrev pub index_in : ℕ → Place → ℕ
index_in h p = p.across * h + p.down

-- A walk inside a plane of height h and width w.
pub record Inside (h w : ℕ) (k : Walk) : Type 0 where
  pub row : k.row < k.height
  pub col : k.col < k.width
  pub band : k.band ≤ 3
  pub level : 1 ≤ k.level
  pub tall : 2 * k.height ≤ h
  pub wide : 2 * k.width ≤ w
  pub down : h ≤ 512
  pub across : w ≤ 512
  pub levels : k.level + k.left ≤ 10
  pub halves_down : 2 ^ k.left ≤ 2 * k.height
  pub halves_across : 2 ^ k.left ≤ 2 * k.width
  pub low : k.low ≤ 3
  pub first : k.first ≤ 3

-- A step of a walk that is not at its end: the present cell is behind it.
pub record Stepped (h w : ℕ) (k k' : Walk) : Type 0 where
  pub inside : Inside h w k'
  pub entries : entries_left k ≡ entry_of k ∷ entries_left k'
  pub blocks : blocks_left k ≡ block_of k ∷ blocks_left k'
