-- Where the sixteen cells of a block, and its sixteen results, stand in a slice stored down columns: what the loops of one block read and leave.
-- Assumes nothing.
use Rattle.std.specs.Prelude.{List, ℕ, ◌+◌, ◌*◌, ◌/◌, ◌%◌, ℤ, pos, get_or}
use Rattle.integers.specs.Lists.{tabulate}
use Rattle.pyramid.specs.Plane.{top, left}

-- The place of cell k of the block whose first cell is at `start`, in a slice of height h.
abbrev pub cell_place : ℕ → ℕ → ℕ → ℕ
cell_place h start k = start + k / 4 * h + k % 4

-- The place of result k = 4 * band + label, where the block's 2 by 2 results of band b begin at the b-th of `starts`.
abbrev pub band_place : ℕ → List ℕ → ℕ → ℕ
band_place h starts k = get_or starts (k / 4) 0 + k % 4 / 2 * h + k % 4 % 2

-- Where the results of the block in block row i, block column j begin, in the four bands of a rectangle of `tall` rows and `wide` columns.
unfoldable pub starts_of : ℕ → ℕ → ℕ → ℕ → ℕ → List ℕ
starts_of h tall wide i j = tabulate 4 (λ b. (left wide b + j * 2) * h + (top tall b + i * 2))

-- The numbers of a slice at sixteen places.
unfoldable pub gathered : (ℕ → ℕ) → List ℤ → List ℤ
gathered g l = tabulate 16 (λ k. get_or l (g k) (pos 0))
