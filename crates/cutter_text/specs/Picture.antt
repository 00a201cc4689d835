-- The picture that rows of values make. Assumes nothing.
use Rattle.std.specs.Prelude.{List, [], ℕ, ◌*◌, ◌/◌, ◌%◌, ℤ, get_or}
use Rattle.integers.specs.Lists.{tabulate}
use Rattle.text.specs.Lines.{cell_at}

-- Document 01: rows of "values left to right"; samples are "stored down columns", so in a picture of height h the one of row y, column x is at x * h + y.
abbrev pub sample_at : ℕ → List (List ℤ) → ℕ → ℕ
sample_at h rows k = cell_at (get_or rows (k % h) []) (k / h)

unfoldable pub picture_in : ℕ → ℕ → List (List ℤ) → List ℕ
picture_in h w rows = tabulate (w * h) (sample_at h rows)
