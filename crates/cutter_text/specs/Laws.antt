-- What rows of samples mean: the text of a picture is read as that picture. Assumes nothing.
use Rattle.std.specs.Prelude.{◌≡◌, List, [], ◌∷◌, ℕ, ◌+◌, ◌*◌, ◌<◌, ◌≤◌, ℤ, pos, length, get_or}
use Rattle.std.proofs.Math.Option.{some}
use Rattle.integers.specs.Lists.{tabulate}
use Rattle.text.specs.Text.{limit, render, parse}
use Rattle.cutter_text.specs.Forms.{samples_form}
use Rattle.cutter_text.specs.Picture.{picture_in}

-- Document 02, wish 2: "height rows of width values"; document 01: "left to right", of samples "stored down columns". Row y of a picture, and all rows.
abbrev pub picture_row : ℕ → ℕ → List ℕ → ℕ → List ℤ
picture_row h w s y = tabulate w (λ x. pos (get_or s (x * h + y) 0))

abbrev pub picture_rows : ℕ → ℕ → List ℕ → List (List ℤ)
picture_rows h w s = tabulate h (picture_row h w s)

pub record PictureLaws : Type 0 where
  -- under the name `samples` they are read
  pub read : (h w : ℕ) (s : List ℕ) → 0 < w → ((k : ℕ) → k < w * h → get_or s k 0 ≤ limit)
      → parse (samples_form h w) (render (samples_form h w) (picture_rows h w s ∷ [])) ≡ some (picture_rows h w s ∷ [])
  -- and make the picture again
  pub again : (h w : ℕ) (s : List ℕ) → length s ≡ w * h → picture_in h w (picture_rows h w s) ≡ s
