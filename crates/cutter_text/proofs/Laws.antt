-- The text of a picture is read as that picture. Assumes nothing.
use mathlib.Core.Path.{◌≡◌, refl, sym, ap, ◌∙◌}
use mathlib.Core.Bool.{true}
use mathlib.Core.List.{List, [], ◌∷◌}
use Prim.Native.Nat.{ℕ, zero, suc, ◌+◌, ◌*◌, ◌/◌, ◌%◌, ◌<◌, ◌≤◌}
use native.Mathlib.Omega.{arith}
use borrow.Author.Tests.{le-leb}
use native.Mathlib.Nat.{div-add-mod'}
use lib.IntN.{ℤ, pos, nat_abs}
use lib.ListN.{length, get_or}
use lib.Seq.{ext_get_or}
use Rattle.integers.specs.Lists.{tabulate}
use Rattle.integers.proofs.Index.{index_bound, index_place}
use Rattle.integers.proofs.Tabulate.{length_tabulate, get_d_tabulate}
use Rattle.text.specs.Text.{limit, Fits, FitsCount, FitsRows, FitsRow, FitsValue, are_sections, is_section}
use Rattle.text.specs.Lines.{cell_at}
use Rattle.text.proofs.Exact.{laws as texts}
use Rattle.cutter_text.specs.Forms.{plains, samples_form}
use Rattle.cutter_text.specs.Laws.{picture_row, picture_rows, PictureLaws}
use Rattle.cutter_text.specs.Picture.{sample_at, picture_in}
use Rattle.cutter_text.proofs.Turned.{length_picture, picture_at}

-- a row, and all rows, of values that are small enough
row_fits : (w : ℕ) (g : ℕ → ℕ) → ((x : ℕ) → x < w → g x ≤ limit) → FitsRow (plains w) (tabulate w (λ x. pos (g x)))
unfolding FitsRow FitsValue
row_fits zero g l = tt
row_fits (suc w) g l = (l 0 (omega arith), row_fits w (λ x. g (suc x)) (λ x k. l (suc x) (omega arith)))

rows_fit : (w n : ℕ) (g : ℕ → List ℤ) → ((y : ℕ) → y < n → FitsRow (plains w) (g y)) → FitsRows (plains w) (tabulate n g)
unfolding FitsRows
rows_fit w zero g f = tt
rows_fit w (suc n) g f = (f 0 (omega arith), rows_fit w n (λ y. g (suc y)) (λ y k. f (suc y) (omega arith)))

form_good : (h w : ℕ) → 0 < w → are_sections (samples_form h w) ≡ true
unfolding are_sections is_section
form_good h zero l = absurd (omega arith)
form_good h (suc w) l = rw (le-leb 1 (suc (length (plains w))) (omega arith))

picture_fits : (h w : ℕ) (s : List ℕ) → ((k : ℕ) → k < w * h → get_or s k 0 ≤ limit) → Fits (samples_form h w) (picture_rows h w s ∷ [])
unfolding Fits FitsCount
picture_fits h w s l = (
  length_tabulate h (picture_row h w s),
  rows_fit w h (picture_row h w s)
      (λ y k. row_fits w (λ x. get_or s (x * h + y) 0) (λ x m. l (x * h + y) (index_bound x y w h m k))),
  tt,
)

-- one sample, in its row and its column
sample_again : (h w : ℕ) (s : List ℕ) (k : ℕ) → k < w * h → sample_at h (picture_rows h w s) k ≡ get_or s k 0
sample_again h w s k l =
    let z = index_place h w k l in
    ap (λ r. cell_at r (k / h)) (get_d_tabulate h (picture_row h w s) [] (k % h) z.0)
    ∙ ap nat_abs (get_d_tabulate w (λ x. pos (get_or s (x * h + k % h) 0)) (pos 0) (k / h) z.1)
    ∙ ap (λ (j : ℕ). get_or s j 0) (div-add-mod' k h)

picture_again : (h w : ℕ) (s : List ℕ) → length s ≡ w * h → picture_in h w (picture_rows h w s) ≡ s
picture_again h w s e =
    ext_get_or 0 (picture_in h w (picture_rows h w s)) s (length_picture h w (picture_rows h w s) ∙ sym e)
    (λ k l. let g : k < w * h = omega (arith, length_picture h w (picture_rows h w s)) in picture_at h w (picture_rows h w s) k g ∙ sample_again h w s k g)

pub laws : PictureLaws
laws = record {
  read = λ h w s p l. (texts.exact (samples_form h w) _ _ (form_good h w p)).1 (refl, picture_fits h w s l);
  again = picture_again;
}
