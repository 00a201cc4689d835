-- The input for a good picture gives its kept sheet. Assumes nothing.
use mathlib.Core.Path.{◌≡◌, refl, ap, ◌∙◌}
use mathlib.Core.List.{List, [], ◌∷◌, ◌++◌}
use mathlib.Core.Option.{some}
use Prim.Native.Nat.{ℕ, zero, suc, ◌+◌, ◌*◌, ◌≤◌}
use native.Mathlib.Omega.{arith}
use native.Mathlib.Nat.{mul-le-mul, one-le-pow}
use lib.IntN.{ℤ, pos}
use lib.ListN.{length, get_or, length-append}
use borrow.Author.Tests.{le-ltb}
use Rattle.integers.specs.Lists.{tabulate}
use Rattle.integers.proofs.Tabulate.{length_tabulate}
use Rattle.integers.proofs.Tests.{is_true}
use Rattle.pyramid.specs.Slices.{plane_of, covers_of}
use Rattle.places.proofs.Sides.{Passed, passed}
use Rattle.quota.specs.Quota.{kept_of, quota_limit}
use Rattle.coder.specs.Claims.{Picture}
use Rattle.coder.proofs.Gates.{small_samples}
use Rattle.text.specs.Bytes.{bytes}
use Rattle.text.specs.Text.{got, plain, exactly, row_text, rows_text, render, sections, parse, FitsCount, FitsRows, FitsRow, FitsValue}
use Rattle.text.proofs.Exact.{skip_text}
use Rattle.text.proofs.Rows.{rows_text_law, stops_letter}
use Rattle.text.proofs.Stamp.{row_most}
use Rattle.sheet_text.specs.Sheet.{sheet_text}
use Rattle.cutter_text.specs.Forms.{header_form, samples_form}
use Rattle.cutter_text.specs.Laws.{picture_row, picture_rows}
use Rattle.cutter_text.proofs.Laws.{laws as pictures}
use Rattle.cutting.specs.Cutter.{picture_text, samples_text, header_text, input_limit, cutter_text}
use Rattle.cutting.specs.Laws.{input_text, CutterLaws}
use Rattle.cutting.proofs.Prints.{size_good}
use Rattle.cutting.proofs.Sheets.{print_kept, print_sheet}

-- ---- how long it is

lines_length : (n w : ℕ) (f : ℕ → List ℤ) → ((y : ℕ) → length (f y) ≡ w) → length (rows_text (tabulate n f)) ≤ n * (12 * w)
unfolding rows_text
lines_length zero w f e = omega arith
lines_length (suc n) w f e =
    let a = ap (λ (m : ℕ). 12 * m) (e 0) in
    let b : suc n * (12 * w) ≡ 12 * w + n * (12 * w) = omega arith in
    omega (arith, length-append (row_text (f 0)) (rows_text (tabulate n (λ y. f (suc y)))), row_most (f 0), lines_length n w (λ y. f (suc y)) (λ y. e (suc y)))

module _ (h w R K : ℕ) (s : List ℕ) where
  abbrev head : List (List ℤ)
  head = (pos h ∷ pos w ∷ pos R ∷ pos K ∷ []) ∷ []

  abbrev rest : List ℕ
  rest = render (samples_form h w) (picture_rows h w s ∷ [])

  abbrev names : List ℕ
  names = bytes "height width levels quota\n"

  module _ (p : Picture h w R s) (a : h ≤ 32) (b : w ≤ 32) (k : K ≤ quota_limit h w R) where
    q : Passed h w R
    q = passed h w R (is_true _ p.issides) (is_true _ p.isdepth)

    area : w * h ≤ 1024
    area = mul-le-mul b a

    -- at most 26 + 48 bytes of the header, and 8 + 12 for each sample
    short : length (input_text h w R K s) ≤ input_limit
    unfolding render rows_text
    short =
        let e : h * (12 * w) ≡ 12 * (w * h) = omega arith in
        omega (
          arith,
          length-append names (rows_text head ++ rest),
          length-append (rows_text head) rest,
          length-append (row_text (pos h ∷ pos w ∷ pos R ∷ pos K ∷ [])) [],
          row_most (pos h ∷ pos w ∷ pos R ∷ pos K ∷ []),
          length-append (bytes "samples\n") (rows_text (picture_rows h w s) ++ []),
          length-append (rows_text (picture_rows h w s)) [],
          lines_length h w (picture_row h w s) (λ y. length_tabulate w (λ x. pos (get_or s (x * h + y) 0))),
          area,
        )

    -- the header is found, with the bytes after it
    header-found : sections header_form (input_text h w R K s) ≡ got (head ∷ []) rest
    unfolding sections render FitsCount FitsRows FitsRow FitsValue
    header-found =
        rw (
          skip_text names (rows_text head ++ rest),
          rows_text_law (exactly 1) (plain ∷ plain ∷ plain ∷ plain ∷ []) head rest (omega arith) refl ((omega arith, (omega arith, (omega (arith, q.few), (omega (arith, area), tt)))), tt) (stops_letter 115 _ (omega arith)),
        )

    rows-found : parse (samples_form h w) rest ≡ some (picture_rows h w s ∷ [])
    rows-found = pictures.read h w s (omega (arith, q.sizes.wide.is, one-le-pow q.sizes.wide.log 2 (omega arith))) (λ j l. omega (arith, small_samples s (is_true _ p.small) p.long j l))

    sheet-printed : cutter_text (input_text h w R K s) ≡ sheet_text h w R (kept_of R h w K (plane_of R h w s)) (covers_of R h w s)
    unfolding cutter_text header_text samples_text
    sheet-printed =
        rw (le-ltb input_limit (length (input_text h w R K s)) short, header-found)
        (size_good h w R K rest q.sided (rw (le-ltb 32 h a, le-ltb 32 w b)) q.deep
        ∙ ap (samples_text h w R K) rows-found
        ∙ ap (picture_text h w R K) (pictures.again h w s p.long)
        ∙ print_kept h w R K s (is_true _ p.small)
        ∙ print_sheet h w R K (plane_of R h w s) (covers_of R h w s) (le-ltb (quota_limit h w R) K k))

pub laws : CutterLaws
laws = record { cuts = sheet-printed }
