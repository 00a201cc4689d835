-- A sheet's text, part by part. Assumes nothing.
use mathlib.Core.Path.{◌≡◌, refl, sym, ap, ◌∙◌}
use mathlib.Core.Bool.{Bool, true, false}
use mathlib.Core.List.{List, [], ◌∷◌}
use mathlib.Core.Logic.{◌⊎◌, inl, inr}
use Rattle.text.proofs.Read.{below}
use Prim.Native.Nat.{ℕ, suc, ◌<◌, ◌≤◌}
use native.Mathlib.Omega.{arith}
use borrow.Author.Tests.{eq-eqb, ne_eqb}
use lib.Dec.{eqb}
use lib.IntN.{ℤ}
use lib.ListN.{length, drop, length-drop, drop_of_length-le, get_or}
use Rattle.text.specs.Bytes.{bytes}
use Rattle.text.specs.Text.{bad, got, row, rows, times, skip, sections, whole, parse}
use Rattle.text.specs.Lines.{three, four, five, RowRead}
use Rattle.text.proofs.Many.{SkipRead, RowsRead, ThreeLine, lines_read}
use Rattle.sheet_text.specs.Forms.{sheet_form}
use Rattle.text.specs.declared.lines.Three.{Three}
use Rattle.sheet_text.specs.Sheet.{is_some, list_in, rows_of, height_in, width_in, levels_in}
use Rattle.sheet_scan.specs.Parts.{Tiled, Surveyed, LaidOut}

abbrev pub N1 : List ℕ
N1 = bytes "height width levels\n"

abbrev pub N2 : List ℕ
N2 = bytes "level row col cover\n"

abbrev pub N3 : List ℕ
N3 = bytes "level band row col value\n"

no : (s : List ℕ) → sections sheet_form s ≡ bad → false ≡ is_some (parse sheet_form s)
unfolding whole
no s e = rw e

end : (a : List (List (List ℤ))) (t : List ℕ) → is_some (whole (got a t)) ≡ eqb (length t) 0
unfolding whole
end a [] = refl
end a (b ∷ bs) = sym (ne_eqb (suc (length bs)) 0 (omega arith))

module _ (s : List ℕ) where
  left : (w : ℕ) → w ≤ length s → eqb w (length s) ≡ eqb (length (drop w s)) 0
  left w h = go (below w (length s))
    where
      go : (w < length s) ⊎ (length s ≤ w) → eqb w (length s) ≡ eqb (length (drop w s)) 0
      go (inl l) = ne_eqb w (length s) (omega arith) ∙ sym (ne_eqb (length (drop w s)) 0 (omega (arith, length-drop w s)))
      go (inr l) = eq-eqb w (length s) (omega arith) ∙ sym (eq-eqb (length (drop w s)) 0 (omega (arith, length-drop w s)))

  pub no_1 : skip N1 (drop 0 s) ≡ bad → false ≡ is_some (parse sheet_form s)
  unfolding sections
  no_1 e = no s (rw e)

  module _ (p : ℕ) (h₁ : SkipRead N1 s 0 p) where
    pub no-2 : row three (drop p s) ≡ bad → false ≡ is_some (parse sheet_form s)
    unfolding sections rows times
    no-2 e = no s (rw (h₁.read, e))

    module _ (q : ℕ) (h₂ : RowRead three s p q) where
      pub no-3 : skip N2 (drop q s) ≡ bad → false ≡ is_some (parse sheet_form s)
      unfolding sections rows times
      no-3 e = no s (rw (h₁.read, h₂.read, e))

      module _ (t u : ℕ) (h₃ : SkipRead N2 s q t) (h₄ : RowsRead four s t u) where
        pub no-4 : skip N3 (drop u s) ≡ bad → false ≡ is_some (parse sheet_form s)
        unfolding sections rows times
        no-4 e = no s (rw (h₁.read, h₂.read, h₃.read, h₄.read, e))

        pub at_end_law : (v w : ℕ) → SkipRead N3 s u v → RowsRead five s v w → eqb w (length s) ≡ is_some (parse sheet_form s)
        unfolding sections rows times
        at_end_law v w h₅ h₆ =
            rw (h₁.read, h₂.read, h₃.read, h₄.read, h₅.read, h₆.read)
            (left w h₆.within ∙ sym (end _ (drop w s)))

-- the rows of a text whose parts were read to its end
rows_are : (s : List ℕ) (a : List (List (List ℤ))) (w : ℕ) → length s ≤ w → sections sheet_form s ≡ got a (drop w s) → rows_of s ≡ a
unfolding whole rows_of
rows_are s a w l e = ap (λ o. list_in (whole o)) (e ∙ ap (got a) (drop_of_length-le s l))

pub laid : (s : List ℕ) (p t u v w : ℕ) (f : Three) (o m a b : Bool) → SkipRead N1 s 0 p → (x : ThreeLine s p f) → SkipRead N2 s f.next t → RowsRead four s t u → SkipRead N3 s u v → RowsRead five s v w
    → is_some (parse sheet_form s) ≡ true → length s ≤ w → Tiled s t f.first f.second f.third o m → Surveyed s v f.first f.second f.third a b
    → LaidOut s (record { height = f.first; width = f.second; levels = f.third; blocks = t; entries = v; ordered = o; numbered = m; rising = a; fitting = b })
unfolding sections rows times
laid s p t u v w f o m a b h₁ x h₃ h₄ h₅ h₆ k l y z =
    let e = rows_are s ((x.cells ∷ []) ∷ h₄.lines ∷ h₆.lines ∷ []) w l (rw (h₁.read, x.read, h₃.read, h₄.read, h₅.read, h₆.read)) in
    record {
      keeps = k;
      height = ap height_in e ∙ sym x.first;
      width = ap width_in e ∙ sym x.second;
      levels = ap levels_in e ∙ sym x.third;
      blocks = ap (λ r. get_or r 1 []) e ∙ sym (lines_read four s t u h₄);
      entries = ap (λ r. get_or r 2 []) e ∙ sym (lines_read five s v w h₆);
      tiled = y;
      surveyed = z;
    }

-- no test is both
pub clash : false ≡ true → ⊥
clash e = let z : ◌≡◌ {A = ℕ} 0 1 = cc in omega arith
