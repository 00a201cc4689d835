-- The header of the cutter's input, part by part. Assumes nothing.
use mathlib.Core.Path.{◌≡◌, refl, sym, ap, ◌∙◌}
use mathlib.Core.List.{List, [], ◌∷◌}
use Prim.Native.Nat.{ℕ, zero, suc}
use lib.IntN.{ℤ, pos, negsuc}
use lib.ListN.{length, drop}
use Rattle.integers.specs.Lists.{tabulate}
use Rattle.text.specs.Bytes.{bytes}
use Rattle.text.specs.Text.{bad, got, rows, times, skip, sections, FitsValue, FitsRow}
use Rattle.text.specs.Lines.{four, cell_at, four_of, four_at}
use Rattle.text.specs.declared.lines.Four.{Four}
use Rattle.std.specs.Prelude.{Some, None}
use Rattle.text.proofs.Many.{SkipRead, four_at_law, four_none}
use Rattle.text.proofs.Rows.{row_sound}
use Rattle.cutter_text.specs.Forms.{plains, header_form}
use Rattle.cutter_text.specs.Header.{Headed}

abbrev pub N : List ℕ
N = bytes "height width levels quota\n"

-- n values without a minus
plain_cells : (n : ℕ) (r : List ℤ) → FitsRow (plains n) r → r ≡ tabulate n (λ i. pos (cell_at r i))
unfolding FitsRow FitsValue
plain_cells zero [] f = refl
plain_cells zero (v ∷ vs) f = absurd f
plain_cells (suc n) [] f = absurd f
plain_cells (suc n) (pos v ∷ vs) f = ap (λ l. pos v ∷ l) (plain_cells n vs f.1)
plain_cells (suc n) (negsuc v ∷ vs) f = absurd f.0

module _ (t : List ℕ) where
  pub no_names : skip N (drop 0 t) ≡ bad → sections header_form t ≡ bad
  unfolding sections
  no_names e = rw e

  module _ (p : ℕ) (h : SkipRead N t 0 p) where
    pub no_line : four_at t p ≡ None → sections header_form t ≡ bad
    unfolding sections rows times
    no_line e = rw (h.read, four_none t p e)

    pub headed : (f : Four) → four_at t p ≡ Some f → Headed t (record { height = f.first; width = f.second; levels = f.third; quota = f.fourth; next = f.next })
    unfolding sections rows times
    headed f e =
        let l = four_at_law t p f e in
        let v = l.cells in
        let i = the (ap (four_of (length t)) (sym l.read) ∙ e) in
        let k : v ≡ pos f.first ∷ pos f.second ∷ pos f.third ∷ pos f.fourth ∷ [] =
        plain_cells 4 v (row_sound four (drop p t) v (drop f.next t) l.read).fits ∙ ap (λ (g : Four). pos g.first ∷ pos g.second ∷ pos g.third ∷ pos g.fourth ∷ []) i
        in
        record { read = rw (h.read, l.read) (ap (λ r. got ((r ∷ []) ∷ []) (drop f.next t)) k); within = l.within }
      where
        the : {x y : Four} → Some x ≡ Some y → x ≡ y
        the q = cc
