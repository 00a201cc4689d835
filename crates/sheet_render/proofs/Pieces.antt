-- The bytes of the lines of blocks and of entries, cell by cell of a walk. Assumes nothing.
use mathlib.Core.Path.{◌≡◌, refl, sym, ap, ◌∙◌}
use mathlib.Core.Bool.{Bool, true, false, cond}
use mathlib.Core.List.{List, [], ◌∷◌, ◌++◌}
use Prim.Native.Nat.{ℕ, suc, ◌+◌, ◌<◌, ◌≤◌}
use native.Mathlib.Numerals.{add-one}
use native.Mathlib.Omega.{arith}
use lib.IntN.{ℤ}
use lib.ListN.{length, get_or, drop, drop_of_length-le, length-append}
use lib.Seq.{drop-cons}
use Rattle.integers.specs.Lists.{every}
use Rattle.text.specs.Text.{rows_text, digits}
use Rattle.text.specs.Write.{cell_text, four_text, five_text}
use Rattle.text.proofs.Stamp.{four_row, five_row}
use Rattle.pyramid.specs.Plane.{Image}
use Rattle.pyramid.specs.Places.{Place, BlockPlace, at}
use Rattle.pyramid.specs.Ranges.{fits_range}
use Rattle.places.specs.declared.walk.Walk.{Walk}
use Rattle.integers.specs.Zero.{is_zero}
use Rattle.sheet_text.specs.Rows.{entry_row, with_row, block_rows, entry_rows}
use Rattle.sheet_text.specs.Sheet.{blocks_text, entries_text, head_part, block_part, entry_part, sheet_text}
use Rattle.sheet_text.proofs.Laws.{sheet_parts}
use Rattle.places.specs.Walk.{entries_left, blocks_left, entry_of, block_of}
use Rattle.sheet_render.specs.Line.{line_of}
use Rattle.integers.proofs.Tests.{both_true}

-- what is left of the lines of blocks, from the covering i on
abbrev pub blocks_from : Walk → List ℕ → ℕ → List ℕ
blocks_from k cs i = rows_text (block_rows (blocks_left k) (drop i cs))

pub blocks_next : (k : Walk) (u : List BlockPlace) (cs : List ℕ) (i : ℕ) → i < length cs → blocks_left k ≡ block_of k ∷ u
    → blocks_from k cs i ≡ four_text k.level k.row k.col (get_or cs i 0) 10 ++ rows_text (block_rows u (drop (i + 1) cs))
unfolding rows_text block_rows
blocks_next k u cs i l e =
    (λ t. rows_text (block_rows (e t) (drop-cons cs i 0 l t)))
    ∙ ap (λ z. z ++ rows_text (block_rows u (drop (suc i) cs))) (four_row k.level k.row k.col (get_or cs i 0))
    ∙ ap (λ (n : ℕ). four_text k.level k.row k.col (get_or cs i 0) 10 ++ rows_text (block_rows u (drop n cs))) (sym (add-one i))

no_rows : (bs : List BlockPlace) → rows_text (block_rows bs []) ≡ []
unfolding rows_text block_rows
no_rows [] = refl
no_rows (b ∷ bs) = refl

pub blocks_end : (k : Walk) (cs : List ℕ) (i : ℕ) → length cs ≤ i → blocks_from k cs i ≡ []
blocks_end k cs i l = ap (λ z. rows_text (block_rows (blocks_left k) z)) (drop_of_length-le cs l) ∙ no_rows (blocks_left k)

-- what is left of the lines of entries
abbrev pub entries_from : Image → Walk → List ℕ
entries_from P k = rows_text (entry_rows P (entries_left k))

line_first : (p : Place) (v : ℤ) (rest : List (List ℤ)) → rows_text (entry_row p v ∷ rest) ≡ five_text p.level p.band p.row p.col v ++ rows_text rest
unfolding rows_text
line_first p v rest = ap (λ x. x ++ rows_text rest) (five_row p.level p.band p.row p.col v)

pub entries_next : (P : Image) (k : Walk) (t : List Place) (v : ℤ) → entries_left k ≡ entry_of k ∷ t → v ≡ at P (entry_of k) → entries_from P k ≡ line_of k v ++ rows_text (entry_rows P t)
unfolding entry_rows
entries_next P k t v e g = ap (λ l. rows_text (entry_rows P l)) e ∙ ap (λ x. rows_text (with_row (entry_of k) x (entry_rows P t))) (sym g) ∙ go (is_zero v)
  where
    rest : List (List ℤ)
    rest = entry_rows P t

    go : (b : Bool) → rows_text (cond b rest (entry_row (entry_of k) v ∷ rest)) ≡ cond b [] (five_text k.level k.band k.row k.col v) ++ rows_text rest
    go true = refl
    go false = line_first (entry_of k) v rest

pub entries_end : (P : Image) (k : Walk) → entries_left k ≡ [] → entries_from P k ≡ []
unfolding rows_text entry_rows
entries_end P k e = ap (λ l. rows_text (entry_rows P l)) e

-- ranges along what is left
abbrev pub all_fit : ℕ → Image → Walk → Bool
all_fit R P k = every (λ p. fits_range R p (at P p)) (entries_left k)

pub fit_first : (R : ℕ) (P : Image) (k : Walk) (t : List Place) → entries_left k ≡ entry_of k ∷ t → all_fit R P k ≡ true → fits_range R (entry_of k) (at P (entry_of k)) ≡ true
fit_first R P k t e h = (both_true (fits_range R (entry_of k) (at P (entry_of k))) (every (λ p. fits_range R p (at P p)) t) (sym (ap (every (λ p. fits_range R p (at P p))) e) ∙ h)).0

pub fit_rest : (R : ℕ) (P : Image) (k k' : Walk) → entries_left k ≡ entry_of k ∷ entries_left k' → all_fit R P k ≡ true → all_fit R P k' ≡ true
fit_rest R P k k' e h = (both_true (fits_range R (entry_of k) (at P (entry_of k))) (all_fit R P k') (sym (ap (every (λ p. fits_range R p (at P p))) e) ∙ h)).1

-- a line with its value, and none without
pub line_none : (k : Walk) (v : ℤ) → is_zero v ≡ true → line_of k v ≡ []
line_none k v z = ap (λ (b : Bool). cond b [] (five_text k.level k.band k.row k.col v)) z

pub line_some : (k : Walk) (v : ℤ) → is_zero v ≡ false → line_of k v ≡ five_text k.level k.band k.row k.col v
line_some k v z = ap (λ (b : Bool). cond b [] (five_text k.level k.band k.row k.col v)) z

-- ---- the whole text

pub sheet_length : (h w R : ℕ) (P : List ℤ) (cs : List ℕ) → length (sheet_text h w R P cs)
    ≡ 68 + (length (digits h) + length (digits w) + length (digits R) + length (blocks_text R h w cs) + length (entries_text R h w P))
sheet_length h w R P cs =
    ap length (sheet_parts h w R P cs)
    ∙ omega (
      arith,
      length-append (head_part h w R) (block_part R h w cs ++ entry_part R h w P),
      length-append (block_part R h w cs) (entry_part R h w P),
      length-append (cell_text h 32) (cell_text w 32 ++ cell_text R 10),
      length-append (cell_text w 32) (cell_text R 10),
      length-append (digits h) (32 ∷ []),
      length-append (digits w) (32 ∷ []),
      length-append (digits R) (10 ∷ []),
    )
