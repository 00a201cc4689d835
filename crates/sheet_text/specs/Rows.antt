-- The lines of a tetrolet sheet: what is written of coverings and of a plane of height h and width w, and what lines say. Assumes nothing.
use Rattle.std.specs.Prelude.{Bool, true, false, cond, ◌&&◌, List, [], ◌∷◌, ℕ, ◌+◌, ◌*◌, eqb, ℤ, pos, get_or, set}
use Rattle.std.proofs.Math.Option.{Option, none, some}
use Rattle.integers.specs.Zero.{is_zero}
use Rattle.text.specs.Lines.{cell_at}
use Rattle.pyramid.specs.Plane.{Image}
use Rattle.pyramid.specs.Places.{Place, BlockPlace, at}
use Rattle.places.specs.Walk.{index_in}

-- ---- writing

-- Document 01: "`level row col cover` and a line per block in covering order".
abbrev pub block_row : BlockPlace → ℕ → List ℤ
block_row b c = pos b.level ∷ pos b.row ∷ pos b.col ∷ pos c ∷ []

unfoldable pub block_rows : List BlockPlace → List ℕ → List (List ℤ)
block_rows [] cs = []
block_rows (b ∷ bs) [] = []
block_rows (b ∷ bs) (c ∷ cs) = block_row b c ∷ block_rows bs cs

-- Document 01: "`level band row col value` and a line for each plane entry not zero, in plane order".
abbrev pub entry_row : Place → ℤ → List ℤ
entry_row p v = pos p.level ∷ pos p.band ∷ pos p.row ∷ pos p.col ∷ v ∷ []

-- a line, where its value is not zero, before others
abbrev pub with_row : Place → ℤ → List (List ℤ) → List (List ℤ)
with_row p v rs = cond (is_zero v) rs (entry_row p v ∷ rs)

unfoldable pub entry_rows : Image → List Place → List (List ℤ)
entry_rows P [] = []
entry_rows P (p ∷ ps) = with_row p (at P p) (entry_rows P ps)

-- ---- reading

abbrev pub is_block : BlockPlace → List ℤ → Bool
is_block b r = eqb (cell_at r 0) b.level && (eqb (cell_at r 1) b.row && eqb (cell_at r 2) b.col)

abbrev pub is_place : Place → List ℤ → Bool
is_place p r = eqb (cell_at r 0) p.level && (eqb (cell_at r 1) p.band && (eqb (cell_at r 2) p.row && eqb (cell_at r 3) p.col))

-- one more value in front, where there are any
abbrev pub before : {A : Type 0} → A → Option (List A) → Option (List A)
before a none = none
before a (some l) = some (a ∷ l)

-- The coverings of lines that are exactly the blocks in covering order, and none of others (refusal 11).
unfoldable pub covers_of : List BlockPlace → List (List ℤ) → Option (List ℕ)
covers_of [] [] = some []
covers_of [] (r ∷ rs) = none
covers_of (b ∷ bs) [] = none
covers_of (b ∷ bs) (r ∷ rs) = cond (is_block b r) (before (cell_at r 3) (covers_of bs rs)) none

-- The values along the places in plane order, and none where the lines are not "at places of the plane, strictly rising in plane order" with values
-- that are not 0 (refusal 11). Each place has the next line, or has none and is 0; no line is left over.
unfoldable pub values_of : List Place → List (List ℤ) → Option (List ℤ)
values_of [] [] = some []
values_of [] (r ∷ rs) = none
values_of (p ∷ ps) [] = before (pos 0) (values_of ps [])
values_of (p ∷ ps) (r ∷ rs) =
    cond (is_place p r)
    (cond (is_zero (get_or r 4 (pos 0))) none (before (get_or r 4 (pos 0)) (values_of ps rs)))
    (before (pos 0) (values_of ps (r ∷ rs)))

-- A plane of height h with given values at its places.
unfoldable pub spread : ℕ → List Place → List ℤ → List ℤ → List ℤ
spread h [] vs plane = plane
spread h (p ∷ ps) [] plane = plane
spread h (p ∷ ps) (v ∷ vs) plane = spread h ps vs (set plane (index_in h p) v)
