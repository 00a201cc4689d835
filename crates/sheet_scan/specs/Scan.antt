-- Lines along a walk, place by place: what the lines say of the next place, and the lines behind it. Assumes nothing.
use Rattle.std.specs.Prelude.{Bool, true, false, cond, ◌&&◌, List, [], ◌∷◌, map, ℕ, ℤ, pos, get_or, set}
use Rattle.text.specs.Lines.{cell_at}
use Rattle.pyramid.specs.Places.{Place}
use Rattle.pyramid.specs.Ranges.{fits_range}
use Rattle.places.specs.Walk.{index_in}
use Rattle.integers.specs.Zero.{is_zero}
use Rattle.sheet_text.specs.Rows.{is_place}

-- the value at a place, whose line is the next one or is not there
abbrev pub value_here : Place → List (List ℤ) → ℤ
value_here p [] = pos 0
value_here p (r ∷ rs) = cond (is_place p r) (get_or r 4 (pos 0)) (pos 0)

abbrev pub lines_past : Place → List (List ℤ) → List (List ℤ)
lines_past p [] = []
lines_past p (r ∷ rs) = cond (is_place p r) rs (r ∷ rs)

-- the place has a line, and its value is 0
abbrev pub zero_here : Place → List (List ℤ) → Bool
zero_here p [] = false
zero_here p (r ∷ rs) = is_place p r && is_zero (get_or r 4 (pos 0))

-- what is stored along places in a slice of height h: the value of each, 0 where it has no line
unfoldable pub stored_along : ℕ → List Place → List (List ℤ) → List ℤ → List ℤ
stored_along h [] rs plane = plane
stored_along h (p ∷ ps) rs plane = stored_along h ps (lines_past p rs) (set plane (index_in h p) (value_here p rs))

-- the values along places are in their ranges
unfoldable pub fit_along : ℕ → List Place → List (List ℤ) → Bool
fit_along R [] rs = true
fit_along R (p ∷ ps) rs = fits_range R p (value_here p rs) && fit_along R ps (lines_past p rs)

-- the coverings of lines of blocks
abbrev pub covers_along : List (List ℤ) → List ℕ
covers_along rs = map (λ r. cell_at r 3) rs
