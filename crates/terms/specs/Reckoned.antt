-- Choices on terms, reckoned by hand for the block of document 01 with rows 0, 10, 20, 30. There covering 1 costs 240, 2 costs 220, 3 costs 160, 70 costs 40
-- and 117 costs 0. Assumes nothing.
use Rattle.std.specs.Prelude.{List, [], ◌∷◌, ℕ, ◌*◌, ℤ, pos}
use Rattle.coverings.specs.Block.{row}
use Rattle.terms.specs.Terms.{among, within, at_level, pick_terms}

abbrev pub rows_block : ℕ → ℤ
rows_block a = pos (10 * row a)

unfoldable pub choices : List ℕ
choices =
    -- no earlier choice: the lowest number among those near enough, and not the cheapest; the bound is closed
    pick_terms (within 0) [] rows_block ∷
    pick_terms (within 39) [] rows_block ∷
    pick_terms (within 40) [] rows_block ∷
    pick_terms (within 239) [] rows_block ∷
    pick_terms (within 240) [] rows_block ∷
    -- the most frequent among those near enough
    pick_terms (within 240) (70 ∷ 3 ∷ 70 ∷ []) rows_block ∷
    pick_terms (within 39) (70 ∷ 3 ∷ 70 ∷ []) rows_block ∷
    -- a tolerance counts twice at level 1, and eight times at level 3
    pick_terms (at_level 1 (within 19)) [] rows_block ∷
    pick_terms (at_level 1 (within 20)) [] rows_block ∷
    pick_terms (at_level 3 (within 4)) [] rows_block ∷
    pick_terms (at_level 3 (within 5)) [] rows_block ∷
    -- in a list the tolerance counts from the least that is listed
    pick_terms (among 0 (2 ∷ 3 ∷ [])) [] rows_block ∷
    pick_terms (among 59 (2 ∷ 3 ∷ [])) [] rows_block ∷
    pick_terms (among 60 (2 ∷ 3 ∷ [])) [] rows_block ∷
    pick_terms (among 60 (2 ∷ 3 ∷ [])) (70 ∷ 3 ∷ 70 ∷ []) rows_block ∷
    pick_terms (at_level 2 (among 14 (2 ∷ 3 ∷ []))) [] rows_block ∷
    pick_terms (at_level 2 (among 15 (2 ∷ 3 ∷ []))) [] rows_block ∷
    []

abbrev pub reckoned : List ℕ
reckoned = 117 ∷ 117 ∷ 70 ∷ 2 ∷ 1 ∷ 70 ∷ 117 ∷ 117 ∷ 70 ∷ 117 ∷ 70 ∷ 3 ∷ 3 ∷ 2 ∷ 3 ∷ 3 ∷ 2 ∷ []
