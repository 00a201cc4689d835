-- The tetrolet sheet of document 01 as sections: a line of names, what its columns may hold, and how many lines. Assumes nothing.
use Rattle.std.specs.Prelude.{List, [], ◌∷◌}
use Rattle.text.specs.Bytes.{bytes}
use Rattle.text.specs.Text.{Section, plain, signed, exactly, any}

-- Document 01: "A tetrolet sheet has `side levels` and one line; `level row col cover` and a line per block in covering order; `level band row col
-- value` and a line for each plane entry not zero, in plane order." Document 02, wish 2: "The sheet opens with `height width levels`". A minus may stand
-- only in `value`.
abbrev pub sheet_form : List Section
sheet_form =
    record { names = bytes "height width levels\n"; columns = plain ∷ plain ∷ plain ∷ []; count = exactly 1 }
    ∷ record { names = bytes "level row col cover\n"; columns = plain ∷ plain ∷ plain ∷ plain ∷ []; count = any }
    ∷ record { names = bytes "level band row col value\n"; columns = plain ∷ plain ∷ plain ∷ plain ∷ signed ∷ []; count = any }
    ∷ []
