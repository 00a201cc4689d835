-- The text that the cutter reads, as sections: a line of names, its columns, and how many lines. Assumes nothing.
use Rattle.std.specs.Prelude.{List, [], ◌∷◌, ℕ, zero, suc}
use Rattle.text.specs.Bytes.{bytes}
use Rattle.text.specs.Text.{Section, Column, plain, exactly}

-- Document 01: "The cutter reads .. one line"; document 02, wish 2: "The sheet opens with `height width levels`, the cutter's input with
-- `height width levels quota`".
abbrev pub header_form : List Section
header_form = record { names = bytes "height width levels quota\n"; columns = plain ∷ plain ∷ plain ∷ plain ∷ []; count = exactly 1 } ∷ []

-- n columns without a minus
abbrev pub plains : ℕ → List Column
plains zero = []
plains (suc n) = plain ∷ plains n

-- Document 01: "`samples`, then under that one name" the rows; document 02, wish 2: "The cutter reads height rows of width values."
abbrev pub samples_form : ℕ → ℕ → List Section
samples_form h w = record { names = bytes "samples\n"; columns = plains w; count = exactly h } ∷ []
