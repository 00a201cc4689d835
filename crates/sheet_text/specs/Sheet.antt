-- The text of a sheet, what a text says, and what the entries write and read refuse. Assumes nothing.
use Rattle.std.specs.Prelude.{Bool, true, false, not, ◌&&◌, List, [], ◌∷◌, ◌++◌, ℕ, ◌*◌, eqb, ltb, ℤ, pos, length, get_or, replicate}
use Rattle.std.proofs.Math.Option.{Option, none, some}
use Rattle.integers.specs.Lists.{every}
use Rattle.refusals.specs.Refusal.{refuse_if}
use Rattle.coverings.specs.Entry.{is_number}
use Rattle.pyramid.specs.Sides.{is_plane, is_coverings}
use Rattle.pyramid.specs.Slices.{image_of}
use Rattle.pyramid.specs.Ranges.{in_range}
use Rattle.pyramid.specs.Places.{plane_places, block_places}
use Rattle.places.specs.Sizes.{size_refusal}
use Rattle.text.specs.Text.{rows_text, render, parse}
use Rattle.text.specs.Bytes.{bytes}
use Rattle.text.specs.Write.{cell_text}
use Rattle.text.specs.Lines.{cell_at}
use Rattle.sheet_text.specs.Forms.{sheet_form}
use Rattle.sheet_text.specs.Rows.{block_rows, entry_rows, covers_of, values_of, spread}

-- ---- write

-- The lines under the three lines of names, for an h by w plane of R levels; `head` is the one line under `height width levels`.
abbrev pub sheet_rows : List ℤ → ℕ → ℕ → ℕ → List ℤ → List ℕ → List (List (List ℤ))
sheet_rows head R h w plane coverings =
    (head ∷ []) ∷ block_rows (block_places R h w) coverings ∷ entry_rows (image_of h plane) (plane_places R h w) ∷ []

-- The bytes of the lines of blocks, and of the lines of entries.
abbrev pub blocks_text : ℕ → ℕ → ℕ → List ℕ → List ℕ
blocks_text R h w coverings = rows_text (block_rows (block_places R h w) coverings)

abbrev pub entries_text : ℕ → ℕ → ℕ → List ℤ → List ℕ
entries_text R h w plane = rows_text (entry_rows (image_of h plane) (plane_places R h w))

-- Document 02, wish 2: "The sheet opens with `height width levels`".
abbrev pub head_of : ℕ → ℕ → ℕ → List ℤ
head_of height width levels = pos height ∷ pos width ∷ pos levels ∷ []

-- The text of a sheet in its three parts, each a line of names and the lines under it.
abbrev pub head_part : ℕ → ℕ → ℕ → List ℕ
head_part height width levels = bytes "height width levels\n" ++ (cell_text height 32 ++ (cell_text width 32 ++ cell_text levels 10))

abbrev pub block_part : ℕ → ℕ → ℕ → List ℕ → List ℕ
block_part R h w coverings = bytes "level row col cover\n" ++ blocks_text R h w coverings

abbrev pub entry_part : ℕ → ℕ → ℕ → List ℤ → List ℕ
entry_part R h w plane = bytes "level band row col value\n" ++ entries_text R h w plane

-- The text of a sheet.
abbrev pub sheet_text : ℕ → ℕ → ℕ → List ℤ → List ℕ → List ℕ
sheet_text height width levels plane coverings = render sheet_form (sheet_rows (head_of height width levels) levels height width plane coverings)

-- Document 01: "write 1 2 3 5 6 10".
abbrev pub write_refusal : ℕ → ℕ → ℕ → List ℤ → List ℕ → List ℕ → ℕ
write_refusal height width levels plane coverings buffer =
    size_refusal height width levels
    (refuse_if (not (is_plane height width plane && is_coverings levels height width coverings)) 3
    (refuse_if (not (every is_number coverings)) 5
    (refuse_if (not (in_range levels height width (image_of height plane))) 6
    (refuse_if (ltb (length buffer) (length (sheet_text height width levels plane coverings))) 10 0))))

-- ---- read

abbrev pub is_some : {A : Type 0} → Option A → Bool
is_some none = false
is_some (some a) = true

abbrev pub list_in : {A : Type 0} → Option (List A) → List A
list_in none = []
list_in (some l) = l

-- The lines of values of a text under each line of names; the values of the line under `height width levels`, in this order.
unfoldable pub rows_of : List ℕ → List (List (List ℤ))
rows_of t = list_in (parse sheet_form t)

abbrev pub height_in : List (List (List ℤ)) → ℕ
height_in rows = cell_at (get_or (get_or rows 0 []) 0 []) 0

abbrev pub width_in : List (List (List ℤ)) → ℕ
width_in rows = cell_at (get_or (get_or rows 0 []) 0 []) 1

abbrev pub levels_in : List (List (List ℤ)) → ℕ
levels_in rows = cell_at (get_or (get_or rows 0 []) 0 []) 2

-- The coverings and the values along plane order that the lines say, where they say any.
abbrev pub said_coverings : List (List (List ℤ)) → Option (List ℕ)
said_coverings rows = covers_of (block_places (levels_in rows) (height_in rows) (width_in rows)) (get_or rows 1 [])

abbrev pub said_values : List (List (List ℤ)) → Option (List ℤ)
said_values rows = values_of (plane_places (levels_in rows) (height_in rows) (width_in rows)) (get_or rows 2 [])

abbrev pub coverings_in : List (List (List ℤ)) → List ℕ
coverings_in rows = list_in (said_coverings rows)

-- Document 01: "puts 0 at each plane place without a line".
abbrev pub plane_in : List (List (List ℤ)) → List ℤ
plane_in rows = spread (height_in rows) (plane_places (levels_in rows) (height_in rows) (width_in rows)) (list_in (said_values rows)) (replicate (width_in rows * height_in rows) (pos 0))

-- Document 01: "read 9 1 2 3 11 5 6", for a plane and coverings that are lent; first what follows 9.
abbrev pub judge : List (List (List ℤ)) → List ℤ → List ℕ → ℕ
judge rows plane coverings =
    size_refusal (height_in rows) (width_in rows) (levels_in rows)
    (refuse_if (not (is_plane (height_in rows) (width_in rows) plane && is_coverings (levels_in rows) (height_in rows) (width_in rows) coverings)) 3
    (refuse_if (not (is_some (said_coverings rows) && is_some (said_values rows))) 11
    (refuse_if (not (every is_number (coverings_in rows))) 5
    (refuse_if (not (in_range (levels_in rows) (height_in rows) (width_in rows) (image_of (height_in rows) (plane_in rows)))) 6 0))))

abbrev pub read_refusal : List ℕ → List ℤ → List ℕ → ℕ
read_refusal t plane coverings = refuse_if (not (is_some (parse sheet_form t))) 9 (judge (rows_of t) plane coverings)
