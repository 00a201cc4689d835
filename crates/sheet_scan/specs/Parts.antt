-- Where the parts of a sheet's text stand. Assumes nothing.
use Rattle.std.specs.Prelude.{◌≡◌, Bool, true, false, List, [], ℕ, get_or, Option, Some, None}
use Rattle.integers.specs.Lists.{every}
use Rattle.coverings.specs.Entry.{is_number}
use Rattle.text.specs.Text.{parse}
use Rattle.text.specs.Lines.{four, five, lines_at}
use Rattle.sheet_scan.specs.declared.check.Layout.{Layout}
use Rattle.sheet_text.specs.Forms.{sheet_form}
use Rattle.pyramid.specs.Places.{plane_places, block_places}
use Rattle.pyramid.specs.Sides.{is_sides, is_depth}
use Rattle.sheet_text.specs.Rows.{covers_of, values_of}
use Rattle.sheet_scan.specs.Scan.{fit_along, covers_along}
use Rattle.sheet_text.specs.Sheet.{is_some, rows_of, height_in, width_in, levels_in}

-- What is found of the lines of blocks, where the height h, the width w and the levels R are good.
pub record Tiled (t : List ℕ) (at h w R : ℕ) (o m : Bool) : Type 0 where
  pub ordered : is_sides h w ≡ true → is_depth R h w ≡ true → o ≡ is_some (covers_of (block_places R h w) (lines_at four t at))
  pub numbered : is_sides h w ≡ true → is_depth R h w ≡ true → o ≡ true → m ≡ every is_number (covers_along (lines_at four t at))

-- What is found of the lines of entries, where the height h, the width w and the levels R are good.
pub record Surveyed (t : List ℕ) (at h w R : ℕ) (r f : Bool) : Type 0 where
  pub rising : is_sides h w ≡ true → is_depth R h w ≡ true → r ≡ is_some (values_of (plane_places R h w) (lines_at five t at))
  pub fitting : is_sides h w ≡ true → is_depth R h w ≡ true → f ≡ fit_along R (plane_places R h w) (lines_at five t at)

-- What is found in a text that keeps the line rules: what its header says, where the lines of blocks and entries begin, and what was found of them.
pub record LaidOut (t : List ℕ) (l : Layout) : Type 0 where
  pub keeps : is_some (parse sheet_form t) ≡ true
  pub height : height_in (rows_of t) ≡ l.height
  pub width : width_in (rows_of t) ≡ l.width
  pub levels : levels_in (rows_of t) ≡ l.levels
  pub blocks : get_or (rows_of t) 1 [] ≡ lines_at four t l.blocks
  pub entries : get_or (rows_of t) 2 [] ≡ lines_at five t l.entries
  pub tiled : Tiled t l.blocks l.height l.width l.levels l.ordered l.numbered
  pub surveyed : Surveyed t l.entries l.height l.width l.levels l.rising l.fitting

-- The answer for any text.
abbrev pub FoundIn : List ℕ → Option Layout → Type 0
FoundIn t None = is_some (parse sheet_form t) ≡ false
FoundIn t (Some l) = LaidOut t l
