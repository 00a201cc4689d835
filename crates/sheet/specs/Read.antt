-- The entry read: what it answers, and what it leaves in the slices. Assumes nothing.
use Rattle.std.specs.Prelude.{◌≡◌, List, ℕ, ℤ, Result, Ok, Err}
use Rattle.refusals.specs.Refusal.{number_of, after_call}
use Rattle.refusals.specs.declared.Refusal.{Refusal}
use Rattle.sheet.specs.declared.Sheet.{Sheet}
use Rattle.sheet_text.specs.Sheet.{read_refusal, rows_of, height_in, width_in, levels_in, plane_in, coverings_in}

-- The number of an answer, and its values, 0 where the call is refused.
abbrev pub reading_of : Result Sheet Refusal → ℕ
reading_of (Ok s) = 0
reading_of (Err r) = number_of r

abbrev pub height_of : Result Sheet Refusal → ℕ
height_of (Ok s) = s.height
height_of (Err r) = 0

abbrev pub width_of : Result Sheet Refusal → ℕ
width_of (Ok s) = s.width
width_of (Err r) = 0

abbrev pub levels_of : Result Sheet Refusal → ℕ
levels_of (Ok s) = s.levels
levels_of (Err r) = 0

-- Document 01: "Reading gives side and levels, and puts 0 at each plane place without a line"; document 02, wish 2: "The sheet opens with `height width
-- levels`". n is the number that the call is answered with, h, w and k the height, the width and the levels that it gives; P and cs are what the slices
-- hold before the call, P' and cs' after it.
pub record ReadAnswered (t : List ℕ) (P P' : List ℤ) (cs cs' : List ℕ) (n h w k : ℕ) : Type 0 where
  pub number : n ≡ read_refusal t P cs
  pub height : h ≡ after_call (read_refusal t P cs) (height_in (rows_of t)) 0
  pub width : w ≡ after_call (read_refusal t P cs) (width_in (rows_of t)) 0
  pub levels : k ≡ after_call (read_refusal t P cs) (levels_in (rows_of t)) 0
  pub plane : P' ≡ after_call (read_refusal t P cs) (plane_in (rows_of t)) P
  pub coverings : cs' ≡ after_call (read_refusal t P cs) (coverings_in (rows_of t)) cs
