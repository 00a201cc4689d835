-- Lines that the code reads at a place: a line of three numbers, of four, and of four and a signed value. Assumes nothing.
use Rattle.std.specs.Prelude.{◌≡◌, ℕ, ◌-◌, ◌<◌, ◌≤◌, List, [], ◌∷◌, ℤ, pos, nat_abs, Option, Some, None, length, drop, get_or}
use Rattle.std.proofs.Common.{lit<}
use Rattle.text.specs.Text.{Parsed, bad, got, Column, signed, plain, row, rows, any}
use Rattle.text.specs.declared.lines.Three.{Three}
use Rattle.text.specs.declared.lines.Four.{Four}
use Rattle.text.specs.declared.lines.Five.{Five}

-- What the columns of these lines may hold: a minus in the last of five alone.
abbrev pub three : List Column
three = plain ∷ plain ∷ plain ∷ []

abbrev pub four : List Column
four = plain ∷ plain ∷ plain ∷ plain ∷ []

abbrev pub five : List Column
five = plain ∷ plain ∷ plain ∷ plain ∷ signed ∷ []

-- each has a column
pub four_some : 0 < length four
four_some = lit< tt

pub five_some : 0 < length five
five_some = lit< tt

abbrev pub cell_at : List ℤ → ℕ → ℕ
cell_at r i = nat_abs (get_or r i (pos 0))

abbrev pub three_of : ℕ → Parsed (List ℤ) → Option Three
three_of n bad = None
three_of n (got v r) = Some (record { first = cell_at v 0; second = cell_at v 1; third = cell_at v 2; next = n - length r })

abbrev pub three_at : List ℕ → ℕ → Option Three
three_at s at = three_of (length s) (row three (drop at s))

abbrev pub four_of : ℕ → Parsed (List ℤ) → Option Four
four_of n bad = None
four_of n (got v r) = Some (record { first = cell_at v 0; second = cell_at v 1; third = cell_at v 2; fourth = cell_at v 3; next = n - length r })

abbrev pub four_at : List ℕ → ℕ → Option Four
four_at s at = four_of (length s) (row four (drop at s))

abbrev pub five_of : ℕ → Parsed (List ℤ) → Option Five
five_of n bad = None
five_of n (got v r) =
    Some (record { first = cell_at v 0; second = cell_at v 1; third = cell_at v 2; fourth = cell_at v 3; value = get_or v 4 (pos 0); next = n - length r })

abbrev pub five_at : List ℕ → ℕ → Option Five
five_at s at = five_of (length s) (row five (drop at s))

-- a line of these columns stands at a place, and `next` is the place past it
pub record RowRead (ks : List Column) (s : List ℕ) (at next : ℕ) : Type 0 where
  pub cells : List ℤ
  pub read : row ks (drop at s) ≡ got cells (drop next s)
  pub within : next ≤ length s
  pub less : length (drop next s) < length (drop at s)

-- the place past as many lines as there are
abbrev pub past_of : ℕ → Parsed (List (List ℤ)) → ℕ
past_of n bad = n
past_of n (got rs r) = n - length r

abbrev pub fours_at : List ℕ → ℕ → ℕ
fours_at s at = past_of (length s) (rows any four (drop at s))

abbrev pub fives_at : List ℕ → ℕ → ℕ
fives_at s at = past_of (length s) (rows any five (drop at s))

-- as many lines as there are at a place
abbrev pub lines_of : Parsed (List (List ℤ)) → List (List ℤ)
lines_of bad = []
lines_of (got rs r) = rs

unfoldable pub lines_at : List Column → List ℕ → ℕ → List (List ℤ)
lines_at ks s at = lines_of (rows any ks (drop at s))
