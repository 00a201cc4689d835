-- Bytes written from a place on. Assumes nothing.
use Rattle.std.specs.Prelude.{ℕ, zero, suc, ◌+◌, ◌/◌, ◌%◌, List, [], ◌∷◌, ◌++◌, ℤ, length, take, drop, set}
use Rattle.text.specs.Text.{digits, value_text}

-- `out` with the bytes l from the place at on
abbrev pub stamp : ℕ → List ℕ → List ℕ → List ℕ
stamp at l out = take at out ++ l ++ drop (at + length l) out

-- the last w digits of v are stored from the place at, the last one first
unfoldable pub stamped : ℕ → ℕ → ℕ → List ℕ → List ℕ
stamped zero at v out = out
stamped (suc w) at v out = stamped w at (v / 10) (set out (at + w) (48 + v % 10))

-- the last w digits of v
unfoldable pub digits_of : ℕ → ℕ → List ℕ
digits_of zero v = []
digits_of (suc w) v = digits_of w (v / 10) ++ ((48 + v % 10) ∷ [])

abbrev pub cell_text : ℕ → ℕ → List ℕ
cell_text v c = digits v ++ c ∷ []

-- four numbers with a space after each, and the byte e after the last: a line of four, or the front of a line of five
abbrev pub four_text : ℕ → ℕ → ℕ → ℕ → ℕ → List ℕ
four_text a b c d e = cell_text a 32 ++ (cell_text b 32 ++ (cell_text c 32 ++ cell_text d e))

-- a line of four numbers and a signed value
abbrev pub five_text : ℕ → ℕ → ℕ → ℕ → ℤ → List ℕ
five_text a b c d v = four_text a b c d 32 ++ (value_text v ++ 10 ∷ [])
