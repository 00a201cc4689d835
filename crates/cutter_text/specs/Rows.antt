-- Rows of values stored as the columns of a picture. Assumes nothing.
use Rattle.refusals.specs.declared.Refusal.{Refusal}
use Rattle.std.specs.Prelude.{◌≡◌, cond, List, [], ◌∷◌, map, ℕ, suc, ◌+◌, ◌*◌, leb, ℤ, nat_abs, get_or, set, drop, Option as Perhaps, Some, None, Result, Ok, Err, ⊤}
use Rattle.std.proofs.Math.Option.{Option, none, some}
use Rattle.refusals.specs.Refusal.{number_of}
use Rattle.text.specs.Text.{Parsed, bad, got}
use Rattle.cutter_text.specs.Picture.{picture_in}

-- A value in 16 bits: a sample as it is, and 4,096 for any that is over 4,095.
abbrev pub held_to : ℕ → ℕ
held_to v = cond (leb v 4095) v 4096

-- `out` of height h, with values stored in row y from column x on.
unfoldable pub row_in : ℕ → ℕ → ℕ → List ℤ → List ℕ → List ℕ
row_in h y x [] out = out
row_in h y x (v ∷ vs) out = row_in h y (suc x) vs (set out (x * h + y) (held_to (nat_abs v)))

-- `out` with rows stored from row y on.
unfoldable pub rows_in : ℕ → ℕ → List (List ℤ) → List ℕ → List ℕ
rows_in h y [] out = out
rows_in h y (r ∷ rs) out = rows_in h (suc y) rs (row_in h y 0 r out)

-- The same of what was read, with the bytes after it.
abbrev pub row_of : ℕ → ℕ → ℕ → List ℕ → Parsed (List ℤ) → Parsed (List ℕ)
row_of h y x out bad = bad
row_of h y x out (got vs r) = got (row_in h y x vs out) r

abbrev pub rows_of : ℕ → ℕ → List ℕ → Parsed (List (List ℤ)) → Parsed (List ℕ)
rows_of h y out bad = bad
rows_of h y out (got rs r) = got (rows_in h y rs out) r

-- What the code answers: the slice, and the text from the place past what was read.
abbrev pub passed : Perhaps ℕ → List ℕ → List ℕ → Parsed (List ℕ)
passed (Some p) s out = got out (drop p s)
passed None s out = bad

-- The picture that the text held, in 16 bits.
pub record Stored (h w : ℕ) (o : Option (List (List (List ℤ)))) (new : List ℕ) : Type 0 where
  pub lines : List (List (List ℤ))
  pub read : o ≡ some lines
  pub samples : new ≡ map held_to (picture_in h w (get_or lines 0 []))

-- "9 on all that follows."
abbrev pub SamplesIn : ℕ → ℕ → Option (List (List (List ℤ))) → List ℕ → Result ⊤ Refusal → Type 0
SamplesIn h w o new (Ok tt) = Stored h w o new
SamplesIn h w o new (Err r) = (o ≡ none) × (number_of r ≡ 9)
