-- The entry "pieces of a covering (its word)": what it answers, and what it leaves in the slice. Assumes nothing.
use Rattle.std.specs.Prelude.{◌≡◌, Bool, not, ◌&&◌, List, ℕ, eqb, leb, length}
use Rattle.refusals.specs.Refusal.{refuse_if, after_call}
use Rattle.coverings.specs.Words.{word_of}

-- The covering has a number, 1 to 117. Document 01, refusal 5: "covering 0 or over 117".
abbrev pub is_number : ℕ → Bool
is_number n = leb 1 n && leb n 117

-- Document 01: "pieces of a covering (its word) 3 5"; 3 "for pieces, not 16 places".
abbrev pub word_refusal : ℕ → List ℕ → ℕ
word_refusal covering word = refuse_if (not (eqb (length word) 16)) 3 (refuse_if (not (is_number covering)) 5 0)

-- n is the number that the call is answered with, 0 where it is accepted; old is what the slice holds before the call, new what it holds after.
pub record WordAnswered (covering : ℕ) (old new : List ℕ) (n : ℕ) : Type 0 where
  pub number : n ≡ word_refusal covering old
  pub slice : new ≡ after_call n (word_of covering) old
