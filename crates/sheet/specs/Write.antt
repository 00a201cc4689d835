-- The entry write: what it answers, and what it leaves in the buffer. Assumes nothing.
use Rattle.std.specs.Prelude.{◌≡◌, List, ◌++◌, ℕ, ℤ, length, drop}
use Rattle.refusals.specs.Refusal.{after_call}
use Rattle.sheet_text.specs.Sheet.{sheet_text, write_refusal}

-- Document 01: "A longer tray keeps its further bytes; the length written is given." n is the number that the call is answered with, len the length that it gives. old is what the buffer holds before the call, new after it.
pub record WriteAnswered (height width levels : ℕ) (plane : List ℤ) (coverings old new : List ℕ) (n len : ℕ) : Type 0 where
  pub number : n ≡ write_refusal height width levels plane coverings old
  pub count : len ≡ after_call (write_refusal height width levels plane coverings old) (length (sheet_text height width levels plane coverings)) 0
  pub slice : new ≡ after_call (write_refusal height width levels plane coverings old) (sheet_text height width levels plane coverings ++ drop (length (sheet_text height width levels plane coverings)) old) old
