-- The entry "a block that shows a covering": what it answers, and what it leaves in the slice. Assumes nothing.
use Rattle.std.specs.Prelude.{◌≡◌, not, cond, List, ℕ, eqb, length}
use Rattle.refusals.specs.Refusal.{refuse_if, after_call}
use Rattle.coverings.specs.Words.{word_of}
use Rattle.coverings.specs.Entry.{is_number}
use Rattle.calibration.specs.Card.{card_samples, chosen_steps, some, are_steps}

-- Document 02, wish 14: "Checks 3 (16 places) and 5 come first. 21 when the steps are not one to four strictly rising values up to 4,095, after 5."
abbrev pub show_refusal : ℕ → List ℕ → List ℕ → ℕ
show_refusal covering steps samples =
    refuse_if (not (eqb (length samples) 16)) 3
    (refuse_if (not (is_number covering)) 5
    (refuse_if (not (are_steps steps)) 21
    0))

-- n is the number that the call is answered with, 0 where it is accepted; flag is 1 where there is a block; samples' is what the slice holds after the call.
-- "The first such choice .. is written to 16 samples in cell order; if no choice does it, the answer is none and the samples lent are untouched."
pub record ShownAnswered (covering : ℕ) (steps samples samples' : List ℕ) (n flag : ℕ) : Type 0 where
  pub number : n ≡ show_refusal covering steps samples
  pub found : flag ≡ after_call n (cond (some (chosen_steps covering steps)) 1 0) 0
  pub slice : samples' ≡ after_call n (cond (some (chosen_steps covering steps)) (card_samples (word_of covering) (chosen_steps covering steps)) samples) samples
