-- What is proved of the calls of show: the number that each is answered with, when its slice is left as it was, and what decomposing finds in the block that it
-- wrote. Assumes nothing.
use Rattle.std.specs.Prelude.{◌≡◌, List, [], ◌∷◌, ℕ, ◌+◌, ◌*◌, ◌/◌, ◌<◌, ℤ, length, get_or}
use Rattle.coverings.specs.Rule.{Number}
use Rattle.terms.specs.Terms.{Terms}
use Rattle.terms.specs.Laws.{InList}
use Rattle.pyramid.specs.Slices.{picture_of}
use Rattle.coder.specs.Claims.{Picture, Left}
use Rattle.calibration.specs.Entry.{show_refusal, ShownAnswered}
use Rattle.calibration.specs.Laws.{GoodSteps}

-- The number of each call: four cases, which leave none out.
pub record ShowChecks (covering : ℕ) (steps samples : List ℕ) : Type 0 where
  pub frame : (length samples ≡ 16 → ⊥) → show_refusal covering steps samples ≡ 3
  pub tile : length samples ≡ 16 → (Number covering → ⊥) → show_refusal covering steps samples ≡ 5
  pub greys : length samples ≡ 16 → Number covering → (GoodSteps steps → ⊥) → show_refusal covering steps samples ≡ 21
  pub accepted : length samples ≡ 16 → Number covering → GoodSteps steps → show_refusal covering steps samples ≡ 0

pub record ShowLaws : Type 0 where
  pub checks : (covering : ℕ) (steps samples : List ℕ) → ShowChecks covering steps samples
  -- "the answer is none and the samples lent are untouched"; so they are where the call is refused
  pub untouched : (covering : ℕ) (steps samples samples' : List ℕ) (n : ℕ) → ShownAnswered covering steps samples samples' n 0 → samples' ≡ samples
  -- "With one step the answer is none for every covering."
  pub one_step : (covering step : ℕ) (samples samples' : List ℕ) (n flag : ℕ) → ShownAnswered covering (step ∷ []) samples samples' n flag → flag ≡ 0
  -- a block that was written is a picture that decompose accepts, with height 4, width 4 and one level
  pub picture : (covering : ℕ) (steps samples samples' : List ℕ) (n : ℕ) → ShownAnswered covering steps samples samples' n 1 → Picture 4 4 1 samples'
  -- "a block that picks it without a tie": in whatever picture a block of level 1 has these sixteen samples, whichever it is and whatever was chosen earlier, its
  -- covering is this one. `Left` is what an accepted call of decompose, decompose_within or decompose_listed left; the tolerance is 0, the list holds the covering.
  pub chosen : (covering : ℕ) (steps samples samples' : List ℕ) (n : ℕ) → ShownAnswered covering steps samples samples' n 1
      → (t : Terms) → t.tolerance ≡ 0 → InList t covering
      → (height width levels : ℕ) (picture : List ℕ) (plane : List ℤ) (coverings : List ℕ) → Left t height width levels picture plane coverings
      → (i j : ℕ) → i < height / 4 → j < width / 4
      → ((y x : ℕ) → y < 4 → x < 4 → picture_of height picture (i * 4 + y) (j * 4 + x) ≡ picture_of 4 samples' y x)
      → get_or coverings (j * (height / 4) + i) 0 ≡ covering
