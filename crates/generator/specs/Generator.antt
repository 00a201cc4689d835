-- The test image of document 02, wish 4, "A test load from a number": its samples, the entry's checks and what it leaves. Assumes nothing.
use Rattle.std.specs.Prelude.{◌≡◌, ℕ, zero, suc, ◌+◌, ◌*◌, ◌/◌, ◌%◌, ◌^◌, not, List, [], ◌∷◌}
use Rattle.refusals.specs.Refusal.{refuse_if, after_call}
use Rattle.pyramid.specs.Sides.{is_sides, is_plane}

-- "From a 32-bit start s, each step is s = s times 1664525 plus 1013904223, kept modulo 2^32."
abbrev pub step_of : ℕ → ℕ
step_of s = (s * 1664525 + 1013904223) % 2 ^ 32

-- "The sample is s div 2^20 of the new s." This is the generator's output for a state.
abbrev pub output_of : ℕ → ℕ
output_of s = s / 2 ^ 20

-- n samples from the state s on.
unfoldable pub samples_from : ℕ → ℕ → List ℕ
samples_from zero s = []
samples_from (suc n) s = output_of (step_of s) ∷ samples_from n (step_of s)

-- "Samples fill the picture in column order." A slice holds a picture down its columns, so they go into it from its front.
abbrev pub test_image : ℕ → ℕ → ℕ → List ℕ
test_image height width start = samples_from (width * height) start

-- "Checks are 1, then 3." The slice has a place for each of the picture's samples.
abbrev pub image_refusal : ℕ → ℕ → List ℕ → ℕ
image_refusal height width samples =
    refuse_if (not (is_sides height width)) 1
    (refuse_if (not (is_plane height width samples)) 3
    0)

-- n is the number that the call is answered with, 0 where it is accepted; samples' is what the slice holds after the call.
pub record Generated (height width start : ℕ) (samples samples' : List ℕ) (n : ℕ) : Type 0 where
  pub number : n ≡ image_refusal height width samples
  pub image : samples' ≡ after_call n (test_image height width start) samples
