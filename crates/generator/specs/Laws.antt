-- What is wanted of the test images of document 02, wish 4: which calls are accepted, its example, where each sample stands, and that decompose takes them. Assumes nothing.
use Rattle.std.specs.Prelude.{◌≡◌, ℕ, zero, suc, ◌+◌, ◌*◌, ◌%◌, ◌^◌, ◌<◌, true, false, T, List, [], ◌∷◌, length, ℤ, pos, ◌≢◌}
use Rattle.integers.specs.Lists.{every}
use Rattle.pyramid.specs.Sides.{is_sides, is_depth}
use Rattle.pyramid.specs.Slices.{picture_of}
use Rattle.coder.specs.Claims.{Picture}
use Rattle.coder.specs.Entries.{is_sample, decompose_refusal}
use Rattle.generator.specs.Generator.{step_of, output_of, test_image, image_refusal}

-- The state after n steps from the start s.
unfoldable pub state_after : ℕ → ℕ → ℕ
state_after zero s = s
state_after (suc n) s = step_of (state_after n s)

pub record GeneratorLaws : Type 0 where
  -- A slice with a place for each sample of a picture is never refused.
  pub accepts : (h w : ℕ) (samples : List ℕ) → T (is_sides h w) → length samples ≡ w * h → image_refusal h w samples ≡ 0
  -- "Checks are 1, then 3": a bad height or width is 1, whatever the slice.
  pub sides_first : (h w : ℕ) (samples : List ℕ) → is_sides h w ≡ false → image_refusal h w samples ≡ 1
  -- "From 0 the first sample is 966." It is the upper left one, whatever the height and the width.
  pub first : (h w : ℕ) → 0 < h → 0 < w → picture_of h (test_image h w 0) 0 0 ≡ pos 966
  -- Whole pictures, from 1 and from the largest start, reckoned apart: another multiplier, increment, modulus or divisor would show in them.
  pub from_one : test_image 4 4 1 ≡ 968 ∷ 1512 ∷ 2065 ∷ 2887 ∷ 207 ∷ 1513 ∷ 3173 ∷ 2278 ∷ 67 ∷ 2618 ∷ 1025 ∷ 1730 ∷ 2419 ∷ 3428 ∷ 962 ∷ 4017 ∷ []
  pub from_largest : test_image 4 4 4294967295 ≡ 965 ∷ 769 ∷ 552 ∷ 2583 ∷ 2939 ∷ 3580 ∷ 3738 ∷ 2965 ∷ 4092 ∷ 2147 ∷ 1404 ∷ 216 ∷ 2609 ∷ 3822 ∷ 3188 ∷ 199 ∷ []
  -- There are as many samples as the picture has.
  pub long : (h w s : ℕ) → length (test_image h w s) ≡ w * h
  -- "Samples fill the picture in column order": before row y of column x go x columns of h samples and y samples, and its own is that of the state after one step more.
  pub columns : (h w s y x : ℕ) → y < h → x < w → picture_of h (test_image h w s) y x ≡ pos (output_of (state_after (x * h + y + 1) s))
  -- "Kept modulo 2^32": of a start that has more than 32 bits only the remainder would matter.
  pub wraps : (h w s : ℕ) → test_image h w (s % 2 ^ 32) ≡ test_image h w s
  -- Every sample is at most 4,095, in the words of decompose's check 4.
  pub small : (h w s : ℕ) → every is_sample (test_image h w s) ≡ true
  -- So decompose never answers 4 to a test image, whatever it is told and lent besides.
  pub never_four : (h w s height width levels : ℕ) (plane scratch : List ℤ) (coverings : List ℕ) → decompose_refusal height width levels (test_image h w s) plane coverings scratch ≢ 4
  -- And it is a picture that document 01 accepts, for all levels of its height and width, so that the laws of the coder hold for it.
  pub picture : (h w R s : ℕ) → T (is_sides h w) → T (is_depth R h w) → Picture h w R (test_image h w s)
