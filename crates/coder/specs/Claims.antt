-- What is proved of the entries together: a good picture is never refused, and restoring gives it back. Assumes nothing.
use Rattle.std.specs.Prelude.{◌≡◌, ◌↔◌, List, map, ℕ, ◌*◌, ◌^◌, ◌≤◌, T, ℤ, pos, length}
use Rattle.integers.specs.Lists.{every, one_of}
use Rattle.terms.specs.Terms.{Terms, within, all_numbers}
use Rattle.pyramid.specs.Plane.{all_blocks}
use Rattle.pyramid.specs.Near.{Near, NearEvery}
use Rattle.pyramid.specs.Settled.{SettledBy}
use Rattle.pyramid.specs.Sides.{is_sides, is_depth}
use Rattle.pyramid.specs.Slices.{picture_of, covers_of, plane_of, numerators_of, samples_of}
use Rattle.coder.specs.Entries.{is_sample, decompose_refusal, Decomposed, within_refusal, DecomposedWithin, restore_refusal}

-- A picture that document 01 accepts, with the height and width of document 02, wish 2 ("Height and width may each be any power of two from 4 to 512"): levels that both
-- allow, and height times width samples, each at most 4,095.
pub record Picture (height width levels : ℕ) (samples : List ℕ) : Type 0 where
  pub issides : T (is_sides height width)
  pub isdepth : T (is_depth levels height width)
  pub long : length samples ≡ width * height
  pub small : T (every is_sample samples)

-- What decomposing on terms t, a tolerance and a list of coverings, leaves of an accepted picture.
pub record Left (t : Terms) (height width levels : ℕ) (samples : List ℕ) (plane : List ℤ) (coverings : List ℕ) : Type 0 where
  -- document 02, wish 6: of the coverings that compete "the most frequent wins, then the lowest number"
  pub settled : SettledBy t levels height width coverings (picture_of height samples)
  -- wish 7: each is in the list, and "costs at most t times 2^r more than every other one in the list"
  pub stand : T (every (one_of t.list) coverings)
  pub near : Near t levels height width coverings (picture_of height samples)
  -- "with all 117 listed, that is every cutting there is"
  pub all : t.list ≡ all_numbers → NearEvery t levels height width coverings (picture_of height samples)
  -- restoring is not refused, with slices of exact length, and gives the picture
  pub restores : (numerators scratch : List ℤ) (restored : List ℕ) → length numerators ≡ width * height → length scratch ≡ width * height → length restored ≡ width * height
      → restore_refusal height width levels plane coverings numerators restored scratch ≡ 0
  pub numerators : numerators_of levels height width coverings plane ≡ map (λ s. pos (4 ^ levels * s)) samples
  pub exact : samples_of levels height width coverings plane ≡ samples

pub record CoderLaws : Type 0 where
  -- decompose is never refused for a picture with slices of exact length
  pub decomposes : (height width levels : ℕ) (samples : List ℕ) → Picture height width levels samples → (plane scratch : List ℤ) (coverings : List ℕ)
      → length plane ≡ width * height → length scratch ≡ width * height → length coverings ≡ all_blocks levels height width
      → decompose_refusal height width levels samples plane coverings scratch ≡ 0
  -- nor is restoring what decomposing gave, with slices of exact length
  pub restores : (height width levels : ℕ) (samples : List ℕ) → Picture height width levels samples → (numerators scratch : List ℤ) (restored : List ℕ)
      → length numerators ≡ width * height → length scratch ≡ width * height → length restored ≡ width * height
      → restore_refusal height width levels (plane_of levels height width samples) (covers_of levels height width samples) numerators restored scratch ≡ 0
  -- document 01: "Numerators Y of an uncut plane are 4^R times the picture"
  pub numerators : (height width levels : ℕ) (samples : List ℕ) → Picture height width levels samples
      → numerators_of levels height width (covers_of levels height width samples) (plane_of levels height width samples) ≡ map (λ s. pos (4 ^ levels * s)) samples
  -- so the samples are the picture
  pub exact : (height width levels : ℕ) (samples : List ℕ) → Picture height width levels samples
      → samples_of levels height width (covers_of levels height width samples) (plane_of levels height width samples) ≡ samples
  -- document 02, wish 6: with a tolerance up to 4,095 a picture is not refused either
  pub decomposes_within : (height width levels tolerance : ℕ) (samples : List ℕ) → Picture height width levels samples → tolerance ≤ 4095 → (plane scratch : List ℤ) (coverings : List ℕ)
      → length plane ≡ width * height → length scratch ≡ width * height → length coverings ≡ all_blocks levels height width
      → within_refusal height width levels tolerance samples plane coverings scratch ≡ 0
  -- "With t = 0 everything is as without it": number and every slice, for good and refused calls
  pub without : (height width levels : ℕ) (samples : List ℕ) (plane plane' : List ℤ) (coverings coverings' : List ℕ) (scratch scratch' : List ℤ) (n : ℕ)
      → DecomposedWithin height width levels 0 samples plane plane' coverings coverings' scratch scratch' n ↔ Decomposed height width levels samples plane plane' coverings coverings' scratch scratch' n
  -- what it leaves is what the wish words, and the picture; all coverings are listed
  pub left : (height width levels tolerance : ℕ) (samples : List ℕ) (plane plane' : List ℤ) (coverings coverings' : List ℕ) (scratch scratch' : List ℤ)
      → DecomposedWithin height width levels tolerance samples plane plane' coverings coverings' scratch scratch' 0 → Left (within tolerance) height width levels samples plane' coverings'
