-- The entries decompose, the same with a tolerance, and restore: their checks in document 01's order, their answers, and what they leave in each lent slice. Assumes nothing.
use Rattle.std.specs.Prelude.{◌≡◌, Bool, not, ◌&&◌, List, ℕ, ◌*◌, leb, ltb, ℤ, pos, replicate}
use Rattle.refusals.specs.Refusal.{refuse_if, after_call}
use Rattle.integers.specs.Lists.{every}
use Rattle.coverings.specs.Entry.{is_number}
use Rattle.terms.specs.Terms.{within}
use Rattle.pyramid.specs.Sides.{is_plane, is_coverings}
use Rattle.pyramid.specs.Ranges.{in_range}
use Rattle.pyramid.specs.Slices.{image_of, covers_of, plane_of, covers_by, plane_by, numerators_of, samples_of}
use Rattle.places.specs.Sizes.{size_refusal}

-- Document 01, refusal 4: "over 4,095".
abbrev pub is_sample : ℕ → Bool
is_sample s = leb s 4095

-- Document 01: "decompose 1 2 3 4"; document 02, wish 2: "All formulas with N^2 use height times width. Level r has height/2^(r+1) times width/2^(r+1) blocks."
-- Behind these four checks go the others.
abbrev pub picture_refusal : ℕ → ℕ → ℕ → List ℕ → List ℤ → List ℕ → List ℤ → ℕ → ℕ
picture_refusal height width levels samples plane coverings scratch rest =
    size_refusal height width levels
    (refuse_if (not (is_plane height width samples && (is_plane height width plane && (is_coverings levels height width coverings && is_plane height width scratch)))) 3
    (refuse_if (not (every is_sample samples)) 4
    rest))

-- There are none.
abbrev pub decompose_refusal : ℕ → ℕ → ℕ → List ℕ → List ℤ → List ℕ → List ℤ → ℕ
decompose_refusal height width levels samples plane coverings scratch = picture_refusal height width levels samples plane coverings scratch 0

-- n is the number that the call is answered with, 0 where it is accepted; a name with ' is what the slice holds after the call. "A scratch slice as long as the plane holds zeros after an accepted decomposition".
pub record Decomposed (height width levels : ℕ) (samples : List ℕ) (plane plane' : List ℤ) (coverings coverings' : List ℕ) (scratch scratch' : List ℤ) (n : ℕ) : Type 0 where
  pub number : n ≡ decompose_refusal height width levels samples plane coverings scratch
  pub planes : plane' ≡ after_call n (plane_of levels height width samples) plane
  pub covers : coverings' ≡ after_call n (covers_of levels height width samples) coverings
  pub zeros : scratch' ≡ after_call n (replicate (width * height) (pos 0)) scratch

-- Document 02, wish 6: "13 when t is over 4,095, after 4." Behind these five checks go the others.
abbrev pub tolerance_refusal : ℕ → ℕ → ℕ → ℕ → List ℕ → List ℤ → List ℕ → List ℤ → ℕ → ℕ
tolerance_refusal height width levels tolerance samples plane coverings scratch rest =
    picture_refusal height width levels samples plane coverings scratch
    (refuse_if (ltb 4095 tolerance) 13
    rest)

-- There are none.
abbrev pub within_refusal : ℕ → ℕ → ℕ → ℕ → List ℕ → List ℤ → List ℕ → List ℤ → ℕ
within_refusal height width levels tolerance samples plane coverings scratch = tolerance_refusal height width levels tolerance samples plane coverings scratch 0

-- Wish 6: what decomposing with a tolerance answers and leaves.
pub record DecomposedWithin (height width levels tolerance : ℕ) (samples : List ℕ) (plane plane' : List ℤ) (coverings coverings' : List ℕ) (scratch scratch' : List ℤ) (n : ℕ) : Type 0 where
  pub number : n ≡ within_refusal height width levels tolerance samples plane coverings scratch
  pub planes : plane' ≡ after_call n (plane_by (within tolerance) levels height width samples) plane
  pub covers : coverings' ≡ after_call n (covers_by (within tolerance) levels height width samples) coverings
  pub zeros : scratch' ≡ after_call n (replicate (width * height) (pos 0)) scratch

-- Document 01: "restore 1 2 3 5 6". The first three, before the others.
abbrev pub frame_refusal : ℕ → ℕ → ℕ → List ℤ → List ℕ → List ℤ → List ℕ → List ℤ → ℕ → ℕ
frame_refusal height width levels plane coverings numerators samples scratch rest =
    size_refusal height width levels
    (refuse_if (not (is_plane height width plane && (is_coverings levels height width coverings && (is_plane height width numerators && (is_plane height width samples && is_plane height width scratch))))) 3
    rest)

-- All five. Behind them go the others.
abbrev pub restorable_refusal : ℕ → ℕ → ℕ → List ℤ → List ℕ → List ℤ → List ℕ → List ℤ → ℕ → ℕ
restorable_refusal height width levels plane coverings numerators samples scratch rest =
    frame_refusal height width levels plane coverings numerators samples scratch
    (refuse_if (not (every is_number coverings)) 5
    (refuse_if (not (in_range levels height width (image_of height plane))) 6
    rest))

-- There are none.
abbrev pub restore_refusal : ℕ → ℕ → ℕ → List ℤ → List ℕ → List ℤ → List ℕ → List ℤ → ℕ
restore_refusal height width levels plane coverings numerators samples scratch = restorable_refusal height width levels plane coverings numerators samples scratch 0

-- "Numerators are given beside samples."
pub record Restored (height width levels : ℕ) (plane : List ℤ) (coverings : List ℕ) (numerators numerators' : List ℤ) (samples samples' : List ℕ) (scratch scratch' : List ℤ) (n : ℕ) : Type 0 where
  pub number : n ≡ restore_refusal height width levels plane coverings numerators samples scratch
  pub values : numerators' ≡ after_call n (numerators_of levels height width coverings plane) numerators
  pub image : samples' ≡ after_call n (samples_of levels height width coverings plane) samples
  pub zeros : scratch' ≡ after_call n (replicate (width * height) (pos 0)) scratch
