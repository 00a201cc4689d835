-- The entries with a list of coverings: their checks in order, their answers, and what they leave in each lent slice. Assumes nothing.
use Rattle.std.specs.Prelude.{◌≡◌, not, List, ℕ, ◌*◌, ℤ, pos, replicate}
use Rattle.refusals.specs.Refusal.{refuse_if, after_call}
use Rattle.integers.specs.Lists.{every, one_of}
use Rattle.coverings.specs.Entry.{is_number}
use Rattle.terms.specs.Terms.{among, is_list}
use Rattle.pyramid.specs.Ranges.{in_range}
use Rattle.pyramid.specs.Slices.{image_of, covers_by, plane_by, numerators_of, samples_of}
use Rattle.coder.specs.Entries.{tolerance_refusal, frame_refusal}

-- Document 02, wish 7: "14 when the list is empty, does not strictly rise or holds 0 or more than 117, after 13 when decomposing".
abbrev pub listed_refusal : ℕ → ℕ → ℕ → ℕ → List ℕ → List ℕ → List ℤ → List ℕ → List ℤ → ℕ
listed_refusal height width levels tolerance samples list plane coverings scratch =
    tolerance_refusal height width levels tolerance samples plane coverings scratch
    (refuse_if (not (is_list list)) 14
    0)

-- What decomposing with a list answers and leaves: n is the number that the call is answered with, 0 where it is accepted; a name with ' is what the slice
-- holds after the call.
pub record DecomposedListed (height width levels tolerance : ℕ) (samples list : List ℕ) (plane plane' : List ℤ) (coverings coverings' : List ℕ) (scratch scratch' : List ℤ) (n : ℕ) : Type 0 where
  pub number : n ≡ listed_refusal height width levels tolerance samples list plane coverings scratch
  pub planes : plane' ≡ after_call n (plane_by (among tolerance list) levels height width samples) plane
  pub covers : coverings' ≡ after_call n (covers_by (among tolerance list) levels height width samples) coverings
  pub zeros : scratch' ≡ after_call n (replicate (width * height) (pos 0)) scratch

-- The same, "and directly after 3 when restoring". Wish 10: "tests that every covering used stands in it"; "18 when a covering that some block uses is missing
-- from the list, after 5 and before 6": 1 2 3 14 5 18 6. Each entry of the coverings is some block's, by 3.
abbrev pub restore_listed_refusal : ℕ → ℕ → ℕ → List ℤ → List ℕ → List ℕ → List ℤ → List ℕ → List ℤ → ℕ
restore_listed_refusal height width levels plane coverings list numerators samples scratch =
    frame_refusal height width levels plane coverings numerators samples scratch
    (refuse_if (not (is_list list)) 14
    (refuse_if (not (every is_number coverings)) 5
    (refuse_if (not (every (one_of list) coverings)) 18
    (refuse_if (not (in_range levels height width (image_of height plane))) 6
    0))))

-- What restoring with a list answers and leaves. Wish 10: "Sheets whose coverings do stand there give the samples they gave".
pub record RestoredListed (height width levels : ℕ) (plane : List ℤ) (coverings list : List ℕ) (numerators numerators' : List ℤ) (samples samples' : List ℕ) (scratch scratch' : List ℤ) (n : ℕ) : Type 0 where
  pub number : n ≡ restore_listed_refusal height width levels plane coverings list numerators samples scratch
  pub values : numerators' ≡ after_call n (numerators_of levels height width coverings plane) numerators
  pub image : samples' ≡ after_call n (samples_of levels height width coverings plane) samples
  pub zeros : scratch' ≡ after_call n (replicate (width * height) (pos 0)) scratch
