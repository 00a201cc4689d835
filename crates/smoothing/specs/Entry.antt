-- The entry smooth: its checks in their order, its answer, and what it leaves in each lent slice. What the step gives is `smoothed_of` of the crate `variation`. Assumes nothing.
use Rattle.std.specs.Prelude.{◌≡◌, not, ◌&&◌, List, ℕ, ◌*◌, ltb, ℤ, pos, replicate}
use Rattle.refusals.specs.Refusal.{refuse_if, after_call}
use Rattle.pyramid.specs.Sides.{is_plane}
use Rattle.strips.specs.Strip.{Strip, is_framed, is_numbered, is_ranged}
use Rattle.places.specs.Sizes.{size_refusal}
use Rattle.variation.specs.Smooth.{smoothed_of}

-- Document 02, wish 11: "The result and the scratch are as long as the plane, which 3 looks at"; "Checks are 1, 2, 3, 5, 6; 19 when p is over 255, after 6."
abbrev pub smooth_refusal : Strip → ℕ → List ℤ → List ℤ → ℕ
smooth_refusal s p result scratch =
    size_refusal s.height s.width s.levels
    (refuse_if (not (is_framed s && (is_plane s.height s.width result && is_plane s.height s.width scratch))) 3
    (refuse_if (not (is_numbered s)) 5
    (refuse_if (not (is_ranged s)) 6
    (refuse_if (ltb 255 p) 19
    0))))

-- n is the number that the call is answered with, 0 where it is accepted; a name with ' is what the slice holds after the call. "The result is 16 times Y minus
-- p times G", "the scratch is left at zeros".
pub record Smoothed (s : Strip) (p : ℕ) (result result' scratch scratch' : List ℤ) (n : ℕ) : Type 0 where
  pub number : n ≡ smooth_refusal s p result scratch
  pub values : result' ≡ after_call n (smoothed_of s.levels s.height s.width s.coverings p s.plane) result
  pub zeros : scratch' ≡ after_call n (replicate (s.width * s.height) (pos 0)) scratch
