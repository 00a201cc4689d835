-- The entry restore_master: its checks in their order, its answer, and what it leaves in each lent slice. Nothing here rounds or holds to limits: the samples
-- are `masters_of` of the crate `masters`. Assumes nothing.
use Rattle.std.specs.Prelude.{◌≡◌, not, List, ℕ, ◌*◌, ℤ, pos, replicate}
use Rattle.refusals.specs.Refusal.{refuse_if, after_call}
use Rattle.pyramid.specs.Slices.{numerators_of}
use Rattle.strips.specs.Strip.{Strip, is_numbered, is_ranged}
use Rattle.coder.specs.Entries.{frame_refusal}
use Rattle.masters.specs.Whole.{are_whole, masters_of}

-- Document 02, wish 13: the checks of restoring, 1 2 3 5 6, and "20 when some numerator is not 4^R times a whole number from 0 to 4,095, after 6 as the last
-- check".
abbrev pub master_refusal : Strip → List ℤ → List ℕ → List ℤ → ℕ
master_refusal s numerators samples scratch =
    frame_refusal s.height s.width s.levels s.plane s.coverings numerators samples scratch
    (refuse_if (not (is_numbered s)) 5
    (refuse_if (not (is_ranged s)) 6
    (refuse_if (not (are_whole s.levels s.height s.width s.coverings s.plane)) 20
    0)))

-- n is the number that the call is answered with, 0 where it is accepted; a name with ' is what the slice holds after the call. "Restoring as a master must
-- give back whole samples, with no rounding and no holding to limits."
pub record RestoredMaster (s : Strip) (numerators numerators' : List ℤ) (samples samples' : List ℕ) (scratch scratch' : List ℤ) (n : ℕ) : Type 0 where
  pub number : n ≡ master_refusal s numerators samples scratch
  pub values : numerators' ≡ after_call n (numerators_of s.levels s.height s.width s.coverings s.plane) numerators
  pub image : samples' ≡ after_call n (masters_of s.levels s.height s.width s.coverings s.plane) samples
  pub zeros : scratch' ≡ after_call n (replicate (s.width * s.height) (pos 0)) scratch
