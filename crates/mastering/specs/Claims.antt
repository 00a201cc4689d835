-- What is proved of restoring as a master: which number each call is answered with, which planes always pass, and what an accepted call leaves beside
-- restoring. Assumes nothing.
use Rattle.std.specs.Prelude.{◌≡◌, List, map, ℕ, ◌*◌, ◌^◌, ◌<◌, T, ℤ, pos, length, get_or}
use Rattle.integers.specs.Lists.{every}
use Rattle.terms.specs.Terms.{Terms, is_list}
use Rattle.pyramid.specs.Slices.{covers_by, plane_by, numerators_of}
use Rattle.strips.specs.Strip.{Strip, strip_of, Sided, Deep, Framed, Numbered, Ranged, Passes}
use Rattle.masters.specs.Whole.{Whole}
use Rattle.coder.specs.Claims.{Picture, Left}
use Rattle.coder.specs.Entries.{is_sample, restore_refusal, Restored}
use Rattle.mastering.specs.Entry.{master_refusal, RestoredMaster}

-- What 3 asks of the three slices that are filled.
pub record Exact (s : Strip) (numerators : List ℤ) (samples : List ℕ) (scratch : List ℤ) : Type 0 where
  pub numerators_long : length numerators ≡ s.width * s.height
  pub samples_long : length samples ≡ s.width * s.height
  pub scratch_long : length scratch ≡ s.width * s.height

-- The numerator at place k is 4^R times a whole number from 0 to 4,095.
abbrev pub WholeAt : Strip → ℕ → Type 0
WholeAt s k = Whole s.levels (get_or (numerators_of s.levels s.height s.width s.coverings s.plane) k (pos 0))

-- The number of each call.
pub record MasterChecks (s : Strip) (numerators : List ℤ) (samples : List ℕ) (scratch : List ℤ) : Type 0 where
  pub side : (Sided s → ⊥) → master_refusal s numerators samples scratch ≡ 1
  pub depth : Sided s → (Deep s → ⊥) → master_refusal s numerators samples scratch ≡ 2
  pub frame : Sided s → Deep s → (Framed s → Exact s numerators samples scratch → ⊥) → master_refusal s numerators samples scratch ≡ 3
  pub covering : Sided s → Deep s → Framed s → Exact s numerators samples scratch → (Numbered s → ⊥) → master_refusal s numerators samples scratch ≡ 5
  pub coefficient : Sided s → Deep s → Framed s → Exact s numerators samples scratch → Numbered s → (Ranged s → ⊥) → master_refusal s numerators samples scratch ≡ 6
  -- "20 when some numerator is not 4^R times a whole number from 0 to 4,095", whichever
  pub master : Passes s → Exact s numerators samples scratch → (k : ℕ) → k < s.width * s.height → (WholeAt s k → ⊥) → master_refusal s numerators samples scratch ≡ 20
  -- and the rest is accepted
  pub accepted : Passes s → Exact s numerators samples scratch → ((k : ℕ) → k < s.width * s.height → WholeAt s k) → master_refusal s numerators samples scratch ≡ 0

pub record MasterLaws : Type 0 where
  pub checks : (s : Strip) (numerators : List ℤ) (samples : List ℕ) (scratch : List ℤ) → MasterChecks s numerators samples scratch
  -- "Every uncut plane from an accepted picture passes with its own sides, levels and coverings", whatever the tolerance and the list it was decomposed with
  pub passes : (t : Terms) → T (is_list t.list) → (height width levels : ℕ) (picture : List ℕ) → Picture height width levels picture
      → let s = strip_of height width levels (plane_by t levels height width picture) (covers_by t levels height width picture) in
      (numerators scratch : List ℤ) (samples : List ℕ) → Exact s numerators samples scratch → master_refusal s numerators samples scratch ≡ 0
  -- and gives the picture back. `Left` is what an accepted call of decompose, decompose_within or decompose_listed left: any call with it is accepted
  pub back : (t : Terms) (height width levels : ℕ) (picture : List ℕ) (plane : List ℤ) (coverings : List ℕ) → Left t height width levels picture plane coverings
      → let s = strip_of height width levels plane coverings in
      (numerators numerators' : List ℤ) (samples samples' : List ℕ) (scratch scratch' : List ℤ) (n : ℕ) → Exact s numerators samples scratch
      → RestoredMaster s numerators numerators' samples samples' scratch scratch' n
      → (n ≡ 0) × (samples' ≡ picture)
  -- "whole samples, with no rounding and no holding to limits": where a call was accepted, its numerators are exactly 4^R times its samples, and these are samples
  pub strict : (s : Strip) (numerators numerators' : List ℤ) (samples samples' : List ℕ) (scratch scratch' : List ℤ)
      → RestoredMaster s numerators numerators' samples samples' scratch scratch' 0
      → (numerators' ≡ map (λ v. pos (4 ^ s.levels * v)) samples') × T (every is_sample samples')
  -- and restoring the same plane, into slices of exact length, is accepted and leaves the same in all three
  pub same : (s : Strip) (numerators numerators' : List ℤ) (samples samples' : List ℕ) (scratch scratch' : List ℤ)
      → RestoredMaster s numerators numerators' samples samples' scratch scratch' 0
      → (lent values : List ℤ) (blank image : List ℕ) (room zeros : List ℤ) (n : ℕ) → Exact s lent blank room
      → Restored s.height s.width s.levels s.plane s.coverings lent values blank image room zeros n
      → (n ≡ 0) × (values ≡ numerators') × (image ≡ samples') × (zeros ≡ scratch')
  -- what restoring refuses is refused with the same number
  pub alike : (s : Strip) (numerators : List ℤ) (samples : List ℕ) (scratch : List ℤ)
      → let n = restore_refusal s.height s.width s.levels s.plane s.coverings numerators samples scratch in
      0 < n → master_refusal s numerators samples scratch ≡ n
  -- a refused call, by 20 too, leaves all three slices as they were; an accepted one leaves zeros in the scratch, entry by entry
  pub unchanged : (s : Strip) (numerators numerators' : List ℤ) (samples samples' : List ℕ) (scratch scratch' : List ℤ) (n : ℕ) → 0 < n
      → RestoredMaster s numerators numerators' samples samples' scratch scratch' n
      → (numerators' ≡ numerators) × (samples' ≡ samples) × (scratch' ≡ scratch)
  pub empty : (s : Strip) (numerators numerators' : List ℤ) (samples samples' : List ℕ) (scratch scratch' : List ℤ)
      → RestoredMaster s numerators numerators' samples samples' scratch scratch' 0
      → (length scratch' ≡ s.width * s.height) × ((k : ℕ) → k < s.width * s.height → get_or scratch' k (pos 1) ≡ pos 0)
