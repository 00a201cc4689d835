-- The laws of restoring as a master beside decomposing and restoring. Assumes nothing.
use mathlib.Core.Path.{◌≡◌, sym, ap, ◌∙◌, subst, subst⁻¹}
use mathlib.Core.List.{List, [], ◌∷◌, map}
use Prim.Native.Nat.{ℕ, zero, suc, ◌*◌, ◌^◌, ◌<◌, ◌≤◌}
use native.Mathlib.Omega.{arith}
use lib.Dec.{T, le→leb}
use lib.IntN.{ℤ, pos, negsuc}
use lib.ListN.{length, get_or, replicate}
use Rattle.refusals.specs.Refusal.{after_call}
use Rattle.integers.specs.Lists.{every}
use Rattle.integers.proofs.Tests.{is_true, both}
use Rattle.terms.specs.Terms.{Terms}
use Rattle.pyramid.specs.Slices.{held, nearest, sample_of, numerators_of, samples_of}
use Rattle.strips.specs.Strip.{Strip, strip_of}
use Rattle.masters.specs.Whole.{is_whole, are_whole, masters_of}
use Rattle.masters.proofs.Numerators.{all_lenient, all_quotients, all_most, all_made}
use Rattle.coder.specs.Claims.{Left}
use Rattle.coder.specs.Entries.{is_sample, Restored}
use Rattle.coder.proofs.Gates as coder
use Rattle.coder.proofs.Together.{left_by}
use Rattle.mastering.specs.Entry.{master_refusal, RestoredMaster}
use Rattle.mastering.specs.Claims.{Exact, MasterLaws}
use Rattle.mastering.proofs.Gates.{checks, Found, master_past, alike, as_restoring}

-- ---- an uncut plane

-- what restoring gives are samples
held_most : (z : ℤ) → held z ≤ 4095
held_most (pos n) = omega arith
held_most (negsuc n) = omega arith

samples_most : (R : ℕ) (l : List ℤ) → T (every is_sample (map (sample_of R) l))
samples_most R [] = tt
samples_most R (y ∷ l) = both (is_sample (sample_of R y)) (every is_sample (map (sample_of R) l)) (le→leb (sample_of R y) 4095 (held_most (nearest R y))) (samples_most R l)

module _ (t : Terms) (height width levels : ℕ) (picture : List ℕ) (plane : List ℤ) (coverings : List ℕ) (d : Left t height width levels picture plane coverings) where
  abbrev s : Strip
  s = strip_of height width levels plane coverings

  wholly : T (are_whole levels height width coverings plane)
  wholly =
      let small = subst (λ (l : List ℕ). T (every is_sample l)) d.exact (samples_most levels (numerators_of levels height width coverings plane)) in
      subst⁻¹ (λ (l : List ℤ). T (every (is_whole levels) l)) d.numerators (all_made levels picture small)

  module _ (numerators scratch : List ℤ) (samples : List ℕ) (e : Exact s numerators samples scratch) where
    pub uncut : master_refusal s numerators samples scratch ≡ 0
    uncut = as_restoring s numerators samples scratch (is_true (are_whole levels height width coverings plane) wholly) ∙ d.restores numerators scratch samples e.numerators_long e.scratch_long e.samples_long

    pub back : (numerators' : List ℤ) (samples' : List ℕ) (scratch' : List ℤ) (n : ℕ) → RestoredMaster s numerators numerators' samples samples' scratch scratch' n → (n ≡ 0) × (samples' ≡ picture)
    back numerators' samples' scratch' n r =
        let none : n ≡ 0 = r.number ∙ uncut in
        (none, r.image ∙ ap (λ (m : ℕ). after_call m (masters_of levels height width coverings plane) samples) none ∙ sym (all_lenient levels (numerators_of levels height width coverings plane) wholly) ∙ d.exact)

-- ---- what an accepted call left
module _ (s : Strip) (numerators numerators' : List ℤ) (samples samples' : List ℕ) (scratch scratch' : List ℤ) (r : RestoredMaster s numerators numerators' samples samples' scratch scratch' 0) where
  abbrev values : List ℤ
  values = numerators_of s.levels s.height s.width s.coverings s.plane

  abbrev found : Found s numerators samples scratch
  found = master_past s numerators samples scratch r.number

  strict : (numerators' ≡ map (λ v. pos (4 ^ s.levels * v)) samples') × T (every is_sample samples')
  strict = (
    r.values ∙ all_quotients s.levels values found.wholly ∙ ap (map (λ v. pos (4 ^ s.levels * v))) (sym r.image),
    subst⁻¹ (λ (l : List ℕ). T (every is_sample l)) r.image (all_most s.levels values found.wholly),
  )

  same : (lent other : List ℤ) (blank image : List ℕ) (room zeros : List ℤ) (n : ℕ) → Exact s lent blank room
      → Restored s.height s.width s.levels s.plane s.coverings lent other blank image room zeros n
      → (n ≡ 0) × (other ≡ numerators') × (image ≡ samples') × (zeros ≡ scratch')
  same lent other blank image room zeros n e q =
      let none : n ≡ 0 = q.number ∙ coder.restoring s found.passes lent room blank e.numerators_long e.samples_long e.scratch_long in (
        none,
        q.values ∙ ap (λ (m : ℕ). after_call m values lent) none ∙ sym r.values,
        q.image ∙ ap (λ (m : ℕ). after_call m (samples_of s.levels s.height s.width s.coverings s.plane) blank) none ∙ all_lenient s.levels values found.wholly ∙ sym r.image,
        q.zeros ∙ ap (λ (m : ℕ). after_call m (replicate (s.width * s.height) (pos 0)) room) none ∙ sym r.zeros,
      )

  empty : (length scratch' ≡ s.width * s.height) × ((k : ℕ) → k < s.width * s.height → get_or scratch' k (pos 1) ≡ pos 0)
  empty = coder.cleared (s.width * s.height) r.zeros

-- a refused one
as_before : (s : Strip) (numerators numerators' : List ℤ) (samples samples' : List ℕ) (scratch scratch' : List ℤ) (n : ℕ) → 0 < n
    → RestoredMaster s numerators numerators' samples samples' scratch scratch' n → (numerators' ≡ numerators) × (samples' ≡ samples) × (scratch' ≡ scratch)
as_before s numerators numerators' samples samples' scratch scratch' zero l r = absurd (omega arith)
as_before s numerators numerators' samples samples' scratch scratch' (suc n) l r = (r.values, r.image, r.zeros)

pub laws : MasterLaws
laws = record {
  checks = checks;
  passes = λ t g height width levels picture p. uncut t height width levels picture _ _ (left_by t g height width levels picture p);
  back = λ t height width levels picture plane coverings d numerators numerators' samples samples' scratch scratch' n e. back t height width levels picture plane coverings d numerators scratch samples e numerators' samples' scratch' n;
  strict = strict;
  same = same;
  alike = alike;
  unchanged = as_before;
  empty = empty;
}
