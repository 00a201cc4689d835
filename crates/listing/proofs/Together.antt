-- The laws of the entries with a list together. Assumes nothing.
use mathlib.Core.Path.{◌≡◌, refl, sym, ap, ◌∙◌, subst⁻¹}
use mathlib.Core.Logic.{◌↔◌}
use mathlib.Core.Bool.{Bool, true, false, not, ◌&&◌}
use mathlib.Core.List.{List}
use Prim.Native.Nat.{ℕ, zero, suc, ◌*◌, ◌≤◌, ◌<◌}
use native.Mathlib.Omega.{arith}
use lib.Dec.{T, ltb}
use lib.IntN.{ℤ}
use lib.ListN.{length, get_or}
use Rattle.refusals.specs.Refusal.{number_of, refuse_if, after_call}
use Rattle.refusals.specs.declared.Refusal.{Refusal}
use Rattle.refusals.proofs.After.{unchanged, past}
use Rattle.integers.specs.Lists.{every, one_of}
use Rattle.integers.proofs.Tests.{is_true, is_false, every_at, every_of, every_through, one_of_at, at_one_of}
use Rattle.coverings.specs.Entry.{is_number}
use Rattle.coverings.specs.Rule.{Number}
use Rattle.coverings.proofs.Checks.{number_yes, is_number_law, number_at, every_number}
use Rattle.terms.specs.Terms.{among, all_numbers, is_list}
use Rattle.terms.proofs.Good as lists
use Rattle.pyramid.specs.Ranges.{in_range}
use Rattle.pyramid.specs.Sides.{is_sides, is_depth, is_plane, is_coverings}
use Rattle.pyramid.specs.Slices.{image_of, slice_of, covers_by, plane_by, samples_of}
use Rattle.pyramid.proofs.Slices.{slice_length}
use Rattle.coder.specs.Entries.{is_sample, DecomposedWithin, within_refusal, frame_refusal, restore_refusal, Restored}
use Rattle.coder.specs.Claims.{Left}
use Rattle.coder.proofs.Gates.{truth, Decomposable, tolerance_past, tolerance_passes, restore_past, restores}
use Rattle.coder.proofs.Together.{found, left_by, picture_of_law}
use Rattle.quota.specs.Quota.{select}
use Rattle.quota.proofs.Accepted.{selected_accepted}
use Rattle.listing.specs.Entries.{listed_refusal, DecomposedListed, restore_listed_refusal, RestoredListed}
use Rattle.listing.specs.Standing.{stand_refusal}
use Rattle.listing.specs.Claims.{Stand, Cuts, uncut, keep, threshold, ListingLaws}

-- ---- decomposing

module _ (height width levels tolerance : ℕ) (samples list : List ℕ) (plane : List ℤ) (coverings : List ℕ) (scratch : List ℤ) where
  pub refuses_listed : (r : Refusal) → number_of r ≡ listed_refusal height width levels tolerance samples list plane coverings scratch → DecomposedListed height width levels tolerance samples list plane plane coverings coverings scratch scratch (number_of r)
  refuses_listed r e = record { number = e; planes = unchanged r _ plane; covers = unchanged r _ coverings; zeros = unchanged r _ scratch }

  -- what the checks find where none refuses
  pub listed_past : 0 ≡ listed_refusal height width levels tolerance samples list plane coverings scratch → Decomposable height width levels samples plane coverings scratch × (tolerance ≤ 4095) × T (is_list list)
  listed_past e =
      let p = tolerance_past height width levels tolerance samples plane coverings scratch e in
      (p.0, p.1, truth (past (is_list list) 13 p.2).0)

  -- a list that is not refused is as none, by the number
  same_listed : T (is_list list) → listed_refusal height width levels tolerance samples list plane coverings scratch ≡ within_refusal height width levels tolerance samples plane coverings scratch
  same_listed g = rw (is_true (is_list list) g) refl

  -- a refusal of the five checks in front of it stays, whatever the list
  after : (n : ℕ) → within_refusal height width levels tolerance samples plane coverings scratch ≡ suc n → listed_refusal height width levels tolerance samples list plane coverings scratch ≡ suc n
  after =
      stays (not (is_sides height width)) 0
      (stays (not (is_depth levels height width)) 1
      (stays (not (is_plane height width samples && (is_plane height width plane && (is_coverings levels height width coverings && is_plane height width scratch)))) 2
      (stays (not (every is_sample samples)) 3
      (stays (ltb 4095 tolerance) 12 none))))
    where
      stays : (b : Bool) (k : ℕ) {old new : ℕ} → ((n : ℕ) → old ≡ suc n → new ≡ suc n) → (n : ℕ) → refuse_if b (suc k) old ≡ suc n → refuse_if b (suc k) new ≡ suc n
      stays true k f n e = e
      stays false k f n e = f n e

      none : (n : ℕ) → 0 ≡ suc n → refuse_if (not (is_list list)) 14 0 ≡ suc n
      none n e = absurd (omega arith)

  bad : within_refusal height width levels tolerance samples plane coverings scratch ≡ 0 → (T (is_list list) → ⊥) → listed_refusal height width levels tolerance samples list plane coverings scratch ≡ 14
  bad e f =
      let z = tolerance_past height width levels tolerance samples plane coverings scratch (sym e) in
      tolerance_passes height width levels tolerance samples plane coverings scratch z.0 z.1 _ ∙ ap (λ (o : Bool). refuse_if (not o) 14 0) (is_false (is_list list) f)

left_of_law : (height width levels tolerance : ℕ) (samples list : List ℕ) (plane plane' : List ℤ) (coverings coverings' : List ℕ) (scratch scratch' : List ℤ)
    → DecomposedListed height width levels tolerance samples list plane plane' coverings coverings' scratch scratch' 0 → Left (among tolerance list) height width levels samples plane' coverings'
left_of_law height width levels tolerance samples list plane plane' coverings coverings' scratch scratch' d =
    let z = listed_past height width levels tolerance samples list plane coverings scratch d.number in
    subst⁻¹ (λ (c : List ℕ). Left (among tolerance list) height width levels samples plane' c) d.covers
    (subst⁻¹ (λ (q : List ℤ). Left (among tolerance list) height width levels samples q (covers_by (among tolerance list) levels height width samples)) d.planes
    (left_by (among tolerance list) z.2 height width levels samples (picture_of_law z.0)))

full : (height width levels tolerance : ℕ) (samples list : List ℕ) (plane plane' : List ℤ) (coverings coverings' : List ℕ) (scratch scratch' : List ℤ) (n : ℕ) → T (is_list list) → length list ≡ 117
    → (DecomposedListed height width levels tolerance samples list plane plane' coverings coverings' scratch scratch' n → DecomposedWithin height width levels tolerance samples plane plane' coverings coverings' scratch scratch' n)
    × (DecomposedWithin height width levels tolerance samples plane plane' coverings coverings' scratch scratch' n → DecomposedListed height width levels tolerance samples list plane plane' coverings coverings' scratch scratch' n)
full height width levels tolerance samples list plane plane' coverings coverings' scratch scratch' n g e =
    let number = same_listed height width levels tolerance samples list plane coverings scratch g in
    let all = (lists.full list g).0 e in
    let p = ap (λ (l : List ℕ). after_call n (plane_by (among tolerance l) levels height width samples) plane) all in
    let q = ap (λ (l : List ℕ). after_call n (covers_by (among tolerance l) levels height width samples) coverings) all in (
      (λ d. record { number = d.number ∙ number; planes = d.planes ∙ p; covers = d.covers ∙ q; zeros = d.zeros }),
      (λ d. record { number = d.number ∙ sym number; planes = d.planes ∙ sym p; covers = d.covers ∙ sym q; zeros = d.zeros }),
    )

-- ---- restoring

-- each covering is one of the list, by places
stands : (list coverings : List ℕ) → Stand list coverings → every (one_of list) coverings ≡ true
stands list coverings s = is_true (every (one_of list) coverings) (every_of (one_of list) coverings 0 (λ k h. let p = s k h in subst⁻¹ (λ (n : ℕ). T (one_of list n)) p.2 (at_one_of list p.0 p.1)))

stand : (list coverings : List ℕ) → T (every (one_of list) coverings) → Stand list coverings
stand list coverings t k h = one_of_at list (get_or coverings k 0) (every_at (one_of list) coverings 0 t k h)

-- what stands in a list is a number
pub stand_numbers : (list coverings : List ℕ) → is_list list ≡ true → every (one_of list) coverings ≡ true → every is_number coverings ≡ true
stand_numbers list coverings g = every_through (one_of list) is_number coverings (λ n e. number_yes n (lists.member list (truth g) n (truth e)))

module _ (height width levels : ℕ) (plane : List ℤ) (coverings list : List ℕ) (numerators : List ℤ) (samples : List ℕ) (scratch : List ℤ) where
  pub rejects_listed : (r : Refusal) → number_of r ≡ restore_listed_refusal height width levels plane coverings list numerators samples scratch → RestoredListed height width levels plane coverings list numerators numerators samples samples scratch scratch (number_of r)
  rejects_listed r e = record { number = e; values = unchanged r _ numerators; image = unchanged r _ samples; zeros = unchanged r _ scratch }

  same_number : is_list list ≡ true → every (one_of list) coverings ≡ true → restore_listed_refusal height width levels plane coverings list numerators samples scratch ≡ restore_refusal height width levels plane coverings numerators samples scratch
  same_number g s = rw (g, s) refl

  unnumbered : T (is_list list) → (k : ℕ) → k < length coverings → (Number (get_or coverings k 0) → ⊥)
      → restore_listed_refusal height width levels plane coverings list numerators samples scratch ≡ frame_refusal height width levels plane coverings numerators samples scratch 5
  unnumbered g k h f = rw (is_true (is_list list) g, is_false (every is_number coverings) (λ t. f (number_at coverings k (is_true (every is_number coverings) t) h))) refl

  missing : T (is_list list) → ((k : ℕ) → k < length coverings → Number (get_or coverings k 0)) → (k : ℕ) → k < length coverings → ((i : ℕ) → i < length list → get_or coverings k 0 ≡ get_or list i 0 → ⊥)
      → restore_listed_refusal height width levels plane coverings list numerators samples scratch ≡ frame_refusal height width levels plane coverings numerators samples scratch 18
  missing g ns k h f = rw (is_true (is_list list) g, is_true (every is_number coverings) (every_number coverings ns), is_false (every (one_of list) coverings) (λ t. let p = stand list coverings t k h in f p.0 p.1 p.2)) refl

  -- with all 117 listed, 5 stands in front of 18
  full_number : is_list list ≡ true → list ≡ all_numbers → restore_listed_refusal height width levels plane coverings list numerators samples scratch ≡ restore_refusal height width levels plane coverings numerators samples scratch
  full_number g e = ap (frame_refusal height width levels plane coverings numerators samples scratch) (rw g (go (every is_number coverings) refl))
    where
      rest : ℕ
      rest = refuse_if (not (in_range levels height width (image_of height plane))) 6 0

      go : (b : Bool) → every is_number coverings ≡ b → refuse_if (not b) 5 (refuse_if (not (every (one_of list) coverings)) 18 rest) ≡ refuse_if (not b) 5 rest
      go false c = refl
      go true c = rw (every_through is_number (one_of list) coverings (λ n t. is_true (one_of list n) (subst⁻¹ (λ (l : List ℕ). T (one_of l n)) e ((lists.all_listed n).1 (is_number_law n t)))) c) refl

-- where the number is that without a list, all is
as_without : (height width levels : ℕ) (plane : List ℤ) (coverings list : List ℕ) (numerators numerators' : List ℤ) (samples samples' : List ℕ) (scratch scratch' : List ℤ) (n : ℕ)
    → restore_listed_refusal height width levels plane coverings list numerators samples scratch ≡ restore_refusal height width levels plane coverings numerators samples scratch
    → RestoredListed height width levels plane coverings list numerators numerators' samples samples' scratch scratch' n ↔ Restored height width levels plane coverings numerators numerators' samples samples' scratch scratch' n
as_without height width levels plane coverings list numerators numerators' samples samples' scratch scratch' n e = (
  (λ d. record { number = d.number ∙ e; values = d.values; image = d.image; zeros = d.zeros }),
  (λ d. record { number = d.number ∙ sym e; values = d.values; image = d.image; zeros = d.zeros }),
)

-- what the checks of the list let through
pub stood : (height width levels : ℕ) (plane : List ℤ) (coverings list : List ℕ) (numerators numerators' : List ℤ) (samples samples' : List ℕ) (scratch scratch' : List ℤ) (n : ℕ)
    → 0 ≡ stand_refusal coverings list 0 → Restored height width levels plane coverings numerators numerators' samples samples' scratch scratch' n → RestoredListed height width levels plane coverings list numerators numerators' samples samples' scratch scratch' n
stood height width levels plane coverings list numerators numerators' samples samples' scratch scratch' n e =
    let g = past (is_list list) 13 e in
    let s = past (every (one_of list) coverings) 17 (past (every is_number coverings) 4 g.1).1 in
    (as_without height width levels plane coverings list numerators numerators' samples samples' scratch scratch' n (same_number height width levels plane coverings list numerators samples scratch g.0 s.0)).1

-- ---- restoring what decomposing left

-- a plane that restoring accepts, cut or not, is accepted
module _ (height width levels : ℕ) (coverings : List ℕ) (numerators : List ℤ) (samples : List ℕ) (scratch : List ℤ) where
  abbrev Accepted : List ℤ → Type 0
  Accepted plane = 0 ≡ restore_refusal height width levels plane coverings numerators samples scratch

  selected : (plane : List ℤ) → Accepted plane → (stay : ℕ → Bool) (n : ℕ) → Accepted (after_call n (slice_of height width (select levels height width stay (image_of height plane))) plane)
  selected plane e stay zero =
      let p = restore_past height width levels plane coverings numerators samples scratch e in
      let f = p.0 in
      let new = select levels height width stay (image_of height plane) in
      let ranged = selected_accepted levels height width f.sizes.some_level f.sizes.fits stay plane p.1.ranges in
      sym
      (restores height width levels (slice_of height width new) coverings numerators samples scratch f.sizes.sided f.sizes.deep (slice_length height width new) f.covered f.numerators_long f.samples_long f.scratch_long
      (is_true _ p.1.numbers) (is_true _ ranged))
  selected plane e stay (suc n) = e

  after_cuts : {plane cut : List ℤ} → Cuts height width levels plane cut → Accepted plane → Accepted cut
  after_cuts uncut e = e
  after_cuts (keep {before} {after} {quota} {n} c k) e = subst⁻¹ Accepted k.planes (selected before (after_cuts c e) _ n)
  after_cuts (threshold {before} {after} {limit} {n} c k) e = subst⁻¹ Accepted k.planes (selected before (after_cuts c e) _ n)

module _ (height width levels tolerance : ℕ) (samples list : List ℕ) (plane plane' : List ℤ) (coverings coverings' : List ℕ) (scratch scratch' : List ℤ) (d : DecomposedListed height width levels tolerance samples list plane plane' coverings coverings' scratch scratch' 0) where
  l : Left (among tolerance list) height width levels samples plane' coverings'
  l = left_of_law height width levels tolerance samples list plane plane' coverings coverings' scratch scratch' d

  own : (cut : List ℤ) → Cuts height width levels plane' cut → (numerators numerators' : List ℤ) (restored restored' : List ℕ) (work work' : List ℤ) (n : ℕ) → length numerators ≡ width * height → length restored ≡ width * height → length work ≡ width * height
      → RestoredListed height width levels cut coverings' list numerators numerators' restored restored' work work' n → n ≡ 0
  own cut cs numerators numerators' restored restored' work work' n a b c r =
      let good = is_true (is_list list) (listed_past height width levels tolerance samples list plane coverings scratch d.number).2 in
      r.number ∙ same_number height width levels cut coverings' list numerators restored work good (is_true (every (one_of list) coverings') l.stand)
      ∙ sym (after_cuts height width levels coverings' numerators restored work cs (sym (l.restores numerators work restored a c b)))

  back : (numerators numerators' : List ℤ) (restored restored' : List ℕ) (work work' : List ℤ) (n : ℕ) → length numerators ≡ width * height → length restored ≡ width * height → length work ≡ width * height
      → RestoredListed height width levels plane' coverings' list numerators numerators' restored restored' work work' n → (n ≡ 0) × (restored' ≡ samples)
  back numerators numerators' restored restored' work work' n a b c r =
      let zero = own plane' uncut numerators numerators' restored restored' work work' n a b c r in
      (zero, r.image ∙ ap (λ (k : ℕ). after_call k (samples_of levels height width coverings' plane') restored) zero ∙ l.exact)

pub laws : ListingLaws
laws = record {
  after = after;
  bad = bad;
  third = λ height width levels plane coverings list numerators samples scratch f. rw (is_false (is_list list) f) refl;
  decomposes = λ height width levels tolerance samples list p small good plane scratch coverings c d e.
      tolerance_passes height width levels tolerance samples plane coverings scratch (found height width levels samples p plane scratch coverings c d e) small _
      ∙ ap (λ (o : Bool). refuse_if (not o) 14 0) (is_true (is_list list) good);
  left = left_of_law;
  back = back;
  full = full;
  unnumbered = unnumbered;
  missing = missing;
  same = λ height width levels plane coverings list numerators numerators' samples samples' scratch scratch' n g s.
      as_without height width levels plane coverings list numerators numerators' samples samples' scratch scratch' n (same_number height width levels plane coverings list numerators samples scratch (is_true (is_list list) g) (stands list coverings s));
  full_restored = λ height width levels plane coverings list numerators numerators' samples samples' scratch scratch' n g k.
      as_without height width levels plane coverings list numerators numerators' samples samples' scratch scratch' n (full_number height width levels plane coverings list numerators samples scratch (is_true (is_list list) g) ((lists.full list g).0 k));
  used = λ height width levels tolerance samples list plane plane' coverings coverings' scratch scratch' d. stand list coverings' (left_of_law height width levels tolerance samples list plane plane' coverings coverings' scratch scratch' d).stand;
  own = λ height width levels tolerance samples list plane plane' cut coverings coverings' scratch scratch' d. own height width levels tolerance samples list plane plane' coverings coverings' scratch scratch' d cut;
}
