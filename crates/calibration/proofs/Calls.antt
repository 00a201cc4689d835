-- The laws of the calls of show: what a call left that found no block, and what decomposing finds in a block that was written. Assumes nothing.
use mathlib.Core.Path.{◌≡◌, sym, ap, ◌∙◌, subst, subst⁻¹}
use mathlib.Core.Bool.{Bool, true, false, cond}
use mathlib.Core.List.{List, [], ◌∷◌}
use Prim.Native.Nat.{ℕ, zero, suc, ◌+◌, ◌*◌, ◌/◌, ◌^◌, ◌<◌, ◌≤◌}
use native.Mathlib.Omega.{arith}
use native.Mathlib.Nat.{zero-add}
use lib.Dec.{T, le→leb}
use lib.IntN.{ℤ, pos}
use lib.ListN.{length, get_or, replicate, length-replicate}
use Rattle.refusals.specs.Refusal.{after_call}
use Rattle.integers.specs.Lists.{every}
use Rattle.integers.proofs.Index.{index_bound}
use Rattle.integers.proofs.Tests.{is_true, every_of, one_of_at}
use Rattle.coverings.specs.Entry.{is_number}
use Rattle.coverings.specs.Rule.{Number}
use Rattle.coverings.specs.Words.{word_of}
use Rattle.coverings.proofs.Checks.{number_at}
use Rattle.terms.specs.Terms.{Terms, cost_at}
use Rattle.terms.specs.Laws.{InList}
use Rattle.pyramid.specs.Plane.{all_blocks, block_of}
use Rattle.pyramid.specs.Near.{Near}
use Rattle.pyramid.specs.Sides.{is_sides}
use Rattle.pyramid.specs.Slices.{picture_of}
use Rattle.coder.specs.Claims.{Picture, Left}
use Rattle.coder.specs.Entries.{is_sample}
use Rattle.coder.proofs.Gates.{restorable_past}
use Rattle.calibration.specs.Card.{card_samples, chosen_steps, some, are_steps}
use Rattle.calibration.specs.Entry.{ShownAnswered}
use Rattle.calibration.specs.Claims.{ShowLaws}
use Rattle.calibration.proofs.Alone.{own-there, alone-there, one_step_law}
use Rattle.calibration.proofs.Cells.{samples_length}
use Rattle.calibration.proofs.Chosen.{first_one, samples_steps}
use Rattle.calibration.proofs.Gates.{good_steps, checks, show_past}

-- ---- a call without a block, and one with a block: b tells whether there is a choice
module _ (new old left : List ℕ) where
  no_block : (b : Bool) (n : ℕ) → ◌≡◌ {A = ℕ} 0 (after_call n (cond b 1 0) 0) → left ≡ after_call n (cond b new old) old → left ≡ old
  no_block b (suc n) e g = g
  no_block false zero e g = g
  no_block true zero e g = absurd (omega arith)

  a_block : (b : Bool) (n : ℕ) → ◌≡◌ {A = ℕ} 1 (after_call n (cond b 1 0) 0) → left ≡ after_call n (cond b new old) old → (0 ≡ n) × T b × (left ≡ new)
  a_block b (suc n) e g = absurd (omega arith)
  a_block false zero e g = absurd (omega arith)
  a_block true zero e g = (omega arith, tt, g)

-- one step, no block
one_call : (covering step : ℕ) (samples samples' : List ℕ) (n flag : ℕ) → ShownAnswered covering (step ∷ []) samples samples' n flag → flag ≡ 0
one_call covering step samples samples' zero flag r =
    let p = show_past covering (step ∷ []) samples r.number in
    r.found ∙ ap (λ (l : List ℕ). cond (some l) 1 0) (one_step_law covering step p.1)
one_call covering step samples samples' (suc n) flag r = r.found

module _ (covering : ℕ) (steps samples samples' : List ℕ) (n : ℕ) where
  untouched : ShownAnswered covering steps samples samples' n 0 → samples' ≡ samples
  untouched r = no_block (card_samples (word_of covering) (chosen_steps covering steps)) samples samples' (some (chosen_steps covering steps)) n r.found r.slice

  module _ (r : ShownAnswered covering steps samples samples' n 1) where
    abbrev s : List ℕ
    s = chosen_steps covering steps

    written : (0 ≡ n) × T (some s) × (samples' ≡ card_samples (word_of covering) s)
    written = a_block (card_samples (word_of covering) s) samples samples' (some s) n r.found r.slice

    passed : (length samples ≡ 16) × Number covering × T (are_steps steps)
    passed = show_past covering steps samples (written.0 ∙ r.number)

    small : (k : ℕ) → k < 16 → get_or (card_samples (word_of covering) s) k 0 ≤ 4095
    small k h =
        let p = one_of_at steps _ (samples_steps covering steps passed.1 written.1 k h) in
        omega (arith, p.2, ((good_steps steps).0 passed.2).range p.0 p.1)

    picture : Picture 4 4 1 samples'
    unfolding is_sides
    picture = subst⁻¹ (Picture 4 4 1) written.2 (record {
      issides = tt;
      isdepth = tt;
      long = samples_length (word_of covering) s;
      small = every_of is_sample (card_samples (word_of covering) s) 0 (λ k h. le→leb _ 4095 (small k (omega (arith, samples_length (word_of covering) s))));
    })

    -- a block of a picture that was decomposed
    module _ (t : Terms) (exact : t.tolerance ≡ 0) (held : InList t covering)
        (height width levels : ℕ) (image : List ℕ) (plane : List ℤ) (coverings : List ℕ) (d : Left t height width levels image plane coverings)
        (i j : ℕ) (hi : i < height / 4) (hj : j < width / 4)
        (same : (y x : ℕ) → y < 4 → x < 4 → picture_of height image (i * 4 + y) (j * 4 + x) ≡ picture_of 4 samples' y x) where
      abbrev k : ℕ
      k = j * (height / 4) + i

      abbrev v : ℕ → ℤ
      v = block_of (picture_of height image) i j

      -- restoring would accept it, so its coverings are numbers, one for each block
      numbered : (length coverings ≡ all_blocks levels height width) × (1 ≤ levels) × (every is_number coverings ≡ true)
      numbered =
          let room = replicate (width * height) (pos 0) in
          let blank = replicate {A = ℕ} (width * height) 0 in
          let r = restorable_past height width levels plane coverings room blank room (sym (d.restores room room blank (length-replicate (width * height) (pos 0)) (length-replicate (width * height) (pos 0)) (length-replicate (width * height) 0))) in
          (r.0.0.covered, r.0.0.sizes.some_level, is_true (every is_number coverings) r.0.1.numbers)

      -- its own at level 1: it is there, and near each that is listed
      at_one : (R : ℕ) → 1 ≤ R → length coverings ≡ all_blocks R height width → Near t R height width coverings (picture_of height image)
          → (k < length coverings) × (cost_at v (get_or coverings k 0) ≤ cost_at v covering + t.tolerance * 2 ^ 1)
      at_one zero l e near = absurd (omega arith)
      at_one (suc R) l e near = (
        omega (arith, index_bound j i (width / 4) (height / 4) hj hi),
        subst (λ (m : ℕ). cost_at v (get_or coverings m 0) ≤ cost_at v covering + t.tolerance * 2 ^ 1) (zero-add k) (near.0 i j hi hj covering held),
      )

      chosen : get_or coverings k 0 ≡ covering
      chosen =
          let f = (first_one covering steps written.1).shown in
          let cells = subst (λ (l : List ℕ). (y x : ℕ) → y < 4 → x < 4 → picture_of height image (i * 4 + y) (j * 4 + x) ≡ picture_of 4 l y x) written.2 same in
          let near = at_one levels numbered.1 numbered.0 d.near in
          let own = own-there covering s f (picture_of height image) i j cells in
          alone-there covering s f (picture_of height image) i j cells (get_or coverings k 0) (number_at coverings k numbered.2 near.0) (omega (arith, near.1, own, exact))

pub laws : ShowLaws
laws = record {
  checks = checks;
  untouched = untouched;
  one_step = one_call;
  picture = picture;
  chosen = chosen;
}
