-- The checks of the entry show: the number of each call by what is found, and what is found where none refuses; what a refused and an accepted call leave.
-- Assumes nothing.
use mathlib.Core.Path.{◌≡◌, refl}
use mathlib.Core.Logic.{◌↔◌}
use mathlib.Core.Bool.{Bool, true, not}
use mathlib.Core.List.{List, [], ◌∷◌}
use Prim.Native.Nat.{ℕ}
use native.Mathlib.Omega.{arith}
use borrow.Author.Tests.{eqb-true}
use lib.Dec.{T, eqb, ltb, ltb→lt, lt→ltb, leb, leb→le, le→leb}
use lib.ListN.{length, get_or}
use Rattle.refusals.specs.Refusal.{number_of, refuse_if}
use Rattle.refusals.specs.declared.Refusal.{Refusal}
use Rattle.refusals.proofs.After.{unchanged, past}
use Rattle.integers.proofs.Tests.{is_true, is_false, both, both_left, both_right, eq→eqb, every_at, every_of}
use Rattle.coverings.specs.Words.{word_of}
use Rattle.coverings.specs.Rule.{Number}
use Rattle.coverings.specs.Entry.{is_number}
use Rattle.coverings.proofs.Checks.{number_yes, number_no, is_number_law}
use Rattle.terms.specs.Terms.{rises}
use Rattle.terms.proofs.Good.{rises_at, rises_all}
use Rattle.calibration.specs.Card.{card_samples, chosen_steps, are_steps}
use Rattle.calibration.specs.Entry.{show_refusal, ShownAnswered}
use Rattle.calibration.specs.Laws.{GoodSteps}
use Rattle.calibration.specs.Claims.{ShowChecks}

-- ---- the steps, by their places
module _ (l : List ℕ) where
  good : T (are_steps l) → GoodSteps l
  good t =
      let a = both_right (ltb 0 (length l)) _ t in
      let b = both_right (leb (length l) 4) _ a in
      record {
        one = ltb→lt 0 (length l) (both_left (ltb 0 (length l)) _ t);
        four = leb→le (length l) 4 (both_left (leb (length l) 4) _ a);
        rising = rises_at l (both_left (rises l) _ b);
        range = λ k h. leb→le (get_or l k 0) 4095 (every_at (λ s. leb s 4095) l 0 (both_right (rises l) _ b) k h);
      }

  tested : GoodSteps l → T (are_steps l)
  tested g =
      both (ltb 0 (length l)) _ (lt→ltb 0 (length l) g.one)
      (both (leb (length l) 4) _ (le→leb (length l) 4 g.four)
      (both (rises l) _ (rises_all l g.rising)
      (every_of (λ s. leb s 4095) l 0 (λ k h. le→leb (get_or l k 0) 4095 (g.range k h)))))

  pub good_steps : T (are_steps l) ↔ GoodSteps l
  good_steps = (good, tested)

-- ---- the checks, by what each finds
abbrev chain : Bool → Bool → Bool → ℕ
chain framed numbered stepped = refuse_if (not framed) 3 (refuse_if (not numbered) 5 (refuse_if (not stepped) 21 0))

module _ (covering : ℕ) (steps samples : List ℕ) where
  abbrev framed : Bool
  framed = eqb (length samples) 16

  in_frame : length samples ≡ 16 → framed ≡ true
  in_frame e = is_true framed (eq→eqb e)

  pub checks : ShowChecks covering steps samples
  checks = record {
    frame = λ f i. chain (is_false framed (λ t. f (eqb-true _ _ (is_true framed t))) i) (is_number covering) (are_steps steps);
    tile = λ e f i. chain (in_frame e i) (number_no covering f i) (are_steps steps);
    greys = λ e h f i. chain (in_frame e i) (number_yes covering h i) (is_false (are_steps steps) (λ t. f (good steps t)) i);
    accepted = λ e h g i. chain (in_frame e i) (number_yes covering h i) (is_true (are_steps steps) (tested steps g) i);
  }

  -- what is found where none refuses
  pub show_past : 0 ≡ show_refusal covering steps samples → (length samples ≡ 16) × Number covering × T (are_steps steps)
  show_past e =
      let a = past framed 2 e in
      let b = past (is_number covering) 4 a.1 in
      let c = past (are_steps steps) 20 b.1 in
      (eqb-true _ _ a.0, is_number_law covering b.0, rw c.0 tt)

  -- ---- each return of the entry
  pub refuses : (r : Refusal) → number_of r ≡ show_refusal covering steps samples → ShownAnswered covering steps samples samples (number_of r) 0
  refuses r e = record { number = e; found = unchanged r _ 0; slice = unchanged r _ samples }

  module _ (e : 0 ≡ show_refusal covering steps samples) where
    pub shown : (s new : List ℕ) → length s ≡ 4 → s ≡ chosen_steps covering steps → new ≡ card_samples (word_of covering) s → ShownAnswered covering steps samples new 0 1
    shown [] new l g p = absurd (omega arith)
    shown (x ∷ s) new l g p = record { number = e; found = rw (← g) refl; slice = rw (← g) p }

    pub nothing : [] ≡ chosen_steps covering steps → ShownAnswered covering steps samples samples 0 0
    nothing g = record { number = e; found = rw (← g) refl; slice = rw (← g) refl }
