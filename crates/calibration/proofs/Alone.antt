-- A block that shows a covering has no other cutting of cost 0, so that covering is chosen; and a flat block shows none. Assumes nothing.
use mathlib.Core.Path.{◌≡◌, refl, sym, ap, ◌∙◌, subst, subst⁻¹}
use mathlib.Core.Logic.{◌⊎◌, inl, inr}
use mathlib.Core.Bool.{Bool, cond, ◌||◌}
use mathlib.Core.List.{List, [], ◌∷◌}
use Prim.Native.Nat.{ℕ, zero, suc, ◌+◌, ◌*◌, ◌-◌, ◌<◌}
use native.Mathlib.Omega.{arith}
use native.Mathlib.Decide.{ℕ_discrete}
use lib.Dec.{T, eqb, eqb→eq, ltb, ltb→lt, lt→ltb}
use lib.IntN.{ℤ, pos, nat_abs}
use lib.ListN.{length, get_or}
use Rattle.integers.specs.Lists.{one_of}
use Rattle.integers.specs.Sum.{Σℕ}
use Rattle.integers.proofs.Ring.{ring4, k as lit, ◌⊕◌, ◌⊖◌}
use Rattle.integers.proofs.Sums.{Σℕ_cong}
use Rattle.integers.proofs.Tests.{both, both_left, both_right, either, or_left, or_right, eq→eqb, every_at, every_of, is_false}
use Rattle.coverings.specs.Block.{Cutting, Same, name_of}
use Rattle.coverings.specs.Words.{word_of}
use Rattle.coverings.specs.Rule.{Number}
use Rattle.coverings.proofs.Table.{rule}
use Rattle.block.specs.Block.{sign_row, cost_of, cost_named, shapes_of, pick}
use Rattle.block.proofs.Named.{cutting_cost}
use Rattle.block.proofs.Pick.{cost_cong}
use Rattle.terms.specs.Terms.{among, all_numbers, is_list, cost_at, pick_terms}
use Rattle.terms.proofs.Good.{all_length, all_at, all_good, all_listed}
use Rattle.terms.proofs.All as terms
use Rattle.pyramid.specs.Plane.{Chooser, block_of, chosen_to, covers_after}
use Rattle.pyramid.specs.Slices.{picture_of, covers_of, covers_by}
use Rattle.pyramid.proofs.Choose.{by_terms}
use Rattle.calibration.specs.Card.{card_samples, card_block, only_zero, shows, choices, chosen_steps}
use Rattle.calibration.proofs.Cells.{only_cong, block_at}
use Rattle.calibration.proofs.Others.{number_at}

-- ---- any block
module _ (n : ℕ) (v : ℕ → ℤ) (t : T (only_zero n v)) where
  own : cost_at v n ≡ 0
  unfolding only_zero
  own = eqb→eq (cost_at v n) 0 (both_left (eqb (cost_at v n) 0) _ t)

  others : (m : ℕ) → Number m → T (eqb m n || ltb 0 (cost_at v m))
  unfolding only_zero
  others m h =
      subst (λ (j : ℕ). T (eqb j n || ltb 0 (cost_at v j))) (number_at m h)
      (every_at (λ m. eqb m n || ltb 0 (cost_at v m)) all_numbers 0 (both_right (eqb (cost_at v n) 0) _ t) (m - 1) (omega (arith, all_length)))

  single : (m : ℕ) → Number m → cost_at v m ≡ 0 → m ≡ n
  single m h e = go (either (eqb m n) (ltb 0 (cost_at v m)) (others m h))
    where
      go : T (eqb m n) ⊎ T (ltb 0 (cost_at v m)) → m ≡ n
      go (inl q) = eqb→eq m n q
      go (inr q) = let l = ltb→lt 0 (cost_at v m) q in absurd (omega arith)

  named : (name : ℕ → ℕ) → Cutting name → cost_named name v ≡ 0 → Same name (name_of (word_of n))
  named name c e =
      let r = rule.general name c in
      subst (λ (m : ℕ). Same name (name_of (word_of m))) (single r.0 r.1 (sym (cutting_cost name c v) ∙ e)) r.2

  chosen : (list : List ℕ) → T (is_list list) → T (one_of list n) → (earlier : List ℕ) → pick_terms (among 0 list) earlier v ≡ n
  chosen list g i earlier =
      let w = terms.wins (among 0 list) g earlier v n i in
      single (pick_terms (among 0 list) earlier v) (terms.number (among 0 list) g earlier v) (omega (arith, own, w.near))

  chosen_of_all : Number n → (earlier : List ℕ) → pick earlier v ≡ n
  chosen_of_all h earlier = sym (terms.without earlier v) ∙ chosen all_numbers all_good ((all_listed n).1 h) earlier

-- and a block with no other is one
only_of : (n : ℕ) (v : ℕ → ℤ) → cost_at v n ≡ 0 → ((m : ℕ) → Number m → cost_at v m ≡ 0 → m ≡ n) → T (only_zero n v)
unfolding only_zero
only_of n v e h = both (eqb (cost_at v n) 0) _ (eq→eqb e) (every_of test all_numbers 0 (λ i l. subst⁻¹ (λ (m : ℕ). T (test m)) (all_at i (omega (arith, all_length))) (go i l (ℕ_discrete (suc i) n))))
  where
    test : ℕ → Bool
    test m = eqb m n || ltb 0 (cost_at v m)

    go : (i : ℕ) → i < length all_numbers → Dec (suc i ≡ n) → T (test (suc i))
    go i l (yes q) = or_left (eqb (suc i) n) (ltb 0 (cost_at v (suc i))) (eq→eqb q)
    go i l (no q) =
        let c : cost_at v (suc i) ≡ 0 → ⊥ = (λ z. q (h (suc i) (omega arith, omega (arith, all_length)) z)) in
        or_right (eqb (suc i) n) (ltb 0 (cost_at v (suc i))) (lt→ltb 0 (cost_at v (suc i)) (omega (arith, c)))

-- ---- a card
pub enough : (n : ℕ) (s : List ℕ) → cost_at (card_block (word_of n) s) n ≡ 0 → ((m : ℕ) → Number m → cost_at (card_block (word_of n) s) m ≡ 0 → m ≡ n) → T (shows n s)
unfolding shows
enough n s = only_of n (card_block (word_of n) s)

-- the coverings of a picture of one block are the rule's one choice
one_block : (rule : ℕ → Chooser) (samples : List ℕ) → covers_after rule 0 [] 1 4 4 (picture_of 4 samples) ≡ rule 1 [] (block_of (picture_of 4 samples) 0 0) ∷ []
unfolding covers_after chosen_to
one_block rule samples = refl

module _ (n : ℕ) (s : List ℕ) (t : T (shows n s)) where
  block_shows : T (only_zero n (card_block (word_of n) s))
  unfolding shows
  block_shows = t

  pub zero_cost : cost_at (card_block (word_of n) s) n ≡ 0
  zero_cost = own n (card_block (word_of n) s) block_shows

  pub alone : (m : ℕ) → Number m → cost_at (card_block (word_of n) s) m ≡ 0 → m ≡ n
  alone = single n (card_block (word_of n) s) block_shows

  pub alone_named_law : (name : ℕ → ℕ) → Cutting name → cost_named name (card_block (word_of n) s) ≡ 0 → Same name (name_of (word_of n))
  alone_named_law = named n (card_block (word_of n) s) block_shows

  pub picked : (list : List ℕ) → T (is_list list) → T (one_of list n) → (earlier : List ℕ) → pick_terms (among 0 list) earlier (card_block (word_of n) s) ≡ n
  picked = chosen n (card_block (word_of n) s) block_shows

  pub picked_of_all_law : Number n → (earlier : List ℕ) → pick earlier (card_block (word_of n) s) ≡ n
  picked_of_all_law = chosen_of_all n (card_block (word_of n) s) block_shows

  -- a block of an image with the cells of the card
  module _ (A : ℕ → ℕ → ℤ) (i j : ℕ) (same : (y x : ℕ) → y < 4 → x < 4 → A (i * 4 + y) (j * 4 + x) ≡ picture_of 4 (card_samples (word_of n) s) y x) where
    pub shown-there : T (only_zero n (block_of A i j))
    shown-there = subst⁻¹ T (only_cong n (block_of A i j) (card_block (word_of n) s) (block_at (word_of n) s A i j same)) block_shows

    pub own-there : cost_at (block_of A i j) n ≡ 0
    own-there = own n (block_of A i j) shown-there

    pub alone-there : (m : ℕ) → Number m → cost_at (block_of A i j) m ≡ 0 → m ≡ n
    alone-there = single n (block_of A i j) shown-there

  -- the block as a picture of its own
  here : T (only_zero n (block_of (picture_of 4 (card_samples (word_of n) s)) 0 0))
  here =
      shown-there (picture_of 4 (card_samples (word_of n) s)) 0 0
      (λ y x h g. let a : 0 * 4 + y ≡ y = omega arith in let b : 0 * 4 + x ≡ x = omega arith in λ i. picture_of 4 (card_samples (word_of n) s) (a i) (b i))

  pub decomposed : (list : List ℕ) → T (is_list list) → T (one_of list n) → covers_by (among 0 list) 1 4 4 (card_samples (word_of n) s) ≡ n ∷ []
  decomposed list g i = one_block (by_terms (among 0 list)) (card_samples (word_of n) s) ∙ ap (λ (m : ℕ). m ∷ []) (chosen n _ here list g i [])

  pub decomposed_of_all_law : Number n → covers_of 1 4 4 (card_samples (word_of n) s) ≡ n ∷ []
  decomposed_of_all_law h = one_block (λ r. pick) (card_samples (word_of n) s) ∙ ap (λ (m : ℕ). m ∷ []) (chosen_of_all n _ here h [])

-- ---- one step
-- a row of equal values is 0
flat_row : (z : ℤ) (b : ℕ) → b < 3 → sign_row (suc b) (λ i. z) ≡ pos 0
flat_row z zero h = ring4 (λ a b c d. a ⊕ a ⊖ a ⊖ a) (λ a b c d. lit (pos 0)) z z z z tt
flat_row z (suc zero) h = ring4 (λ a b c d. a ⊖ a ⊕ a ⊖ a) (λ a b c d. lit (pos 0)) z z z z tt
flat_row z (suc (suc zero)) h = ring4 (λ a b c d. a ⊖ a ⊖ a ⊕ a) (λ a b c d. lit (pos 0)) z z z z tt
flat_row z (suc (suc (suc b))) h = absurd (omega arith)

flat_cost : (shape : ℕ → ℕ → Bool) (z : ℤ) → cost_of shape (λ a. z) ≡ 0
unfolding cost_of
flat_cost shape z =
    let row : Σℕ 3 (λ b. nat_abs (sign_row (suc b) (λ i. z))) ≡ 0 = Σℕ_cong 3 (λ b. nat_abs (sign_row (suc b) (λ i. z))) (λ b. 0) (λ b h. ap nat_abs (flat_row z b h)) in
    Σℕ_cong 4 (λ p. Σℕ 3 (λ b. nat_abs (sign_row (suc b) (λ i. z)))) (λ p. 0) (λ p h. row)

module _ (n a : ℕ) (h : Number n) where
  -- the block of four equal steps
  flat_at : (c : ℕ) → c < 16 → card_block (word_of n) (a ∷ a ∷ a ∷ a ∷ []) c ≡ pos a
  flat_at c l = go (name_of (word_of n) c) ((rule.valid n h).names c l)
    where
      go : (p : ℕ) → p < 4 → pos (get_or (a ∷ a ∷ a ∷ a ∷ []) p 0) ≡ pos a
      go zero k = refl
      go (suc zero) k = refl
      go (suc (suc zero)) k = refl
      go (suc (suc (suc zero))) k = refl
      go (suc (suc (suc (suc p)))) k = absurd (omega arith)

  free : (m : ℕ) → cost_at (card_block (word_of n) (a ∷ a ∷ a ∷ a ∷ [])) m ≡ 0
  free m = cost_cong (shapes_of (word_of m)) _ (λ c. pos a) flat_at ∙ flat_cost (shapes_of (word_of m)) (pos a)

  flat_hides : T (shows n (a ∷ a ∷ a ∷ a ∷ [])) → ⊥
  flat_hides t =
      let one = alone n (a ∷ a ∷ a ∷ a ∷ []) t 1 (omega arith, omega arith) (free 1) in
      let two = alone n (a ∷ a ∷ a ∷ a ∷ []) t 2 (omega arith, omega arith) (free 2) in
      omega arith

  pub one_step_law : chosen_steps n (a ∷ []) ≡ []
  unfolding chosen_steps choices
  one_step_law = ap (λ (b : Bool). cond b (a ∷ a ∷ a ∷ a ∷ []) []) (is_false (shows n (a ∷ a ∷ a ∷ a ∷ [])) flat_hides)
