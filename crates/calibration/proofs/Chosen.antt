-- The choices of steps in their order, and the first that passes a test. Assumes nothing.
use mathlib.Core.Path.{◌≡◌, refl, sym, ap, ◌∙◌, subst, subst⁻¹}
use mathlib.Core.Bool.{Bool, true, false, not, cond, ◌&&◌}
use mathlib.Core.List.{List, [], ◌∷◌, ◌++◌}
use Prim.Native.Nat.{ℕ, zero, suc, ◌+◌, ◌*◌, ◌<◌}
use native.Mathlib.Nat.{le_of_suc-le-suc, not-suc-le-zero}
use native.Mathlib.Omega.{arith}
use lib.Dec.{T, eqb, eqb→eq}
use lib.ListN.{length, get_or, length-append, get_or-append}
use lib.Arith.{digits_lt}
use lib.Seq.{get_or-append-add}
use Rattle.integers.specs.Lists.{every, one_of}
use Rattle.integers.proofs.Tests.{both, both_left, both_right, or_left, or_right, eq→eqb, every_at, every_append, refused}
use Rattle.coverings.specs.Block.{name_of}
use Rattle.coverings.specs.Words.{word_of}
use Rattle.coverings.specs.Rule.{Number}
use Rattle.coverings.proofs.Table.{rule}
use Rattle.calibration.specs.Card.{card_samples, shows, each, choices, first, chosen_steps, some}
use Rattle.calibration.specs.Laws.{FirstOne}
use Rattle.calibration.proofs.Cells.{samples_at}

-- ---- lists of equal length, one after the other
module _ {B : Type 0} (f : ℕ → List B) (m : ℕ) (e : (x : ℕ) → length (f x) ≡ m) where
  each_length : (l : List ℕ) → length (each l f) ≡ length l * m
  each_length [] = omega arith
  each_length (x ∷ l) = length-append (f x) (each l f) ∙ (λ t. e x t + each_length l t) ∙ more (length l)
    where
      more : (n : ℕ) → m + n * m ≡ suc n * m
      more n = omega arith

  each_at : (l : List ℕ) (i r : ℕ) (d : B) → i < length l → r < m → get_or (each l f) (i * m + r) d ≡ get_or (f (get_or l i 0)) r d
  each_at [] i r d h g = absurd (not-suc-le-zero h)
  each_at (x ∷ l) zero r d h g =
      let k : 0 * m + r ≡ r = omega arith in
      ap (λ (n : ℕ). get_or (f x ++ each l f) n d) k ∙ get_or-append (f x) (each l f) d r (omega (arith, e x))
  each_at (x ∷ l) (suc i) r d h g =
      let k : suc i * m + r ≡ length (f x) + (i * m + r) = omega (arith, e x) in
      ap (λ (n : ℕ). get_or (f x ++ each l f) n d) k ∙ get_or-append-add (f x) (each l f) (i * m + r) d ∙ each_at l i r d (le_of_suc-le-suc h) g

module _ (l : List ℕ) where
  abbrev m : ℕ
  m = length l

  abbrev four : ℕ → ℕ → ℕ → ℕ → List (List ℕ)
  four x y z t = (x ∷ y ∷ z ∷ t ∷ []) ∷ []

  three_length : (x y z : ℕ) → length (each l (four x y z)) ≡ m
  three_length x y z = let r = each_length (four x y z) 1 (λ t. refl) l in omega arith

  two_length : (x y : ℕ) → length (each l (λ z. each l (four x y z))) ≡ m * m
  two_length x y = each_length (λ z. each l (four x y z)) m (three_length x y) l

  one_length : (x : ℕ) → length (each l (λ y. each l (λ z. each l (four x y z)))) ≡ m * (m * m)
  one_length x = each_length (λ y. each l (λ z. each l (four x y z))) (m * m) (two_length x) l

  pub choices_at : (i j p q : ℕ) → i < m → j < m → p < m → q < m
      → get_or (choices l) (((i * m + j) * m + p) * m + q) [] ≡ get_or l i 0 ∷ get_or l j 0 ∷ get_or l p 0 ∷ get_or l q 0 ∷ []
  unfolding choices
  choices_at i j p q hi hj hp hq =
      let place : ((i * m + j) * m + p) * m + q ≡ i * (m * (m * m)) + (j * (m * m) + (p * m + (q * 1 + 0))) = omega arith in
      let last : q * 1 + 0 < m = omega arith in
      let low : p * m + (q * 1 + 0) < m * m = digits_lt hp last in
      let mid : j * (m * m) + (p * m + (q * 1 + 0)) < m * (m * m) = digits_lt hj low in
      let x = get_or l i 0 in
      let y = get_or l j 0 in
      let z = get_or l p 0 in
      ap (λ (n : ℕ). get_or (choices l) n []) place
      ∙ each_at (λ x. each l (λ y. each l (λ z. each l (four x y z)))) (m * (m * m)) one_length l i (j * (m * m) + (p * m + (q * 1 + 0))) [] hi mid
      ∙ each_at (λ y. each l (λ z. each l (four x y z))) (m * m) (two_length x) l j (p * m + (q * 1 + 0)) [] hj low
      ∙ each_at (λ z. each l (four x y z)) m (three_length x y) l p (q * 1 + 0) [] hp last
      ∙ each_at (four x y z) 1 (λ t. refl) l q 0 [] hq (omega arith)

  pub choices_count : length (choices l) ≡ m * (m * (m * m))
  unfolding choices
  choices_count = each_length (λ x. each l (λ y. each l (λ z. each l (four x y z)))) (m * (m * m)) one_length l

-- ---- each choice has four entries, which are steps
every_each : {B : Type 0} (g : B → Bool) (l : List ℕ) (f : ℕ → List B) → ((x : ℕ) → T (one_of l x) → T (every g (f x))) → T (every g (each l f))
every_each g [] f h = tt
every_each g (y ∷ l) f h =
    subst⁻¹ T (every_append g (f y) (each l f))
    (both (every g (f y)) (every g (each l f)) (h y (or_left (eqb y y) (one_of l y) (eq→eqb {a = y} {b = y} refl))) (every_each g l f (λ x o. h x (or_right (eqb x y) (one_of l x) o))))

module _ (l : List ℕ) where
  abbrev made : List ℕ → Bool
  made s = eqb (length s) 4 && every (one_of l) s

  all_made : T (every made (choices l))
  unfolding choices
  all_made =
      every_each made l _ (λ a ha. every_each made l _ (λ b hb. every_each made l _ (λ c hc. every_each made l _ (λ d hd.
      both (made (a ∷ b ∷ c ∷ d ∷ [])) true
      (both (one_of l a) _ ha (both (one_of l b) _ hb (both (one_of l c) _ hc (both (one_of l d) true hd tt)))) tt))))

  made_at : (k : ℕ) → k < length (choices l) → T (made (get_or (choices l) k []))
  made_at k h = every_at made (choices l) [] all_made k h

-- ---- the first that passes a test
module _ (test : List ℕ → Bool) where
  abbrev Passes : List (List ℕ) → Type 0
  Passes xs = (k : ℕ) × (k < length xs) × (first test xs ≡ get_or xs k []) × T (test (get_or xs k [])) × ((j : ℕ) → j < k → T (not (test (get_or xs j []))))

  passes : (xs : List (List ℕ)) → T (some (first test xs)) → Passes xs
  passes [] t = absurd t
  passes (s ∷ ss) t = go (test s) refl (passes ss)
    where
      go : (b : Bool) → test s ≡ b → (T (some (first test ss)) → Passes ss) → Passes (s ∷ ss)
      go true e ih = (0, omega arith, ap (λ (b : Bool). cond b s (first test ss)) e, subst T (sym e) tt, λ j h. absurd (omega arith))
      go false e ih =
          let skip : first test (s ∷ ss) ≡ first test ss = ap (λ (b : Bool). cond b s (first test ss)) e in
          let r = ih (subst (λ (x : List ℕ). T (some x)) skip t) in
          (suc r.0, omega (arith, r.1), skip ∙ r.2, r.3, earlier e r.0 r.4)
        where
          earlier : test s ≡ false → (k : ℕ) → ((j : ℕ) → j < k → T (not (test (get_or ss j [])))) → (j : ℕ) → j < suc k → T (not (test (get_or (s ∷ ss) j [])))
          earlier e k f zero h = subst (λ (b : Bool). T (not b)) (sym e) tt
          earlier e k f (suc j) h = f j (omega arith)

  fails : (xs : List (List ℕ)) → ((k : ℕ) → k < length xs → T (some (get_or xs k []))) → T (not (some (first test xs))) → (k : ℕ) → k < length xs → T (not (test (get_or xs k [])))
  fails [] full t k h = absurd (not-suc-le-zero h)
  fails (s ∷ ss) full t k h = go (test s) refl (fails ss (λ j g. full (suc j) (omega arith)))
    where
      go : (b : Bool) → test s ≡ b → (T (not (some (first test ss))) → (j : ℕ) → j < length ss → T (not (test (get_or ss j [])))) → T (not (test (get_or (s ∷ ss) k [])))
      go true e ih =
          let here : first test (s ∷ ss) ≡ s = ap (λ (b : Bool). cond b s (first test ss)) e in
          absurd (refused (some s) (subst (λ (x : List ℕ). T (not (some x))) here t) (full 0 (omega arith)))
      go false e ih = at k h
        where
          skip : first test (s ∷ ss) ≡ first test ss
          skip = ap (λ (b : Bool). cond b s (first test ss)) e

          at : (j : ℕ) → j < suc (length ss) → T (not (test (get_or (s ∷ ss) j [])))
          at zero g = subst (λ (b : Bool). T (not b)) (sym e) tt
          at (suc j) g = ih (subst (λ (x : List ℕ). T (not (some x))) skip t) j (omega arith)

module _ (n : ℕ) (l : List ℕ) where
  pub first_one : T (some (chosen_steps n l)) → FirstOne n l
  unfolding chosen_steps
  first_one t =
      let r = passes (shows n) (choices l) t in
      record { k = r.0; inside = r.1; here = r.2; shown = subst (λ (s : List ℕ). T (shows n s)) (sym r.2) r.3; none_before = r.4 }

  pub none_shows : T (not (some (chosen_steps n l))) → (k : ℕ) → k < length (choices l) → T (not (shows n (get_or (choices l) k [])))
  unfolding chosen_steps
  none_shows t = fails (shows n) (choices l) (λ k h. full (get_or (choices l) k []) (both_left (eqb (length (get_or (choices l) k [])) 4) _ (made_at l k h))) t
    where
      full : (s : List ℕ) → T (eqb (length s) 4) → T (some s)
      full [] q = q
      full (x ∷ s) q = tt

  -- ---- the samples
  chosen_made : T (some (chosen_steps n l)) → T (made l (chosen_steps n l))
  chosen_made t = let r = first_one t in subst (λ (s : List ℕ). T (made l s)) (sym r.here) (made_at l r.k r.inside)

  pub samples_steps : Number n → T (some (chosen_steps n l)) → (a : ℕ) → a < 16 → T (one_of l (get_or (card_samples (word_of n) (chosen_steps n l)) a 0))
  samples_steps h t a g =
      let s = chosen_steps n l in
      let u = chosen_made t in
      let len : length s ≡ 4 = eqb→eq (length s) 4 (both_left (eqb (length s) 4) _ u) in
      let p = (rule.valid n h).names a g in
      rw (samples_at (word_of n) s a g) (every_at (one_of l) s 0 (both_right (eqb (length s) 4) _ u) (name_of (word_of n) a) (omega arith))
