-- (3.1) and (3.2) to the letter: the sum over the cells of a piece, each with the sign of its place L, is that of the piece's four values in order.
-- Assumes nothing.
use mathlib.Core.Path.{◌≡◌, refl, sym, ap, ◌∙◌, subst}
use mathlib.Core.Bool.{Bool, true, false, cond}
use mathlib.Core.List.{List, [], ◌∷◌, ◌++◌, append-nil}
use Prim.Native.Nat.{ℕ, zero, suc, ◌+◌, ◌*◌, ◌/◌, ◌%◌, ◌<◌}
use native.Mathlib.Omega.{arith}
use lib.Dec.{T, eqb, eqb→eq}
use lib.IntN.{ℤ, pos, ◌+ℤ◌, ◌*ℤ◌}
use lib.ListN.{length, get_or, length-append, get_or-append}
use lib.Seq.{get_or-append_seam}
use Rattle.integers.specs.Sum.{Σℤ, Σℕ}
use Rattle.integers.proofs.Ring.{k, ◌⊕◌, ring4}
use Rattle.integers.proofs.Sums.{Σ_cong}
use Rattle.coverings.specs.Block.{cells, with_if, filter, name_of}
use Rattle.coverings.specs.Words.{word_of}
use Rattle.coverings.specs.Rule.{Number}
use Rattle.coverings.proofs.Table.{rule}
use Rattle.block.specs.Block.{values_of, shapes_of}
use Rattle.block.proofs.Words.{cell_of, good}
use Rattle.published.specs.Published.{sign, signed, order_in, over_piece, half, coefficient}

-- the cells below n that are in a set, and all of them
abbrev first : (ℕ → Bool) → ℕ → List ℕ
first s zero = []
first s (suc n) = first s n ++ with_if (s n) n []

abbrev below : ℕ → List ℕ
below zero = []
below (suc n) = below n ++ (n ∷ [])

filter_append : (s : ℕ → Bool) (xs ys : List ℕ) → filter s (xs ++ ys) ≡ filter s xs ++ filter s ys
filter_append s [] ys = refl
filter_append s (x ∷ xs) ys = go (s x) (filter_append s xs ys)
  where
    go : (b : Bool) → filter s (xs ++ ys) ≡ filter s xs ++ filter s ys → with_if b x (filter s (xs ++ ys)) ≡ with_if b x (filter s xs) ++ filter s ys
    go true e = ap {B = List ℕ} (λ (l : List ℕ). x ∷ l) e
    go false e = e

first_filter : (s : ℕ → Bool) (n : ℕ) → first s n ≡ filter s (below n)
first_filter s zero = refl
first_filter s (suc n) = ap (λ (l : List ℕ). l ++ with_if (s n) n []) (first_filter s n) ∙ sym (filter_append s (below n) (n ∷ []))

-- how many there are
abbrev count : (ℕ → Bool) → ℕ → ℕ
count s n = Σℕ n (λ b. cond (s b) 1 0)

counted : (s : ℕ → Bool) (n : ℕ) → count s n ≡ length (first s n)
counted s zero = refl
counted s (suc n) = go (s n) (counted s n)
  where
    go : (b : Bool) → count s n ≡ length (first s n) → count s n + cond b 1 0 ≡ length (first s n ++ with_if b n [])
    go true e = let l = length-append (first s n) (n ∷ []) in omega (arith, e, l)
    go false e = let l = length-append (first s n) [] in omega (arith, e, l)

-- a sum over them, each with a factor by how many go before it
in_order : (s : ℕ → Bool) (g v : ℕ → ℤ) (n : ℕ)
    → Σℤ n (λ a. cond (s a) (g (count s a) *ℤ v a) (pos 0)) ≡ Σℤ (length (first s n)) (λ m. g m *ℤ v (get_or (first s n) m 0))
in_order s g v zero = refl
in_order s g v (suc n) = go (s n) (in_order s g v n)
  where
    F : List ℕ
    F = first s n

    over : List ℕ → ℕ → ℤ
    over l m = g m *ℤ v (get_or l m 0)

    longer : length (F ++ (n ∷ [])) ≡ suc (length F)
    longer = let l = length-append F (n ∷ []) in omega (arith, l)

    go : (b : Bool) → Σℤ n (λ a. cond (s a) (g (count s a) *ℤ v a) (pos 0)) ≡ Σℤ (length F) (over F)
        → Σℤ n (λ a. cond (s a) (g (count s a) *ℤ v a) (pos 0)) +ℤ cond b (g (count s n) *ℤ v n) (pos 0) ≡ Σℤ (length (F ++ with_if b n [])) (over (F ++ with_if b n []))
    go true e =
        (λ i. (e ∙ sym (Σ_cong (length F) (over (F ++ (n ∷ []))) (over F) (λ m l. ap (λ (a : ℕ). g m *ℤ v a) (get_or-append F (n ∷ []) 0 m l)))) i
        +ℤ (ap (λ (c : ℕ). g c *ℤ v n) (counted s n) ∙ ap (λ (a : ℕ). g (length F) *ℤ v a) (sym (get_or-append_seam F n [] 0))) i)
        ∙ ap (λ (c : ℕ). Σℤ c (over (F ++ (n ∷ [])))) (sym longer)
    go false e =
        ring4 (λ a b c d. a ⊕ k (pos 0)) (λ a b c d. a) (Σℤ n (λ a. cond (s a) (g (count s a) *ℤ v a) (pos 0))) (pos 0) (pos 0) (pos 0) tt
        ∙ e
        ∙ ap (λ (l : List ℕ). Σℤ (length l) (over l)) (sym (append-nil F))

module _ (n : ℕ) (num : Number n) (p : ℕ) (h : p < 4) where
  abbrev w : List ℕ
  w = word_of n

  -- each piece has four cells
  four : length (filter (shapes_of w p) cells) ≡ 4
  four =
      let c = cell_of w (p * 4 / 4) (p * 4 % 4) in
      let e : name_of w c ≡ p = (good n num).cells.name (p * 4) (omega arith) ∙ quarter p in
      subst (λ (q : ℕ). length (filter (λ a. eqb (name_of w a) q) cells) ≡ 4) e ((rule.valid n num).cuts c ((good n num).cells.below (p * 4) (omega arith))).four
    where
      quarter : (q : ℕ) → q * 4 / 4 ≡ q
      quarter q = omega arith

  to_the_letter : (v : ℕ → ℤ) (l : ℕ) → over_piece w v l p ≡ signed l (values_of (shapes_of w p) v)
  to_the_letter v l =
      Σ_cong 16 (λ a. cond (s a) (sign l (order_in w a) *ℤ v a) (pos 0)) (λ a. cond (s a) (sign l (count s a) *ℤ v a) (pos 0)) (λ a g. same a (s a) (λ t. eqb→eq (name_of w a) p t))
      ∙ in_order s (sign l) v 16
      ∙ ap (λ (l' : List ℕ). Σℤ (length l') (λ m. sign l m *ℤ v (get_or l' m 0))) (first_filter s 16)
      ∙ ap (λ (c : ℕ). Σℤ c (λ m. sign l m *ℤ v (get_or (filter s cells) m 0))) four
    where
      s : ℕ → Bool
      s = shapes_of w p

      same : (a : ℕ) (b : Bool) → (T b → name_of w a ≡ p) → cond b (sign l (order_in w a) *ℤ v a) (pos 0) ≡ cond b (sign l (count s a) *ℤ v a) (pos 0)
      same a true e = ap (λ (q : ℕ). sign l (Σℕ a (λ b. cond (eqb (name_of w b) q) 1 0)) *ℤ v a) (e tt)
      same a false e = refl

  pub equations : (v : ℕ → ℤ) (l : ℕ) → coefficient w v l p ≡ half (over_piece w v l p)
  unfolding coefficient
  equations v l = ap half (sym (to_the_letter v l))
