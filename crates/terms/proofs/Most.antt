-- The least over a list, and the first of the greatest: what they are, over bare lists and functions. Assumes nothing.
use mathlib.Core.Path.{◌≡◌, refl, ap, subst, subst⁻¹}
use mathlib.Core.Logic.{◌⊎◌, inl, inr}
use mathlib.Core.Bool.{Bool, true, false, cond, ◌||◌}
use mathlib.Core.List.{List, [], ◌∷◌}
use Prim.Native.Nat.{ℕ, ◌+◌, ◌≤◌, ◌<◌}
use native.Mathlib.Omega.{arith}
use native.Mathlib.Nat.{le_refl, le_trans}
use borrow.Author.Tests.{ltb-true, ltb-false}
use lib.Dec.{T, eqb, eqb→eq, eqb_refl, ltb, ltb→lt, lt→ltb, leb, leb→le, le→leb}
use lib.ListN.{length}
use Rattle.integers.specs.Lists.{one_of}
use Rattle.integers.proofs.Tests.{both_left, both_right, both, either, or_left, or_right}
use Rattle.coverings.specs.Block.{filter, with_if}
use Rattle.coverings.proofs.Lists.{mem, filter_in, in_filter}
use Rattle.terms.specs.Terms.{rises_from, least_from, least_over, most_from, first_most}

-- ---- membership
pub one_of_mem : (l : List ℕ) (n : ℕ) → one_of l n ≡ mem n l
one_of_mem [] n = refl
one_of_mem (k ∷ l) n = ap (λ (b : Bool). eqb n k || b) (one_of_mem l n)

in_cons : (n x : ℕ) (l : List ℕ) → T (mem n (x ∷ l)) → (n ≡ x) ⊎ T (mem n l)
in_cons n x l t = go (either (eqb n x) (mem n l) t)
  where
    go : T (eqb n x) ⊎ T (mem n l) → (n ≡ x) ⊎ T (mem n l)
    go (inl e) = inl (eqb→eq n x e)
    go (inr m) = inr m

here : (x : ℕ) (l : List ℕ) → T (mem x (x ∷ l))
here x l = or_left (eqb x x) (mem x l) (eqb_refl x)

there : (n x : ℕ) (l : List ℕ) → T (mem n l) → T (mem n (x ∷ l))
there n x l m = or_right (eqb n x) (mem n l) m

-- ---- the least
lesser : (a x : ℕ) → (cond (ltb a x) a x ≤ a) × (cond (ltb a x) a x ≤ x)
lesser a x = go (ltb a x) refl
  where
    go : (b : Bool) → ltb a x ≡ b → (cond b a x ≤ a) × (cond b a x ≤ x)
    go true e = (le_refl a, omega (arith, ltb-true a x e))
    go false e = (ltb-false a x e, le_refl x)

least_start : (f : ℕ → ℕ) (x : ℕ) (l : List ℕ) → least_from f x l ≤ x
least_start f x [] = le_refl x
least_start f x (n ∷ l) = le_trans (least_start f (cond (ltb (f n) x) (f n) x) l) (lesser (f n) x).1

least_each : (f : ℕ → ℕ) (x : ℕ) (l : List ℕ) (n : ℕ) → T (mem n l) → least_from f x l ≤ f n
least_each f x [] n m = absurd m
least_each f x (k ∷ l) n m = go (least_each f (cond (ltb (f k) x) (f k) x) l n) (in_cons n k l m)
  where
    go : (T (mem n l) → least_from f (cond (ltb (f k) x) (f k) x) l ≤ f n) → (n ≡ k) ⊎ T (mem n l) → least_from f (cond (ltb (f k) x) (f k) x) l ≤ f n
    go ih (inl e) = rw e (le_trans (least_start f (cond (ltb (f k) x) (f k) x) l) (lesser (f k) x).0)
    go ih (inr h) = ih h

least_one : (f : ℕ → ℕ) (x : ℕ) (l : List ℕ) → (least_from f x l ≡ x) ⊎ ((n : ℕ) × T (mem n l) × (least_from f x l ≡ f n))
least_one f x [] = inl refl
least_one f x (k ∷ l) = go (ltb (f k) x) (least_one f (f k) l) (least_one f x l)
  where
    go : (b : Bool) → (least_from f (f k) l ≡ f k) ⊎ ((n : ℕ) × T (mem n l) × (least_from f (f k) l ≡ f n)) → (least_from f x l ≡ x) ⊎ ((n : ℕ) × T (mem n l) × (least_from f x l ≡ f n))
        → (least_from f (cond b (f k) x) l ≡ x) ⊎ ((n : ℕ) × T (mem n (k ∷ l)) × (least_from f (cond b (f k) x) l ≡ f n))
    go true (inl e) r = inr (k, here k l, e)
    go true (inr e) r = inr (e.0, there e.0 k l e.1, e.2)
    go false r (inl e) = inl e
    go false r (inr e) = inr (e.0, there e.0 k l e.1, e.2)

-- at most each
pub least_at : (f : ℕ → ℕ) (l : List ℕ) (n : ℕ) → T (mem n l) → least_over f l ≤ f n
least_at f [] n m = absurd m
least_at f (k ∷ l) n m = go (in_cons n k l m)
  where
    go : (n ≡ k) ⊎ T (mem n l) → least_from f (f k) l ≤ f n
    go (inl e) = rw e (least_start f (f k) l)
    go (inr h) = least_each f (f k) l n h

-- and one of them
pub least_in : (f : ℕ → ℕ) (l : List ℕ) → 0 < length l → (n : ℕ) × T (mem n l) × (least_over f l ≡ f n)
least_in f [] h = absurd (omega arith)
least_in f (k ∷ l) h = go (least_one f (f k) l)
  where
    go : (least_from f (f k) l ≡ f k) ⊎ ((n : ℕ) × T (mem n l) × (least_from f (f k) l ≡ f n)) → (n : ℕ) × T (mem n (k ∷ l)) × (least_from f (f k) l ≡ f n)
    go (inl e) = (k, here k l, e)
    go (inr e) = (e.0, there e.0 k l e.1, e.2)

-- ---- rising lists
rises_lower : (a b : ℕ) (l : List ℕ) → a ≤ b → T (rises_from b l) → T (rises_from a l)
rises_lower a b [] h t = tt
rises_lower a b (n ∷ l) h t =
    let s = ltb→lt b n (both_left (ltb b n) (rises_from n l) t) in
    both (ltb a n) (rises_from n l) (lt→ltb a n (omega arith)) (both_right (ltb b n) (rises_from n l) t)

rises_filter : (s : ℕ → Bool) (b : ℕ) (l : List ℕ) → T (rises_from b l) → T (rises_from b (filter s l))
rises_filter s b [] t = tt
rises_filter s b (n ∷ l) t = go (s n) (rises_filter s n l (both_right (ltb b n) (rises_from n l) t))
  where
    less : T (ltb b n)
    less = both_left (ltb b n) (rises_from n l) t

    go : (c : Bool) → T (rises_from n (filter s l)) → T (rises_from b (with_if c n (filter s l)))
    go true ih = both (ltb b n) (rises_from n (filter s l)) less ih
    go false ih = let h = ltb→lt b n less in rises_lower b n (filter s l) (omega arith) ih

-- ---- the first of the greatest, in a rising list
pub record Most (f : ℕ → ℕ) (l : List ℕ) (r : ℕ) : Type 0 where
  pub member : T (mem r l)
  pub greatest : (n : ℕ) → T (mem n l) → f n ≤ f r
  pub first : (n : ℕ) → T (mem n l) → f r ≤ f n → r ≤ n

most_from_law : (f : ℕ → ℕ) (m : ℕ) (l : List ℕ) → T (rises_from m l) → Most f (m ∷ l) (most_from f m l)
most_from_law f m [] t = record { member = here m []; greatest = λ n i. rw (only n i) (le_refl (f m)); first = λ n i h. rw (only n i) (le_refl m) }
  where
    only : (n : ℕ) → T (mem n (m ∷ [])) → n ≡ m
    only n i = go (in_cons n m [] i)
      where
        go : (n ≡ m) ⊎ T (mem n []) → n ≡ m
        go (inl e) = e
        go (inr z) = absurd z
most_from_law f m (x ∷ l) t = go (ltb (f m) (f x)) refl (most_from_law f x l over) (most_from_law f m l (rises_lower m x l (omega (arith, less)) over))
  where
    less : m < x
    less = ltb→lt m x (both_left (ltb m x) (rises_from x l) t)

    over : T (rises_from x l)
    over = both_right (ltb m x) (rises_from x l) t

    -- m, x, or further back
    split : {P : ℕ → Type 0} → P m → P x → ((n : ℕ) → T (mem n l) → P n) → (n : ℕ) → T (mem n (m ∷ x ∷ l)) → P n
    split {P} a b h n i = on (in_cons n m (x ∷ l) i)
      where
        next : (n ≡ x) ⊎ T (mem n l) → P n
        next (inl e) = subst⁻¹ P e b
        next (inr j) = h n j

        on : (n ≡ m) ⊎ T (mem n (x ∷ l)) → P n
        on (inl e) = subst⁻¹ P e a
        on (inr j) = next (in_cons n x l j)

    go : (b : Bool) → ltb (f m) (f x) ≡ b → Most f (x ∷ l) (most_from f x l) → Most f (m ∷ l) (most_from f m l) → Most f (m ∷ x ∷ l) (most_from f (cond b x m) l)
    go true e p q =
        let s = ltb-true (f m) (f x) e in
        let r = most_from f x l in
        let g = p.greatest x (here x l) in
        record {
          member = there r m (x ∷ l) p.member;
          greatest = split {P = λ n. f n ≤ f r} (omega arith) g (λ n j. p.greatest n (there n x l j));
          first = split {P = λ n. f r ≤ f n → r ≤ n} (λ z. absurd (omega arith)) (p.first x (here x l)) (λ n j. p.first n (there n x l j));
        }
    go false e p q =
        let s = ltb-false (f m) (f x) e in
        let r = most_from f m l in
        let g = q.greatest m (here m l) in
        record {
          member = split-in (in_cons r m l q.member);
          greatest = split {P = λ n. f n ≤ f r} g (omega arith) (λ n j. q.greatest n (there n m l j));
          first = split {P = λ n. f r ≤ f n → r ≤ n} (q.first m (here m l)) (λ z. let y = q.first m (here m l) (omega arith) in omega (arith, less)) (λ n j. q.first n (there n m l j));
        }
      where
        split-in : (most_from f m l ≡ m) ⊎ T (mem (most_from f m l) l) → T (mem (most_from f m l) (m ∷ x ∷ l))
        split-in (inl w) = subst⁻¹ (λ (k : ℕ). T (mem k (m ∷ x ∷ l))) w (here m (x ∷ l))
        split-in (inr j) = there (most_from f m l) m (x ∷ l) (there (most_from f m l) x l j)

most_of : (f : ℕ → ℕ) (l : List ℕ) (n : ℕ) → T (mem n l) → T (rises_from 0 l) → Most f l (first_most f l)
most_of f [] n i t = absurd i
most_of f (m ∷ l) n i t = most_from_law f m l (both_right (ltb 0 m) (rises_from m l) t)

-- ---- the choice among those near the least
pub record Picked (l : List ℕ) (tolerance : ℕ) (count cost : ℕ → ℕ) (r : ℕ) : Type 0 where
  pub listed : T (mem r l)
  pub near : cost r ≤ least_over cost l + tolerance
  pub often : (n : ℕ) → T (mem n l) → cost n ≤ least_over cost l + tolerance → count n ≤ count r
  pub first : (n : ℕ) → T (mem n l) → cost n ≤ least_over cost l + tolerance → count r ≤ count n → r ≤ n

pub picked : (l : List ℕ) (tolerance : ℕ) (count cost : ℕ → ℕ) → 0 < length l → T (rises_from 0 l)
    → Picked l tolerance count cost (first_most count (filter (λ n. leb (cost n) (least_over cost l + tolerance)) l))
picked l tolerance count cost h t = record {
  listed = inside.1;
  near = leb→le (cost r) most inside.0;
  often = λ n i c. m.greatest n (competing n i c);
  first = λ n i c. m.first n (competing n i c);
}
  where
    most : ℕ
    most = least_over cost l + tolerance

    near-enough : ℕ → Bool
    near-enough n = leb (cost n) most

    r : ℕ
    r = first_most count (filter near-enough l)

    competing : (n : ℕ) → T (mem n l) → cost n ≤ most → T (mem n (filter near-enough l))
    competing n i c = in_filter near-enough l n (le→leb (cost n) most c) i

    best : (n : ℕ) × T (mem n l) × (least_over cost l ≡ cost n)
    best = least_in cost l h

    m : Most count (filter near-enough l) r
    m = most_of count (filter near-enough l) best.0 (competing best.0 best.1 (let e = best.2 in omega arith)) (rises_filter near-enough 0 l t)

    inside : T (near-enough r) × T (mem r l)
    inside = filter_in near-enough l r m.member
