-- Tests on lists of numbers, and what they tell: membership, `any`, `all`, and the entries that are in a set (`filter`).
-- Assumes nothing.
use mathlib.Core.Path.{◌≡◌, refl, sym, ap, subst, subst⁻¹, ◌∙◌}
use mathlib.Core.Logic.{◌⊎◌, inl, inr}
use mathlib.Core.Bool.{Bool, true, false, not, ◌&&◌, ◌||◌}
use mathlib.Core.List.{List, [], ◌∷◌}
use Prim.Native.Nat.{ℕ, zero, suc, ◌<◌}
use native.Mathlib.Nat.{not-suc-le-zero}
use native.Mathlib.Omega.{arith}
use lib.Dec.{T, eqb, eqb→eq, eqb_refl, ltb, ltb→lt, lt→ltb}
use lib.ListN.{length}
use Rattle.coverings.specs.Block.{filter, with_if, cells}
use Rattle.integers.proofs.Tests.{both_left, both_right, either, or_left, or_right, up_to_at}

-- Membership.

abbrev pub any : (ℕ → Bool) → List ℕ → Bool
any g [] = false
any g (x ∷ xs) = g x || any g xs

abbrev pub all : (ℕ → Bool) → List ℕ → Bool
all g [] = true
all g (x ∷ xs) = g x && all g xs

abbrev pub mem : ℕ → List ℕ → Bool
mem a xs = any (eqb a) xs

pub any_at : (g : ℕ → Bool) (xs : List ℕ) → T (any g xs) → (x : ℕ) × T (mem x xs) × T (g x)
any_at g [] t = absurd t
any_at g (x ∷ xs) t = go (any_at g xs) (either (g x) (any g xs) t)
  where
    go : (T (any g xs) → (y : ℕ) × T (mem y xs) × T (g y)) → T (g x) ⊎ T (any g xs) → (y : ℕ) × T (mem y (x ∷ xs)) × T (g y)
    go ih (inl h) = (x, or_left (eqb x x) (mem x xs) (eqb_refl x), h)
    go ih (inr h) = let r = ih h in (r.0, or_right (eqb r.0 x) (mem r.0 xs) r.1, r.2)

pub all_at : (g : ℕ → Bool) (xs : List ℕ) → T (all g xs) → (x : ℕ) → T (mem x xs) → T (g x)
all_at g [] t x m = absurd m
all_at g (y ∷ xs) t x m = go (all_at g xs (both_right (g y) (all g xs) t) x) (either (eqb x y) (mem x xs) m)
  where
    go : (T (mem x xs) → T (g x)) → T (eqb x y) ⊎ T (mem x xs) → T (g x)
    go ih (inl h) = subst⁻¹ (λ (k : ℕ). T (g k)) (eqb→eq x y h) (both_left (g y) (all g xs) t)
    go ih (inr h) = ih h

-- The entries of a list that are in a set.

mem_with_if : (b : Bool) (a x : ℕ) (xs : List ℕ) → T (mem a (with_if b x xs)) → (T b × T (eqb a x)) ⊎ T (mem a xs)
mem_with_if true a x xs t = go (either (eqb a x) (mem a xs) t)
  where
    go : T (eqb a x) ⊎ T (mem a xs) → (T true × T (eqb a x)) ⊎ T (mem a xs)
    go (inl h) = inl (tt, h)
    go (inr h) = inr h
mem_with_if false a x xs t = inr t

pub filter_in : (s : ℕ → Bool) (xs : List ℕ) (a : ℕ) → T (mem a (filter s xs)) → T (s a) × T (mem a xs)
filter_in s [] a t = absurd t
filter_in s (x ∷ xs) a t = go (filter_in s xs a) (mem_with_if (s x) a x (filter s xs) t)
  where
    go : (T (mem a (filter s xs)) → T (s a) × T (mem a xs)) → (T (s x) × T (eqb a x)) ⊎ T (mem a (filter s xs)) → T (s a) × T (mem a (x ∷ xs))
    go ih (inl h) = (subst⁻¹ (λ (k : ℕ). T (s k)) (eqb→eq a x h.1) h.0, or_left (eqb a x) (mem a xs) h.1)
    go ih (inr h) = ((ih h).0, or_right (eqb a x) (mem a xs) (ih h).1)

with_if_head : (b : Bool) (a x : ℕ) (xs : List ℕ) → T b → T (eqb a x) → T (mem a (with_if b x xs))
with_if_head true a x xs t h = or_left (eqb a x) (mem a xs) h
with_if_head false a x xs t h = absurd t

with_if_tail : (b : Bool) (a x : ℕ) (xs : List ℕ) → T (mem a xs) → T (mem a (with_if b x xs))
with_if_tail true a x xs h = or_right (eqb a x) (mem a xs) h
with_if_tail false a x xs h = h

pub in_filter : (s : ℕ → Bool) (xs : List ℕ) (a : ℕ) → T (s a) → T (mem a xs) → T (mem a (filter s xs))
in_filter s [] a t m = m
in_filter s (x ∷ xs) a t m = go (in_filter s xs a t) (either (eqb a x) (mem a xs) m)
  where
    go : (T (mem a xs) → T (mem a (filter s xs))) → T (eqb a x) ⊎ T (mem a xs) → T (mem a (filter s (x ∷ xs)))
    go ih (inl h) = with_if_head (s x) a x (filter s xs) (subst (λ (k : ℕ). T (s k)) (eqb→eq a x h) t) h
    go ih (inr h) = with_if_tail (s x) a x (filter s xs) (ih h)

-- what is in the first set is in the second: the first set's entries are those among the second's
pub filter_filter : (s t : ℕ → Bool) → ((x : ℕ) → T (s x) → T (t x)) → (xs : List ℕ) → filter s (filter t xs) ≡ filter s xs
filter_filter s t h [] = refl
filter_filter s t h (x ∷ xs) = go (s x) (t x) refl (h x) (filter_filter s t h xs)
  where
    go : (b c : Bool) → s x ≡ b → (T b → T c) → filter s (filter t xs) ≡ filter s xs → filter s (with_if c x (filter t xs)) ≡ with_if b x (filter s xs)
    go true true e i ih = rw e (ap {B = List ℕ} (λ (l : List ℕ). x ∷ l) ih)
    go true false e i ih = absurd (i tt)
    go false true e i ih = rw e ih
    go false false e i ih = ih

pub kept : (b : Bool) (x : ℕ) (xs : List ℕ) → T b → with_if b x xs ≡ x ∷ xs
kept true x xs t = refl
kept false x xs t = absurd t

pub left_out : (b : Bool) (x : ℕ) (xs : List ℕ) → T b → with_if (not b) x xs ≡ xs
left_out true x xs t = refl
left_out false x xs t = absurd t

-- The sixteen cells.

pub in_cells : (a : ℕ) → a < 16 → T (mem a cells)
in_cells a h = up_to_at 16 (λ (x : ℕ). mem x cells) tt a h

pub cell_below : (a : ℕ) → T (mem a cells) → a < 16
cell_below a t = ltb→lt a 16 (all_at (λ (x : ℕ). ltb x 16) cells tt a t)

-- two sets with the same cells
pub same_cells : (s t : ℕ → Bool) → filter s cells ≡ filter t cells → (a : ℕ) → a < 16 → T (s a) → T (t a)
same_cells s t e a h m =
    (filter_in t cells a (subst (λ (l : List ℕ). T (mem a l)) e (in_filter s cells a m (in_cells a h)))).0
