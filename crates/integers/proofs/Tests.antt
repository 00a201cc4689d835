-- Tests: what a Boolean tells, a test of each number below n and of each entry of a list, and `ltb` as a fact.
-- Assumes nothing.
use mathlib.Core.Path.{◌≡◌, refl, sym, subst, subst⁻¹}
use mathlib.Core.Logic.{◌⊎◌, inl, inr}
use mathlib.Core.Bool.{Bool, true, false, not, ◌&&◌, ◌||◌}
use mathlib.Core.List.{List, [], ◌∷◌, ◌++◌}
use Prim.Native.Nat.{ℕ, zero, suc, ◌+◌, ◌<◌, ◌≤◌}
use native.Mathlib.Nat.{not-suc-le-zero, le_of_suc-le-suc}
use native.Mathlib.Omega.{arith}
use lib.Dec.{T, eqb, eqb→eq, eqb_refl, ltb, ltb→lt, lt→ltb}
use lib.ListN.{length, get_or, drop, drop_of_length-le}
use lib.Seq.{drop-cons}
use native.Mathlib.Numerals.{add-one}
use Rattle.integers.specs.Lists.{every, one_of}

pub is_true : (t : Bool) → T t → t ≡ true
is_true true h = refl
is_true false h = absurd h

pub is_false : (t : Bool) → (T t → ⊥) → t ≡ false
is_false true h = absurd (h tt)
is_false false h = refl

pub both_left : (a b : Bool) → T (a && b) → T a
both_left true b t = tt
both_left false b t = t

pub both_right : (a b : Bool) → T (a && b) → T b
both_right true b t = t
both_right false b t = absurd t

pub both : (a b : Bool) → T a → T b → T (a && b)
both true b s t = t
both false b s t = s

-- the same of flags as equations
pub both_true : (a b : Bool) → (a && b) ≡ true → (a ≡ true) × (b ≡ true)
both_true true b e = (refl, e)
both_true false b e = absurd (subst T (sym e) tt)

-- both tests, as Booleans
pub two_hold : (a b : Bool) → T a → T b → (a && b) ≡ true
two_hold a b s t = is_true (a && b) (both a b s t)

pub not_both : (a b : Bool) → (T a → T b → ⊥) → (a && b) ≡ false
not_both a b f = is_false (a && b) (λ t. f (both_left a b t) (both_right a b t))

pub either : (a b : Bool) → T (a || b) → T a ⊎ T b
either true b t = inl tt
either false b t = inr t

pub or_left : (a b : Bool) → T a → T (a || b)
or_left true b t = tt
or_left false b t = absurd t

pub or_right : (a b : Bool) → T b → T (a || b)
or_right true b t = tt
or_right false b t = t

pub decided : (b : Bool) → T b ⊎ T (not b)
decided true = inl tt
decided false = inr tt

pub refused : (b : Bool) → T (not b) → T b → ⊥
refused true n t = n
refused false n t = t

pub eq→eqb : {a b : ℕ} → a ≡ b → T (eqb a b)
eq→eqb {a} {b} e = subst (λ (k : ℕ). T (eqb a k)) e (eqb_refl a)

pub true_at : (m n : ℕ) → m < n → ltb m n ≡ true
true_at m n h = is_true (ltb m n) (lt→ltb m n h)

pub false_at : (m n : ℕ) → n ≤ m → ltb m n ≡ false
false_at m n h = is_false (ltb m n) (λ t. let l = ltb→lt m n t in omega arith)

pub and_false : (b : Bool) → (b && false) ≡ false
and_false true = refl
and_false false = refl

-- the test passes at each number below n
abbrev pub up_to : ℕ → (ℕ → Bool) → Bool
up_to zero g = true
up_to (suc n) g = g n && up_to n g

pub up_to_at : (n : ℕ) (g : ℕ → Bool) → T (up_to n g) → (a : ℕ) → a < n → T (g a)
up_to_at zero g t a h = absurd (not-suc-le-zero h)
up_to_at (suc n) g t a h = go (up_to_at n g (both_right (g n) (up_to n g) t) a) (decided (eqb a n))
  where
    go : (a < n → T (g a)) → T (eqb a n) ⊎ T (not (eqb a n)) → T (g a)
    go ih (inl e) = subst⁻¹ (λ (k : ℕ). T (g k)) (eqb→eq a n e) (both_left (g n) (up_to n g) t)
    go ih (inr e) = let ne : a ≡ n → ⊥ = (λ q. refused (eqb a n) e (eq→eqb q)) in ih (omega (arith, ne))

-- a test of each entry of a list
pub every_at : {A : Type 0} (g : A → Bool) (xs : List A) (d : A) → T (every g xs) → (i : ℕ) → i < length xs → T (g (get_or xs i d))
every_at g [] d t i h = absurd (not-suc-le-zero h)
every_at g (x ∷ xs) d t zero h = both_left (g x) (every g xs) t
every_at g (x ∷ xs) d t (suc i) h = every_at g xs d (both_right (g x) (every g xs) t) i (le_of_suc-le-suc h)

pub every_of : {A : Type 0} (g : A → Bool) (xs : List A) (d : A) → ((i : ℕ) → i < length xs → T (g (get_or xs i d))) → T (every g xs)
every_of g [] d f = tt
every_of g (x ∷ xs) d f = both (g x) (every g xs) (f 0 (omega arith)) (every_of g xs d (λ i h. f (suc i) (omega arith)))

pub every_append : {A : Type 0} (g : A → Bool) (xs ys : List A) → every g (xs ++ ys) ≡ (every g xs && every g ys)
every_append g [] ys = refl
every_append g (x ∷ xs) ys = go (g x) (every_append g xs ys)
  where
    go : (b : Bool) → every g (xs ++ ys) ≡ (every g xs && every g ys) → (b && every g (xs ++ ys)) ≡ ((b && every g xs) && every g ys)
    go true i = i
    go false i = refl

pub every_through : {A : Type 0} (g h : A → Bool) (xs : List A) → ((x : A) → g x ≡ true → h x ≡ true) → every g xs ≡ true → every h xs ≡ true
every_through g h [] f e = refl
every_through g h (x ∷ xs) f e = let p = both_true (g x) (every g xs) e in rw (f x p.0) (every_through g h xs f p.1)

-- one of a list stands somewhere in it
pub one_of_at : (ks : List ℕ) (n : ℕ) → T (one_of ks n) → (i : ℕ) × (i < length ks) × (n ≡ get_or ks i 0)
one_of_at [] n t = absurd t
one_of_at (k ∷ ks) n t = go (one_of_at ks n) (either (eqb n k) (one_of ks n) t)
  where
    go : (T (one_of ks n) → (i : ℕ) × (i < length ks) × (n ≡ get_or ks i 0)) → T (eqb n k) ⊎ T (one_of ks n) → (i : ℕ) × (i < length (k ∷ ks)) × (n ≡ get_or (k ∷ ks) i 0)
    go ih (inl e) = (0, omega arith, eqb→eq n k e)
    go ih (inr h) = let r = ih h in (suc r.0, omega (arith, r.1), r.2)

-- and what stands in a list is one of it
pub at_one_of : (ks : List ℕ) (i : ℕ) → i < length ks → T (one_of ks (get_or ks i 0))
at_one_of [] i h = absurd (not-suc-le-zero h)
at_one_of (k ∷ ks) zero h = or_left (eqb k k) (one_of ks k) (eqb_refl k)
at_one_of (k ∷ ks) (suc i) h = or_right (eqb (get_or ks i 0) k) (one_of ks (get_or ks i 0)) (at_one_of ks i (le_of_suc-le-suc h))

-- a loop that tests one entry after the other
pub every_next : {A : Type 0} (g : A → Bool) (xs : List A) (d : A) (i : ℕ) → i < length xs → g (get_or xs i d) ≡ true → every g (drop i xs) ≡ every g (drop (i + 1) xs)
every_next g xs d i l e = rw (drop-cons xs i d l, add-one, e)

pub every_stop : {A : Type 0} (g : A → Bool) (xs : List A) (d : A) (i : ℕ) → i < length xs → g (get_or xs i d) ≡ false → every g (drop i xs) ≡ false
every_stop g xs d i l e = rw (drop-cons xs i d l, e)

pub every_end : {A : Type 0} (g : A → Bool) (xs : List A) (i : ℕ) → length xs ≤ i → every g (drop i xs) ≡ true
every_end g xs i l = rw (drop_of_length-le xs l)
