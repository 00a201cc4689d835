-- The labels of a covering: no labelling has fewer differing cells, and each smaller list has more. Assumes nothing.
use mathlib.Core.Path.{◌≡◌, refl}
use mathlib.Core.Bool.{Bool, true, false, cond}
use mathlib.Core.List.{List, [], ◌∷◌}
use Prim.Native.Nat.{ℕ, zero, suc, ◌<◌, ◌≤◌}
use native.Mathlib.Omega.{arith}
use native.Mathlib.Nat.{le_refl}
use lib.Dec.{eqb, eqb→eq, ltb}
use lib.ListN.{length, get_or}
use native.Mathlib.Decide.{dec_lt}
use Rattle.integers.proofs.Tests.{true_at, false_at, up_to_at}
use Rattle.coverings.specs.Block.{row, col}
use Rattle.block.specs.Block.{least_at, square_of, labellings, differing, labels_of}

-- the least of a list, the first of these: each is at least as much, and each before it is more
record First (f : List ℕ → ℕ) (ls : List (List ℕ)) (m : List ℕ) : Type 0 where
  number : ℕ
  inside : number < length ls
  is : m ≡ get_or ls number []
  more : (k : ℕ) → k < number → f m < f (get_or ls k [])
  least : (k : ℕ) → k < length ls → f m ≤ f (get_or ls k [])

module _ (f : List ℕ → ℕ) (l m : List ℕ) (ls : List (List ℕ)) (x : List ℕ) where
  -- m is less than l, which stands before it
  less : f m < f l → First f (m ∷ ls) x → First f (l ∷ m ∷ ls) x
  less h c = record { number = suc c.number; inside = let i = c.inside in omega arith; is = c.is; more = before; least = each }
    where
      front : f x ≤ f m
      front = c.least 0 (omega arith)

      before : (k : ℕ) → k < suc c.number → f x < f (get_or (l ∷ m ∷ ls) k [])
      before zero i = omega (arith, front)
      before (suc k) i = c.more k (omega arith)

      each : (k : ℕ) → k < length (l ∷ m ∷ ls) → f x ≤ f (get_or (l ∷ m ∷ ls) k [])
      each zero i = omega (arith, front)
      each (suc k) i = c.least k (omega arith)

  -- m is not less
  not_less : f l ≤ f m → First f (l ∷ ls) x → First f (l ∷ m ∷ ls) x
  not_less h c = go c.number c.inside c.is c.more
    where
      front : f x ≤ f l
      front = c.least 0 (omega arith)

      each : (k : ℕ) → k < length (l ∷ m ∷ ls) → f x ≤ f (get_or (l ∷ m ∷ ls) k [])
      each zero i = front
      each (suc zero) i = omega (arith, front)
      each (suc (suc k)) i = c.least (suc k) (omega arith)

      before : (j : ℕ) → ((k : ℕ) → k < suc j → f x < f (get_or (l ∷ ls) k [])) → (k : ℕ) → k < suc (suc j) → f x < f (get_or (l ∷ m ∷ ls) k [])
      before j b zero i = b 0 (omega arith)
      before j b (suc zero) i = let a : f x < f l = b 0 (omega arith) in omega arith
      before j b (suc (suc k)) i = b (suc k) (omega arith)

      go : (j : ℕ) → j < length (l ∷ ls) → x ≡ get_or (l ∷ ls) j [] → ((k : ℕ) → k < j → f x < f (get_or (l ∷ ls) k [])) → First f (l ∷ m ∷ ls) x
      go zero i e b = record { number = 0; inside = omega arith; is = e; more = λ k n. absurd (omega arith); least = each }
      go (suc j) i e b = record { number = suc (suc j); inside = omega arith; is = e; more = before j b; least = each }

first : (f : List ℕ → ℕ) (l : List ℕ) (ls : List (List ℕ)) → First f (l ∷ ls) (least_at f l ls)
first f l [] = record { number = 0; inside = omega arith; is = refl; more = λ k n. absurd (omega arith); least = alone }
  where
    alone : (k : ℕ) → k < 1 → f l ≤ f (get_or (l ∷ []) k [])
    alone zero i = le_refl (f l)
    alone (suc k) i = absurd (omega arith)
first f l (m ∷ ls) = go (dec_lt (f m) (f l)) (λ k. first f k ls)
  where
    go : Dec (f m < f l) → ((k : List ℕ) → First f (k ∷ ls) (least_at f k ls)) → First f (l ∷ m ∷ ls) (least_at f (cond (ltb (f m) (f l)) m l) ls)
    go (yes h) ih = rw (true_at (f m) (f l) h) (less f l m ls (least_at f m ls) h (ih m))
    go (no h) ih = rw (false_at (f m) (f l) (omega arith)) (not_less f l m ls (least_at f l ls) (omega arith) (ih l))

of_labellings : (w : List ℕ) → First (differing w) ((0 ∷ 1 ∷ 2 ∷ 3 ∷ []) ∷ labellings) (labels_of w)
unfolding labels_of
of_labellings w = first (differing w) (0 ∷ 1 ∷ 2 ∷ 3 ∷ []) labellings

pub fewest : (w : List ℕ) (k : ℕ) → k < 24 → differing w (labels_of w) ≤ differing w (get_or labellings k [])
fewest w k h = let i : suc k < 25 = omega arith in (of_labellings w).least (suc k) i

pub smallest : (w : List ℕ) → (j : ℕ) × (j < 24) × (labels_of w ≡ get_or labellings j []) × ((k : ℕ) → k < j → differing w (labels_of w) < differing w (get_or labellings k []))
smallest w = let c = of_labellings w in go c.number c.inside c.is c.more
  where
    go : (j : ℕ) → j < 25 → labels_of w ≡ get_or ((0 ∷ 1 ∷ 2 ∷ 3 ∷ []) ∷ labellings) j []
        → ((k : ℕ) → k < j → differing w (labels_of w) < differing w (get_or ((0 ∷ 1 ∷ 2 ∷ 3 ∷ []) ∷ labellings) k []))
        → (j : ℕ) × (j < 24) × (labels_of w ≡ get_or labellings j []) × ((k : ℕ) → k < j → differing w (labels_of w) < differing w (get_or labellings k []))
    go zero i e b = (0, omega arith, e, λ k n. absurd (omega arith))
    go (suc j) i e b = (j, omega arith, e, λ k n. b (suc k) (omega arith))

pub squares : (a : ℕ) → a < 16 → square_of a ≡ cond (ltb (row a) 2) (cond (ltb (col a) 2) 0 2) (cond (ltb (col a) 2) 1 3)
squares a h = eqb→eq _ _ (up_to_at 16 (λ a. eqb (square_of a) (cond (ltb (row a) 2) (cond (ltb (col a) 2) 0 2) (cond (ltb (col a) 2) 1 3))) tt a h)
