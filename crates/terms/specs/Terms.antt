-- The terms of a choice, which are a tolerance and a list of coverings, and the covering that is chosen for a block on such terms. Assumes nothing.
use Rattle.std.specs.Prelude.{Bool, true, ◌&&◌, cond, List, [], ◌∷◌, ℕ, suc, ◌+◌, ◌*◌, ◌^◌, leb, ltb, ℤ, length}
use Rattle.integers.specs.Lists.{tabulate, every}
use Rattle.coverings.specs.Block.{filter}
use Rattle.coverings.specs.Words.{word_of}
use Rattle.coverings.specs.Entry.{is_number}
use Rattle.block.specs.Block.{cost_of, shapes_of, count_in}

-- What a choice is made on: a tolerance, and the coverings that may be chosen.
pub record Terms : Type 0 where
  pub tolerance : ℕ
  pub list : List ℕ

-- All coverings, 1 to 117.
unfoldable pub all_numbers : List ℕ
all_numbers = tabulate 117 suc

-- A tolerance with a list, and without one: all coverings may be chosen then.
abbrev pub among : ℕ → List ℕ → Terms
among t l = record { tolerance = t; list = l }

abbrev pub within : ℕ → Terms
within t = among t all_numbers

-- Document 02, wish 6: "at most the least plus t times 2^r". A picture's terms in the numbers of level r; the list is that of all levels.
abbrev pub at_level : ℕ → Terms → Terms
at_level r t = among (t.tolerance * 2 ^ r) t.list

-- Document 02, wish 7: "does not strictly rise". Each number of a list is over the one before it; n is the one before the first.
abbrev pub rises_from : ℕ → List ℕ → Bool
rises_from n [] = true
rises_from n (m ∷ l) = ltb n m && rises_from m l

abbrev pub rises : List ℕ → Bool
rises [] = true
rises (n ∷ l) = rises_from n l

-- Document 02, wish 7, refused is a list that "is empty, does not strictly rise or holds 0 or more than 117". This is one that is not.
unfoldable pub is_list : List ℕ → Bool
is_list l = ltb 0 (length l) && (rises l && every is_number l)

-- The cost of covering n in a block.
abbrev pub cost_at : (ℕ → ℤ) → ℕ → ℕ
cost_at v n = cost_of (shapes_of (word_of n)) v

-- The least of a number and of what f gives on a list; the least that f gives on a list.
abbrev pub least_from : (ℕ → ℕ) → ℕ → List ℕ → ℕ
least_from f x [] = x
least_from f x (n ∷ l) = least_from f (cond (ltb (f n) x) (f n) x) l

abbrev pub least_over : (ℕ → ℕ) → List ℕ → ℕ
least_over f [] = 0
least_over f (n ∷ l) = least_from f (f n) l

-- The first at which f is greatest, of m and a list; of a list.
abbrev pub most_from : (ℕ → ℕ) → ℕ → List ℕ → ℕ
most_from f m [] = m
most_from f m (n ∷ l) = most_from f (cond (ltb (f m) (f n)) n m) l

abbrev pub first_most : (ℕ → ℕ) → List ℕ → ℕ
first_most f [] = 0
first_most f (n ∷ l) = most_from f n l

-- Document 02, wish 6: "the coverings whose cost at level r is at most the least plus t times 2^r compete. The most frequent wins, then the lowest number."
-- Wish 7: "A list of covering numbers in rising order limits the choice, and the least cost is the least in the list." It depends on a block through the
-- costs of the coverings, and on earlier choices through how often each was made.
unfoldable pub pick_by : Terms → (ℕ → ℕ) → (ℕ → ℕ) → ℕ
pick_by t count cost =
    let most = least_over cost t.list + t.tolerance in
    first_most count (filter (λ n. leb (cost n) most) t.list)

-- The covering of a block, after the list of those chosen earlier. The tolerance is in the numbers of the block.
unfoldable pub pick_terms : Terms → List ℕ → (ℕ → ℤ) → ℕ
pick_terms t earlier v = pick_by t (λ n. count_in n earlier) (cost_at v)
