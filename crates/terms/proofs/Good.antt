-- Lists that are not refused: what they are by their places, that they have at most 117, and that the one of 117 holds every covering. Assumes nothing.
use mathlib.Core.Path.{◌≡◌, sym, ap, ◌∙◌, subst, subst⁻¹}
use mathlib.Core.Logic.{◌↔◌}
use mathlib.Core.Bool.{◌&&◌}
use mathlib.Core.List.{List, [], ◌∷◌}
use Prim.Native.Nat.{ℕ, zero, suc, ◌+◌, ◌-◌, ◌≤◌, ◌<◌}
use native.Mathlib.Omega.{arith}
use native.Mathlib.Decide.{dec_lt}
use lib.Dec.{T, ltb, ltb→lt, lt→ltb, leb}
use lib.ListN.{length, get_or}
use lib.Seq.{ext_get_or}
use Rattle.integers.specs.Lists.{every, one_of}
use Rattle.integers.proofs.Tests.{both_left, both_right, both, is_true, up_to, up_to_at, every_of, one_of_at}
use Rattle.integers.proofs.Tabulate.{length_tabulate, get_d_tabulate}
use Rattle.coverings.specs.Entry.{is_number}
use Rattle.coverings.specs.Rule.{Number}
use Rattle.coverings.proofs.Checks.{number_yes, number_at}
use Rattle.terms.specs.Terms.{all_numbers, rises_from, rises, is_list}
use Rattle.terms.specs.Laws.{GoodList}

-- ---- the parts of the test
module _ (l : List ℕ) (t : T (is_list l)) where
  pub not_empty : 0 < length l
  unfolding is_list
  not_empty = ltb→lt 0 (length l) (both_left (ltb 0 (length l)) _ t)

  rising : T (rises l)
  unfolding is_list
  rising = both_left (rises l) (every is_number l) (both_right (ltb 0 (length l)) _ t)

  numbers : T (every is_number l)
  unfolding is_list
  numbers = both_right (rises l) (every is_number l) (both_right (ltb 0 (length l)) _ t)

  pub entry : (k : ℕ) → k < length l → Number (get_or l k 0)
  entry k h = number_at l k (is_true (every is_number l) numbers) h

  pub member : (n : ℕ) → T (one_of l n) → Number n
  member n i = let p = one_of_at l n i in subst⁻¹ Number p.2 (entry p.0 p.1)

from_zero : (l : List ℕ) → T (rises l) → T (every is_number l) → T (rises_from 0 l)
from_zero [] r e = tt
from_zero (n ∷ l) r e = both (ltb 0 n) (rises_from n l) (both_left (leb 1 n) (leb n 117) (both_left (is_number n) (every is_number l) e)) r

pub rises_zero : (l : List ℕ) → T (is_list l) → T (rises_from 0 l)
rises_zero l t = from_zero l (rising l t) (numbers l t)

-- ---- an entry is over as many as stand before it and the number before them all; and over each of them
over : (n : ℕ) (l : List ℕ) → T (rises_from n l) → (k : ℕ) → k < length l → n + k < get_or l k 0
over n [] r k h = absurd (omega arith)
over n (m ∷ l) r zero h = let s = ltb→lt n m (both_left (ltb n m) (rises_from m l) r) in omega arith
over n (m ∷ l) r (suc k) h =
    let s = ltb→lt n m (both_left (ltb n m) (rises_from m l) r) in
    let i = over m l (both_right (ltb n m) (rises_from m l) r) k (omega arith) in
    omega arith

higher : (n : ℕ) (l : List ℕ) → T (rises_from n l) → (j k : ℕ) → j < k → k < length l → get_or l j 0 + (k - j) ≤ get_or l k 0
higher n [] r j k g h = absurd (omega arith)
higher n (m ∷ l) r j zero g h = absurd (omega arith)
higher n (m ∷ l) r zero (suc k) g h = let i = over m l (both_right (ltb n m) (rises_from m l) r) k (omega arith) in omega arith
higher n (m ∷ l) r (suc j) (suc k) g h = let i = higher m l (both_right (ltb n m) (rises_from m l) r) j k (omega arith) (omega arith) in omega arith

pub entry_over : (l : List ℕ) → T (is_list l) → (k : ℕ) → k < length l → k < get_or l k 0
entry_over l t k h = let i = over 0 l (rises_zero l t) k h in omega arith

-- a list that rises, whatever its numbers
pub rises_at : (l : List ℕ) → T (rises l) → (j k : ℕ) → j < k → k < length l → get_or l j 0 < get_or l k 0
rises_at [] r j k g h = absurd (omega arith)
rises_at (n ∷ l) r j zero g h = absurd (omega arith)
rises_at (n ∷ l) r zero (suc k) g h = let i = over n l r k (omega arith) in omega arith
rises_at (n ∷ l) r (suc j) (suc k) g h = let i = higher n l r j k (omega arith) (omega arith) in omega arith

pub entry_rises : (l : List ℕ) → T (is_list l) → (j k : ℕ) → j < k → k < length l → get_or l j 0 < get_or l k 0
entry_rises l t = rises_at l (rising l t)

-- the last entry is at most 117
pub short : (l : List ℕ) → T (is_list l) → length l ≤ 117
short l t = let h = not_empty l t in let last = entry l t (length l - 1) (omega arith) in omega (arith, entry_over l t (length l - 1) (omega arith))

-- ---- by places, and back
rises_of : (n : ℕ) (l : List ℕ) → ((k : ℕ) → k < length l → n < get_or l k 0) → ((j k : ℕ) → j < k → k < length l → get_or l j 0 < get_or l k 0) → T (rises_from n l)
rises_of n [] f g = tt
rises_of n (m ∷ l) f g = both (ltb n m) (rises_from m l) (lt→ltb n m (f 0 (omega arith))) (rises_of m l (λ k h. g 0 (suc k) (omega arith) (omega arith)) (λ j k i h. g (suc j) (suc k) (omega arith) (omega arith)))

pub rises_all : (l : List ℕ) → ((j k : ℕ) → j < k → k < length l → get_or l j 0 < get_or l k 0) → T (rises l)
rises_all [] g = tt
rises_all (n ∷ l) g = rises_of n l (λ k h. g 0 (suc k) (omega arith) (omega arith)) (λ j k i h. g (suc j) (suc k) (omega arith) (omega arith))

good_of : (l : List ℕ) → GoodList l → T (is_list l)
unfolding is_list
good_of l g =
    both (ltb 0 (length l)) (rises l && every is_number l) (lt→ltb 0 (length l) g.some)
    (both (rises l) (every is_number l) (rises_all l g.rising)
    (every_of is_number l 0 (λ k h. subst⁻¹ T (number_yes (get_or l k 0) (g.numbers k h)) tt)))

pub lists : (l : List ℕ) → T (is_list l) ↔ GoodList l
lists l = ((λ t. record { some = not_empty l t; numbers = entry l t; rising = entry_rises l t }), good_of l)

-- ---- all coverings
pub all_length : length all_numbers ≡ 117
unfolding all_numbers
all_length = length_tabulate 117 suc

pub all_at : (k : ℕ) → k < 117 → get_or all_numbers k 0 ≡ suc k
unfolding all_numbers
all_at k h = get_d_tabulate 117 suc 0 k h

-- of 117 entries the first is at least 1 and the last at most 117, so each is one more than its place
full_at : (l : List ℕ) → T (is_list l) → length l ≡ 117 → (k : ℕ) → k < length l → get_or l k 0 ≡ suc k
full_at l t e k h = go (dec_lt k 116)
  where
    last : get_or l 116 0 ≤ 117
    last = (entry l t 116 (omega arith)).1

    go : Dec (k < 116) → get_or l k 0 ≡ suc k
    go (yes m) = omega (arith, entry_over l t k h, last, higher 0 l (rises_zero l t) k 116 m (omega arith))
    go (no m) = let i : k ≡ 116 = omega arith in rw i (omega (arith, entry_over l t 116 (omega arith), last))

pub full : (l : List ℕ) → T (is_list l) → (length l ≡ 117) ↔ (l ≡ all_numbers)
full l t = ((λ e. ext_get_or 0 l all_numbers (e ∙ sym all_length) (λ k h. full_at l t e k h ∙ sym (all_at k (omega arith)))), (λ e. ap length e ∙ all_length))

pub all_good : T (is_list all_numbers)
unfolding all_numbers is_list
all_good = tt

pub good_full : (l : List ℕ) → l ≡ all_numbers → T (is_list l)
good_full l e = subst⁻¹ (λ (k : List ℕ). T (is_list k)) e all_good

all_there : T (up_to 117 (λ k. one_of all_numbers (suc k)))
unfolding all_numbers
all_there = tt

pub all_listed : (n : ℕ) → T (one_of all_numbers n) ↔ Number n
all_listed n = (member all_numbers all_good n, on)
  where
    on : Number n → T (one_of all_numbers n)
    on h = let e : suc (n - 1) ≡ n = omega arith in subst (λ (k : ℕ). T (one_of all_numbers k)) e (up_to_at 117 (λ k. one_of all_numbers (suc k)) all_there (n - 1) (omega arith))
