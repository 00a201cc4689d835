-- A block that shows a covering: its samples, when it shows the covering alone, and the first choice of steps that does so. Assumes nothing.
use Rattle.std.specs.Prelude.{Bool, true, false, ◌&&◌, ◌||◌, cond, List, [], ◌∷◌, ◌++◌, ℕ, eqb, ltb, leb, ℤ, pos, length, get_or}
use Rattle.integers.specs.Lists.{tabulate, every}
use Rattle.coverings.specs.Block.{name_of}
use Rattle.coverings.specs.Words.{word_of}
use Rattle.terms.specs.Terms.{all_numbers, rises, cost_at}

-- Document 02, wish 14: "Each piece is given one step", "16 samples in cell order". Of a word w and the steps s of pieces 0 to 3.
unfoldable pub card_samples : List ℕ → List ℕ → List ℕ
card_samples w s = tabulate 16 (λ a. get_or s (name_of w a) 0)

-- The same as a block of values.
abbrev pub card_block : List ℕ → List ℕ → ℕ → ℤ
card_block w s a = pos (get_or s (name_of w a) 0)

-- "The block must have this covering as its only covering of cost 0." A block of any values.
unfoldable pub only_zero : ℕ → (ℕ → ℤ) → Bool
only_zero n v = eqb (cost_at v n) 0 && every (λ m. eqb m n || ltb 0 (cost_at v m)) all_numbers

unfoldable pub shows : ℕ → List ℕ → Bool
shows n s = only_zero n (card_block (word_of n) s)

-- What f gives for the entries of a list, one after the other.
abbrev pub each : {B : Type 0} → List ℕ → (ℕ → List B) → List B
each [] f = []
each (x ∷ xs) f = f x ++ each xs f

-- "choice of steps by pieces 0 to 3, lower steps first": the step of piece 0 changes last, that of piece 3 first.
unfoldable pub choices : List ℕ → List (List ℕ)
choices l = each l (λ a. each l (λ b. each l (λ c. each l (λ d. (a ∷ b ∷ c ∷ d ∷ []) ∷ []))))

-- "The first such choice": the first of a list that passes the test, and the empty list where none does.
abbrev pub first : (List ℕ → Bool) → List (List ℕ) → List ℕ
first test [] = []
first test (s ∷ ss) = cond (test s) s (first test ss)

unfoldable pub chosen_steps : ℕ → List ℕ → List ℕ
chosen_steps n l = first (shows n) (choices l)

-- "if no choice does it, the answer is none": there is a choice.
abbrev pub some : List ℕ → Bool
some [] = false
some (x ∷ xs) = true

-- "one to four strictly rising values up to 4,095"
abbrev pub are_steps : List ℕ → Bool
are_steps l = ltb 0 (length l) && (leb (length l) 4 && (rises l && every (λ s. leb s 4095) l))
