-- The laws of blocks that show a covering, as one record: what is proved of the definitions once and for all. Assumes nothing.
use Rattle.std.specs.Prelude.{◌≡◌, ◌↔◌, not, List, [], ◌∷◌, ℕ, ◌+◌, ◌*◌, ◌<◌, ◌≤◌, T, pos, length, get_or}
use Rattle.integers.specs.Lists.{one_of}
use Rattle.coverings.specs.Block.{Cutting, Same, name_of}
use Rattle.coverings.specs.Words.{word_of}
use Rattle.coverings.specs.Rule.{Number}
use Rattle.block.specs.Block.{cost_named, pick}
use Rattle.terms.specs.Terms.{among, is_list, cost_at, pick_terms}
use Rattle.pyramid.specs.Slices.{picture_of, covers_of, covers_by}
use Rattle.calibration.specs.Card.{card_samples, card_block, shows, choices, chosen_steps, some, are_steps}

-- Steps that are not refused, by their places: there are one to four, each later one is higher, and none is over 4,095.
pub record GoodSteps (l : List ℕ) : Type 0 where
  pub one : 0 < length l
  pub four : length l ≤ 4
  pub rising : (j k : ℕ) → j < k → k < length l → get_or l j 0 < get_or l k 0
  pub range : (k : ℕ) → k < length l → get_or l k 0 ≤ 4095

-- The steps that are chosen: they are the k-th of the choices and show the covering, and no choice before them does.
pub record FirstOne (n : ℕ) (l : List ℕ) : Type 0 where
  pub k : ℕ
  pub inside : k < length (choices l)
  pub here : chosen_steps n l ≡ get_or (choices l) k []
  pub shown : T (shows n (chosen_steps n l))
  pub none_before : (j : ℕ) → j < k → T (not (shows n (get_or (choices l) j [])))

pub record CardLaws : Type 0 where
  pub steps : (l : List ℕ) → T (are_steps l) ↔ GoodSteps l
  -- "its only covering of cost 0": covering n has cost 0, no other covering has, and no other cutting of the block, whatever its names
  pub zero : (n : ℕ) (s : List ℕ) → T (shows n s) → cost_at (card_block (word_of n) s) n ≡ 0
  pub alone : (n m : ℕ) (s : List ℕ) → Number m → T (shows n s) → cost_at (card_block (word_of n) s) m ≡ 0 → m ≡ n
  pub alone_named : (n : ℕ) (s : List ℕ) (name : ℕ → ℕ) → T (shows n s) → Cutting name → cost_named name (card_block (word_of n) s) ≡ 0 → Same name (name_of (word_of n))
  -- and that is all that is asked of a block
  pub enough : (n : ℕ) (s : List ℕ) → cost_at (card_block (word_of n) s) n ≡ 0 → ((m : ℕ) → Number m → cost_at (card_block (word_of n) s) m ≡ 0 → m ≡ n) → T (shows n s)
  -- "a block that picks it without a tie": whatever was chosen earlier, with any list that holds it, and without a list
  pub picked : (n : ℕ) (s list earlier : List ℕ) → T (is_list list) → T (one_of list n) → T (shows n s) → pick_terms (among 0 list) earlier (card_block (word_of n) s) ≡ n
  pub picked_of_all : (n : ℕ) (s earlier : List ℕ) → Number n → T (shows n s) → pick earlier (card_block (word_of n) s) ≡ n
  -- "16 samples in cell order": they are a picture of height 4 and width 4, in which the cell in row y, column x has the step of its piece
  pub sixteen : (n : ℕ) (s : List ℕ) → length (card_samples (word_of n) s) ≡ 16
  pub cells : (n : ℕ) (s : List ℕ) (y x : ℕ) → y < 4 → x < 4 → picture_of 4 (card_samples (word_of n) s) y x ≡ pos (get_or s (name_of (word_of n) (4 * x + y)) 0)
  -- decomposing it by one level gives this covering
  pub decomposed : (n : ℕ) (s list : List ℕ) → T (is_list list) → T (one_of list n) → T (shows n s) → covers_by (among 0 list) 1 4 4 (card_samples (word_of n) s) ≡ n ∷ []
  pub decomposed_of_all : (n : ℕ) (s : List ℕ) → Number n → T (shows n s) → covers_of 1 4 4 (card_samples (word_of n) s) ≡ n ∷ []
  -- "With one step the answer is none for every covering."
  pub one_step : (n a : ℕ) → Number n → chosen_steps n (a ∷ []) ≡ []
  -- the choices: of m steps there are m to the fourth; that of the i-th, j-th, p-th and q-th step for pieces 0 to 3 has the number with these digits to the base m
  pub count : (l : List ℕ) → length (choices l) ≡ length l * (length l * (length l * length l))
  pub digits : (l : List ℕ) (i j p q : ℕ) → let m = length l in i < m → j < m → p < m → q < m
      → get_or (choices l) (((i * m + j) * m + p) * m + q) [] ≡ get_or l i 0 ∷ get_or l j 0 ∷ get_or l p 0 ∷ get_or l q 0 ∷ []
  -- "The first such choice"; where there is none, no choice shows the covering
  pub first_one : (n : ℕ) (l : List ℕ) → T (some (chosen_steps n l)) → FirstOne n l
  pub none : (n : ℕ) (l : List ℕ) → T (not (some (chosen_steps n l))) → (k : ℕ) → k < length (choices l) → T (not (shows n (get_or (choices l) k [])))
  -- the sixteen samples are steps
  pub samples : (n : ℕ) (l : List ℕ) → Number n → T (some (chosen_steps n l)) → (a : ℕ) → a < 16 → T (one_of l (get_or (card_samples (word_of n) (chosen_steps n l)) a 0))
