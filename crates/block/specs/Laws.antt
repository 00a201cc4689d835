-- The laws of one block, as one record: what is proved of the definitions once and for all. Assumes nothing.
use Rattle.std.specs.Prelude.{◌≡◌, Bool, cond, List, [], ℕ, ◌*◌, ◌<◌, ◌≤◌, ltb, ℤ, pos, ◌-ℤ◌, ◌*ℤ◌, get_or}
use Rattle.integers.specs.Sum.{Σℕ, sq}
use Rattle.coverings.specs.Block.{row, col, Shapes, Cutting, name_of}
use Rattle.coverings.specs.Words.{word_of}
use Rattle.coverings.specs.Rule.{Number}
use Rattle.block.specs.Block.{cost_of, cost_named, shapes_of, square_of, labellings, differing, labels_of, forward, inverse, count_in, pick}

-- The covering c is rightly chosen where n is another: n does not cost less; at equal cost it was not chosen more often; at equal cost, chosen as often,
-- it does not have the lower number.
pub record Wins (earlier : List ℕ) (v : ℕ → ℤ) (c n : ℕ) : Type 0 where
  pub lowest : cost_of (shapes_of (word_of c)) v ≤ cost_of (shapes_of (word_of n)) v
  pub often : cost_of (shapes_of (word_of c)) v ≡ cost_of (shapes_of (word_of n)) v → count_in n earlier ≤ count_in c earlier
  pub first : cost_of (shapes_of (word_of c)) v ≡ cost_of (shapes_of (word_of n)) v → count_in c earlier ≡ count_in n earlier → c ≤ n

-- One block, by a covering of the table.
pub record BlockLaws : Type 0 where
  -- the inverse of the results is four times the values
  pub restored : (n : ℕ) → Number n → (v : ℕ → ℤ) (a : ℕ) → a < 16 → inverse (word_of n) (forward (word_of n) v) a ≡ pos 4 *ℤ v a
  -- and the results of the inverse are four times the results
  pub returned : (n : ℕ) → Number n → (t : ℕ → ℕ → ℤ) (b s : ℕ) → b < 4 → s < 4 → forward (word_of n) (inverse (word_of n) t) b s ≡ pos 4 *ℤ t b s
  -- the squares count four times, both ways
  pub forward_squares : (n : ℕ) → Number n → (v : ℕ → ℤ) → Σℕ 4 (λ s. Σℕ 4 (λ b. sq (forward (word_of n) v b s))) ≡ 4 * Σℕ 16 (λ a. sq (v a))
  pub inverse_squares : (n : ℕ) → Number n → (t : ℕ → ℕ → ℤ) → Σℕ 16 (λ a. sq (inverse (word_of n) t a)) ≡ 4 * Σℕ 4 (λ s. Σℕ 4 (λ b. sq (t b s)))
  -- both are additive: the results of a difference are the differences of the results
  pub forward_additive : (w : List ℕ) (v u : ℕ → ℤ) (b s : ℕ) → forward w (λ a. v a -ℤ u a) b s ≡ forward w v b s -ℤ forward w u b s
  pub inverse_additive : (w : List ℕ) (t u : ℕ → ℕ → ℤ) (a : ℕ) → inverse w (λ b s. t b s -ℤ u b s) a ≡ inverse w t a -ℤ inverse w u a
  -- the four squares: 0 upper left, 1 lower left, 2 upper right, 3 lower right
  pub squares : (a : ℕ) → a < 16 → square_of a ≡ cond (ltb (row a) 2) (cond (ltb (col a) 2) 0 2) (cond (ltb (col a) 2) 1 3)
  -- no labelling has fewer differing cells than the labels of a covering
  pub fewest : (n : ℕ) → Number n → (k : ℕ) → k < 24 → differing (word_of n) (labels_of (word_of n)) ≤ differing (word_of n) (get_or labellings k [])
  -- and they are the smallest list of those with as few: each listed before them has more
  pub smallest : (n : ℕ) → Number n → (j : ℕ) × (j < 24) × (labels_of (word_of n) ≡ get_or labellings j [])
      × ((k : ℕ) → k < j → differing (word_of n) (labels_of (word_of n)) < differing (word_of n) (get_or labellings k []))
  -- the choice is a covering, the right one among the 117, and no cutting costs less
  pub number : (earlier : List ℕ) (v : ℕ → ℤ) → Number (pick earlier v)
  pub wins : (earlier : List ℕ) (v : ℕ → ℤ) (n : ℕ) → Number n → Wins earlier v (pick earlier v) n
  pub least : (earlier : List ℕ) (v : ℕ → ℤ) (shape : ℕ → ℕ → Bool) → Shapes shape → cost_of (shapes_of (word_of (pick earlier v))) v ≤ cost_of shape v
  -- nor a cutting by names, whatever they are; of a covering's own names that cost is its cost
  pub least_named : (earlier : List ℕ) (v : ℕ → ℤ) (name : ℕ → ℕ) → Cutting name → cost_of (shapes_of (word_of (pick earlier v))) v ≤ cost_named name v
  pub named : (n : ℕ) → Number n → (v : ℕ → ℤ) → cost_named (name_of (word_of n)) v ≡ cost_of (shapes_of (word_of n)) v
