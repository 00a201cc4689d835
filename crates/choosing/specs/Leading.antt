-- The choice with a tolerance as the code computes it: the costs and the counts of some coverings in a row, how a covering stands, and the one that leads at
-- the end. The coverings in the row are numbered from 1; those of a list by their places, and all 117 by their own numbers. Assumes nothing.
use Rattle.std.specs.Prelude.{◌≡◌, cond, List, ℕ, suc, ◌-◌, ◌<◌, ◌≤◌, leb, length, get_or}

-- n is a number in a row of m.
abbrev pub InRow : ℕ → ℕ → Type 0
InRow m n = (1 ≤ n) × (n ≤ m)

-- x has in a row of m what f says of each number.
abbrev pub Holds : ℕ → (ℕ → ℕ) → (ℕ → ℕ) → Type 0
Holds m x f = (k : ℕ) → k < m → x k ≡ f (suc k)

-- `all` has the costs of a row of m.
abbrev pub Priced : ℕ → (ℕ → ℕ) → List ℕ → Type 0
Priced m cost all = Holds m (λ k. get_or all k 0) cost

-- `counts` has how often each of the 117 was chosen; how often each of a list was.
abbrev pub Counted : (ℕ → ℕ) → List ℕ → Type 0
Counted count counts = Holds 117 (λ k. get_or counts k 0) count

abbrev pub CountedIn : List ℕ → (ℕ → ℕ) → List ℕ → Type 0
CountedIn list count counts = Holds (length list) (λ k. get_or counts (get_or list k 0 - 1) 0) count

-- No covering in the row costs less, and one costs as much.
pub record Cheapest (m : ℕ) (cost : ℕ → ℕ) (least : ℕ) : Type 0 where
  pub below : (n : ℕ) → InRow m n → least ≤ cost n
  pub one : (n : ℕ) × InRow m n × (cost n ≡ least)

-- How a covering of the cost `cost`, chosen `count` times, stands among those that cost at most `most`; 0 where it does not compete.
abbrev pub stands_at : ℕ → ℕ → ℕ → ℕ
stands_at most cost count = cond (leb cost most) (suc count) 0

-- The covering c is the first of the most frequent among those in the row that cost at most `most`.
pub record First (m : ℕ) (count cost : ℕ → ℕ) (most c : ℕ) : Type 0 where
  pub number : InRow m c
  pub near : cost c ≤ most
  pub often : (n : ℕ) → InRow m n → cost n ≤ most → count n ≤ count c
  pub first : (n : ℕ) → InRow m n → cost n ≤ most → count c ≡ count n → c ≤ n
