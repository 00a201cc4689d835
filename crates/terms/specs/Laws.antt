-- The laws of a choice on terms, as one record: what is proved of the definitions once and for all. Assumes nothing.
use Rattle.std.specs.Prelude.{◌≡◌, ◌↔◌, Bool, List, ℕ, ◌+◌, ◌<◌, ◌≤◌, T, ℤ, length, get_or}
use Rattle.integers.specs.Lists.{one_of}
use Rattle.coverings.specs.Block.{Shapes, Cutting}
use Rattle.coverings.specs.Rule.{Number}
use Rattle.block.specs.Block.{cost_of, cost_named, count_in, pick}
use Rattle.terms.specs.Terms.{Terms, all_numbers, within, is_list, cost_at, pick_terms}

-- A list that is not refused, by its places: it has one, each holds a covering, and each later one a higher number.
pub record GoodList (l : List ℕ) : Type 0 where
  pub some : 0 < length l
  pub numbers : (k : ℕ) → k < length l → Number (get_or l k 0)
  pub rising : (j k : ℕ) → j < k → k < length l → get_or l j 0 < get_or l k 0

-- Covering n is in the list.
abbrev pub InList : Terms → ℕ → Type 0
InList t n = T (one_of t.list n)

-- Covering n is near: it costs at most the tolerance more than each one in the list. One in the list competes if it is near.
abbrev pub Competes : Terms → (ℕ → ℤ) → ℕ → Type 0
Competes t v n = (m : ℕ) → InList t m → cost_at v n ≤ cost_at v m + t.tolerance

-- The covering c is rightly chosen where n is another in the list: c costs at most the tolerance more; if n competes, it was not chosen more often; if it
-- competes and was chosen as often, it does not have the lower number. Among those that compete nothing is said of the cost.
pub record WinsBy (t : Terms) (earlier : List ℕ) (v : ℕ → ℤ) (c n : ℕ) : Type 0 where
  pub near : cost_at v c ≤ cost_at v n + t.tolerance
  pub often : Competes t v n → count_in n earlier ≤ count_in c earlier
  pub first : Competes t v n → count_in c earlier ≡ count_in n earlier → c ≤ n

-- The choice on terms whose list is not refused.
pub record ListedLaws (t : Terms) (earlier : List ℕ) (v : ℕ → ℤ) : Type 0 where
  -- the choice is a covering in the list, and wins against each in the list
  pub number : Number (pick_terms t earlier v)
  pub listed : InList t (pick_terms t earlier v)
  pub wins : (n : ℕ) → InList t n → WinsBy t earlier v (pick_terms t earlier v) n
  -- no other in the list does
  pub only : (c : ℕ) → InList t c → ((n : ℕ) → InList t n → WinsBy t earlier v c n) → c ≡ pick_terms t earlier v

pub record TermsLaws : Type 0 where
  -- what a list is that is not refused; it has at most 117 places, and with 117 it is that of all coverings, which holds each
  pub lists : (l : List ℕ) → T (is_list l) ↔ GoodList l
  pub short : (l : List ℕ) → T (is_list l) → length l ≤ 117
  pub full : (l : List ℕ) → T (is_list l) → (length l ≡ 117) ↔ (l ≡ all_numbers)
  pub all : (n : ℕ) → T (one_of all_numbers n) ↔ Number n
  -- the choice on such a list
  pub chosen : (t : Terms) → T (is_list t.list) → (earlier : List ℕ) (v : ℕ → ℤ) → ListedLaws t earlier v
  -- wish 7: "with all 117 listed, that is every cutting there is", by shapes and by names
  pub near : (t : Terms) → t.list ≡ all_numbers → (earlier : List ℕ) (v : ℕ → ℤ) (shape : ℕ → ℕ → Bool) → Shapes shape → cost_at v (pick_terms t earlier v) ≤ cost_of shape v + t.tolerance
  pub near_named : (t : Terms) → t.list ≡ all_numbers → (earlier : List ℕ) (v : ℕ → ℤ) (name : ℕ → ℕ) → Cutting name → cost_at v (pick_terms t earlier v) ≤ cost_named name v + t.tolerance
  -- wish 6: "With t = 0 everything is as without it"
  pub without : (earlier : List ℕ) (v : ℕ → ℤ) → pick_terms (within 0) earlier v ≡ pick earlier v
  -- the choice reads the sixteen values, and of the earlier choices how often each was made
  pub reads : (t : Terms) (earlier : List ℕ) (v u : ℕ → ℤ) → ((a : ℕ) → a < 16 → v a ≡ u a) → pick_terms t earlier v ≡ pick_terms t earlier u
  pub counted : (t : Terms) (before after : List ℕ) (v : ℕ → ℤ) → ((n : ℕ) → count_in n before ≡ count_in n after) → pick_terms t before v ≡ pick_terms t after v
