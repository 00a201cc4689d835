-- What the code asks of a list and of the coverings that are to stand in it. Assumes nothing.
use Rattle.std.specs.Prelude.{◌≡◌, Bool, false, not, List, ℕ, ◌<◌, length, get_or}
use Rattle.refusals.specs.Refusal.{refuse_if}
use Rattle.integers.specs.Lists.{every, one_of}
use Rattle.coverings.specs.Entry.{is_number}
use Rattle.terms.specs.Terms.{is_list}

-- The marks of a list: each number below 256 is marked just if it is in the list.
abbrev pub Marked : List ℕ → List Bool → Type 0
Marked list marks = (length marks ≡ 256) × ((n : ℕ) → n < 256 → get_or marks n false ≡ one_of list n)

-- The checks of restoring with a list between 3 and 6; rest is what those behind them give.
abbrev pub stand_refusal : List ℕ → List ℕ → ℕ → ℕ
stand_refusal coverings list rest =
    refuse_if (not (is_list list)) 14
    (refuse_if (not (every is_number coverings)) 5
    (refuse_if (not (every (one_of list) coverings)) 18
    rest))
