-- `listing::stand_checks` meets its contract: each return by what the tests before it found. Assumes nothing.
use mathlib.Core.Path.{◌≡◌, sym, ◌∙◌}
use mathlib.Core.Bool.{true}
use Rattle.integers.specs.Lists.{every, one_of}
use Rattle.terms.specs.Terms.{is_list}
use Rattle.listing.proofs.Together.{stand_numbers}
use Rattle.listing.proofs.stand_checks.Goals as goal

pub returns-then-not-is_list : goal.returns-then-not-is_list
returns-then-not-is_list c = λ rest. rw (← c.is_list.ensures, c.if-not-is_list.true)

pub returns-then-all_listed : goal.returns-then-all_listed
returns-then-all_listed c =
    let a = c.args in
    let good : is_list a.list.now ≡ true = sym c.is_list.ensures ∙ c.if-not-is_list.false in
    let stand : every (one_of a.list.now) a.coverings.now ≡ true = sym c.all_listed.ensures ∙ c.if-all_listed.true in
    λ rest. rw (good, stand_numbers a.list.now a.coverings.now good stand, stand)

pub returns-then-not-all_numbers : goal.returns-then-not-all_numbers
returns-then-not-all_numbers c = λ rest. rw (← c.is_list.ensures, c.if-not-is_list.false, ← c.all_numbers.ensures, c.if-not-all_numbers.true)

pub returns : goal.returns
returns c =
    λ rest. rw (← c.is_list.ensures, c.if-not-is_list.false, ← c.all_numbers.ensures, c.if-not-all_numbers.false, ← c.all_listed.ensures, c.if-all_listed.false)
