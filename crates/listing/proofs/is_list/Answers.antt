-- `listing::is_list` meets its contract: each test, one after the other. Assumes nothing.
use Rattle.std.proofs.Common.{rules}
use borrow.Author.Tests.{tests}
use Rattle.std.proofs.lemmas.List.Sorted.{answers_always}
use lib.Dec.{ltb}
use Rattle.coder.proofs.Told.{rises_is}
use Rattle.listing.proofs.Lists.{empty_list, unsorted_list, sorted_list}
use Rattle.listing.proofs.is_list.Goals as goal

pub returns-then-is_empty : goal.returns-then-is_empty
returns-then-is_empty c = empty_list _ c.is_empty.ensures c.if-is_empty.true

pub returns-then-is_sorted_by : goal.returns-then-is_sorted_by
returns-then-is_sorted_by c =
    sorted_list _ c.is_empty.ensures c.if-is_empty.false
    (rises_is _ _ (c.is_sorted_by.ensures.cases ltb (answers_always _ _ _ (λ f a r g k. search (rules, tests)))))
    c.if-is_sorted_by.true c.all_numbers.ensures

pub returns-else-is_sorted_by : goal.returns-else-is_sorted_by
returns-else-is_sorted_by c =
    unsorted_list _ c.is_empty.ensures c.if-is_empty.false
    (rises_is _ _ (c.is_sorted_by.ensures.cases ltb (answers_always _ _ _ (λ f a r g k. search (rules, tests)))))
    c.if-is_sorted_by.false
