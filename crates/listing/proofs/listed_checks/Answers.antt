-- `listing::listed_checks` meets its contract: the checks of decompose_within, then the list. Assumes nothing.
use mathlib.Core.Bool.{not}
use Rattle.refusals.specs.Refusal.{refuse_if}
use Rattle.refusals.proofs.After.{front_refused, front_passed}
use Rattle.terms.specs.Terms.{is_list}
use Rattle.listing.proofs.listed_checks.Goals as goal

pub within_checks-requires : goal.within_checks-requires
within_checks-requires c = tt

pub is_list-requires : goal.is_list-requires
is_list-requires c = tt

pub returns-then-not-is_list : goal.returns-then-not-is_list
returns-then-not-is_list c = rw (← front_passed (refuse_if (not (is_list c.args.list.now)) 14 0) c.in_ok-within_checks.was (c.within_checks.ensures _), ← c.is_list.ensures, c.if-not-is_list.true)

pub returns : goal.returns
returns c = rw (← front_passed (refuse_if (not (is_list c.args.list.now)) 14 0) c.in_ok-within_checks.was (c.within_checks.ensures _), ← c.is_list.ensures, c.if-not-is_list.false)
