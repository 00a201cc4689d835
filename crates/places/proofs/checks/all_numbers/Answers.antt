-- `places::checks::all_numbers` meets its contract. Assumes nothing.
use mathlib.Core.Path.{◌∙◌}
use borrow.Author.Tests.{tests}
use borrow.Author.Rules.{rules}
use Rattle.std.proofs.lemmas.Iterator.{YieldsList-from_slice}
use Rattle.std.proofs.lemmas.Iterator.Search.{all_from_yields_List}
use Rattle.integers.proofs.Every.{list_all_every}
use Rattle.coverings.specs.Entry.{is_number}
use Rattle.places.proofs.checks.all_numbers.Goals as goal

pub returns : goal.returns
returns c =
    all_from_yields_List is_number _ _ _ c.all.ensures.ran (YieldsList-from_slice c.args.coverings.now cc) (λ x b q k. search (rules, tests)) ∙ list_all_every is_number c.args.coverings.now
