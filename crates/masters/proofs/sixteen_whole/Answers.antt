-- `masters::sixteen_whole` meets its contract. Assumes nothing.
use mathlib.Core.Path.{◌∙◌}
use borrow.Author.Rules.{rules}
use borrow.Author.Tests.{tests}
use Rattle.std.proofs.lemmas.Iterator.{YieldsList-from_slice}
use Rattle.std.proofs.lemmas.Iterator.Search.{all_from_yields_List}
use Rattle.integers.proofs.Every.{list_all_every}
use Rattle.masters.specs.Whole.{is_whole}
use Rattle.masters.proofs.sixteen_whole.Goals as goal

pub returns : goal.returns
returns c =
    all_from_yields_List (is_whole c.args.levels) _ _ _ c.all.ensures.ran (YieldsList-from_slice c.args.v.now cc) (λ x b q k. search (rules, tests)) ∙ list_all_every (is_whole c.args.levels) c.args.v.now
