-- `coder::all_samples` meets its contract. Assumes nothing.
use Rattle.std.proofs.Common.{rules}
use Rattle.std.proofs.lemmas.Iterator.{YieldsList-from_slice}
use Rattle.std.proofs.lemmas.Iterator.Search.{all_from_yields_List}
use borrow.Author.Tests.{tests}
use Rattle.coder.specs.Entries.{is_sample}
use Rattle.coder.proofs.Told.{every_is}
use Rattle.coder.proofs.all_samples.Goals as goal

pub returns : goal.returns
returns c = rw every_is (all_from_yields_List is_sample _ _ _ c.all.ensures.ran (YieldsList-from_slice c.args.samples.now (cc)) (λ x b q k. search (rules, tests)))
