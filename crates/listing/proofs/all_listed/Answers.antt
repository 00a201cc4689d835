-- `listing::all_listed` meets its contract: the marks tell what the list holds. The answer also holds where a part of `coverings` that is all of it is
-- looked at, so that an edit of the part's end is refused for what it leaves out. Assumes nothing.
use Rattle.std.proofs.Common.{◌≡◌, false, get_or, rules, arith, ◌∙◌}
use borrow.Author.Tests.{tests}
use Rattle.std.proofs.lemmas.Iterator.{YieldsList-from_slice}
use Rattle.std.proofs.lemmas.Iterator.Search.{all_from_yields_List}
use Rattle.std.proofs.lemmas.List.{take_all}
use Rattle.integers.specs.Lists.{one_of}
use Rattle.coder.proofs.Told.{every_is}
use Rattle.listing.proofs.Marks.{marks_tell}
use Rattle.listing.proofs.all_listed.Goals as goal

pub returns : goal.returns
returns c =
    let told = marks_tell c.args.list.now c.marks_of-marks.result c.marks_of-marks.ensures (λ k h. omega (arith, c.type_inv.list k)) in
    let whole : c.iter.result.rest.now ≡ c.args.coverings.now = grind (arith, take_all) in
    rw every_is
    (all_from_yields_List (one_of c.args.list.now) _ _ _ c.all.ensures.ran (YieldsList-from_slice c.args.coverings.now (cc (whole)))
    (λ x b q k.
    let z : (q ≡ _) × (b ≡ get_or c.marks_of-marks.result x.now false) = search (rules, tests) in
    (z.0, z.1 ∙ told x.now)))
