-- `coverings::copy_word` meets its contract. The answer also holds of a store in a part of `word` that is all of it, so that an edit of the part's end
-- is refused for what is stored. Assumes nothing.
use Rattle.std.proofs.Common.{ap, ◌∙◌, ◌+◌, ◌*◌, ◌-◌, ◌≡◌, arith, []}
use Rattle.std.specs.Prelude.{slice_range, drop}
use Rattle.std.proofs.lemmas.List.{drop_all, append-nil}
use Rattle.coverings.specs.Words.{word_of}
use Rattle.coverings.proofs.Flat.{word_part}
use Rattle.coverings.proofs.copy_word.Goals as goal

pub returns : goal.returns
returns c =
    let n = c.args.covering in
    let copied : c.copy_from_slice.new.self ≡ word_of n = c.copy_from_slice.ensures.after ∙ ap (λ t. slice_range t ((n - 1) * 16) ((n - 1) * 16 + 16)) c.all_words.ensures ∙ word_part n c.requires.0 in
    let ended : drop 16 c.args.word.now ≡ [] = drop_all 16 c.args.word.now (omega (arith, c.requires.1)) in
    simp (copied, ended, append-nil)
