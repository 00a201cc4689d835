-- `coverings::all_words` meets its contract: the constant is the words one after the other, by computation. Assumes nothing.
use mathlib.Core.Path.{refl}
use Rattle.coverings.specs.Words.{words, table}
use Rattle.coverings.proofs.all_words.Goals as goal

pub returns : goal.returns
unfolding words table
returns c = refl
