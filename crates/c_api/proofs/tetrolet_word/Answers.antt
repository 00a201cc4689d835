-- `c_api::tetrolet_word` meets its contract: that of the entry below. Assumes nothing.
use Rattle.c_api.proofs.tetrolet_word.Goals as goal

pub returns : goal.returns
returns c = rw c.code.ensures c.word_of.ensures
