-- `words::word_of` meets its contract: each byte at its own weight. Assumes nothing.
use native.Mathlib.Omega.{arith}
use Rattle.words.proofs.word_of.Goals as goal

pub returns : goal.returns
returns c = omega arith
