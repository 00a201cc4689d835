-- `coverings::word_of` meets its contract: each return has the tests of the checks before it. Assumes nothing.
use native.Mathlib.Omega.{arith}
use Rattle.coverings.proofs.Checks.{wrong_frame, no_covering, word_given}
use Rattle.coverings.proofs.word_of.Goals as goal

pub returns-then-word-ne16 : goal.returns-then-word-ne16
returns-then-word-ne16 c = wrong_frame _ _ c.if-word-ne16.true

pub returns-then-covering-eq0 : goal.returns-then-covering-eq0
returns-then-covering-eq0 c = no_covering _ _ (omega arith) (λ n. omega arith)

pub returns-then-covering-gt117 : goal.returns-then-covering-gt117
returns-then-covering-gt117 c = no_covering _ _ (omega arith) (λ n. omega arith)

pub copy_word-requires : goal.copy_word-requires
copy_word-requires c = ((omega arith, omega arith), omega arith)

pub returns : goal.returns
returns c = word_given _ _ (omega arith) (omega arith, omega arith) _ c.copy_word.ensures
