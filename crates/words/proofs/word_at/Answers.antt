-- `words::word_at` meets its contract. Assumes nothing.
use mathlib.Core.Path.{sym, ◌∙◌}
use native.Mathlib.Omega.{arith}
use Rattle.words.proofs.Packed.{packed_eight}
use Rattle.words.proofs.word_at.Goals as goal

pub returns : goal.returns
returns c =
    let a = c.args in
    (c.word_of.ensures ∙ sym (packed_eight a.s.now a.at (omega arith)), λ k. omega (arith, c.type_inv.s k))
