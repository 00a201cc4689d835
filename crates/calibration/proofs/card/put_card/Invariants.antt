-- `calibration::card::put_card` meets its contract. The loop's invariant: the samples passed are there. Assumes nothing.
use mathlib.Core.Path.{◌≡◌}
use Rattle.integers.specs.Lists.{half}
use Rattle.coverings.specs.Words.{word_of}
use Rattle.calibration.specs.Card.{card_samples}
use Rattle.calibration.proofs.card.put_card.Given as goal

abbrev pub invariant-loop-k : goal.invariant-loop-k
invariant-loop-k l = l.samples ≡ half (card_samples (word_of l.covering) l.s) l.initial.samples l.k
