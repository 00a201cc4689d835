-- `calibration::card::card` meets its contract. The loop's invariant: the values passed are there. Assumes nothing.
use mathlib.Core.Path.{◌≡◌}
use Rattle.integers.specs.Lists.{half}
use Rattle.coverings.specs.Words.{word_of}
use Rattle.calibration.specs.Found.{card_values}
use Rattle.calibration.proofs.card.card.Given as goal

abbrev pub invariant-loop-k : goal.invariant-loop-k
invariant-loop-k l = l.x-items ≡ half (card_values (word_of l.covering) l.s) l.initial.x-items l.k
