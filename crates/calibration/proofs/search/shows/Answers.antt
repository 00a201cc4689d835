-- `calibration::search::shows` meets its contract. Assumes nothing.
use mathlib.Core.Path.{ap, ◌∙◌}
use mathlib.Core.List.{List}
use lib.IntN.{ℤ}
use Rattle.coverings.specs.Words.{word_of}
use Rattle.kernel.specs.Kernel.{at}
use Rattle.calibration.specs.Card.{only_zero}
use Rattle.calibration.proofs.Cells.{values_within, values_show}
use Rattle.calibration.proofs.search.shows.Goals as goal

pub only-requires : goal.only-requires
only-requires c =
    (c.requires, λ a h. rw c.card-v.ensures (values_within (word_of c.args.covering) c.args.choice.now c.fits-choice a h))

pub returns : goal.returns
returns c = c.only.ensures ∙ ap (λ (l : List ℤ). only_zero c.args.covering (at l)) c.card-v.ensures ∙ values_show c.args.covering c.args.choice.now
