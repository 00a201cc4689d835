-- `cutter_text::samples::largest_side` meets its contract. Assumes nothing.
use mathlib.Core.Path.{refl}
use Rattle.cutter_text.proofs.Laws.{laws}
use Rattle.cutter_text.proofs.samples.largest_side.Goals as goal

pub returns : goal.returns
returns c = (refl, laws)
