-- `smoothing::weight` meets its contract. Assumes nothing.
use mathlib.Core.Path.{refl}
use Rattle.smoothing.proofs.Gates.{laws}
use Rattle.smoothing.proofs.weight.Goals as goal

pub returns : goal.returns
returns c = (refl, laws)
