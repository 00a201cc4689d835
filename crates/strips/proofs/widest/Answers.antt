-- `strips::widest` meets its contract.
-- Assumes nothing.
use mathlib.Core.Path.{refl}
use Rattle.strips.proofs.All.{laws}
use Rattle.strips.proofs.widest.Goals as goal

pub returns : goal.returns
returns c = (refl, laws)
