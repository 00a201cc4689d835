-- `variation::largest_step` meets its contract.
-- Assumes nothing.
use mathlib.Core.Path.{refl}
use Rattle.variation.proofs.All.{laws}
use Rattle.variation.proofs.largest_step.Goals as goal

pub returns : goal.returns
returns c = (refl, laws)
