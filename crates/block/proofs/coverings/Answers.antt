-- `block::coverings` meets its contract.
-- Assumes nothing.
use mathlib.Core.Path.{refl}
use Rattle.block.proofs.All.{laws}
use Rattle.block.proofs.coverings.Goals as goal

pub returns : goal.returns
returns c = (refl, laws)
