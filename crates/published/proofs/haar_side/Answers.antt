-- `published::haar_side` meets its contract.
-- Assumes nothing.
use mathlib.Core.Path.{refl}
use Rattle.published.proofs.All.{laws}
use Rattle.published.proofs.haar_side.Goals as goal

pub returns : goal.returns
returns c = (refl, laws)
