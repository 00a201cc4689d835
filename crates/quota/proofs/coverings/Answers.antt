-- `quota::coverings` meets its contract.
-- Assumes nothing.
use mathlib.Core.Path.{refl}
use Rattle.quota.proofs.All.{laws}
use Rattle.quota.proofs.coverings.Goals as goal

pub returns : goal.returns
returns c = (refl, laws)
