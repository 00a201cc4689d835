-- `pyramid::most_levels` meets its contract.
-- Assumes nothing.
use mathlib.Core.Path.{refl}
use Rattle.pyramid.proofs.All.{laws}
use Rattle.pyramid.proofs.most_levels.Goals as goal

pub returns : goal.returns
returns c = (refl, laws)
