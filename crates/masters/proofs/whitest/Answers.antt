-- `masters::whitest` meets its contract. Assumes nothing.
use mathlib.Core.Path.{refl}
use Rattle.masters.proofs.Numerators.{laws}
use Rattle.masters.proofs.whitest.Goals as goal

pub returns : goal.returns
returns c = (refl, laws)
