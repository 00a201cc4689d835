-- `terms::largest_tolerance` meets its contract. Assumes nothing.
use mathlib.Core.Path.{refl}
use Rattle.terms.proofs.All.{laws}
use Rattle.terms.proofs.Examples.{computed}
use Rattle.terms.proofs.largest_tolerance.Goals as goal

pub returns : goal.returns
returns c = (refl, laws, computed)
