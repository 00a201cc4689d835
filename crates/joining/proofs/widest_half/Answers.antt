-- `joining::widest_half` meets its contract. Assumes nothing.
use mathlib.Core.Path.{refl}
use Rattle.joining.proofs.Together.{laws}
use Rattle.joining.proofs.widest_half.Goals as goal

pub returns : goal.returns
returns c = (refl, laws)
