-- `cutting::longest_input` meets its contract. Assumes nothing.
use mathlib.Core.Path.{refl}
use Rattle.cutting.proofs.Input.{laws}
use Rattle.cutting.proofs.longest_input.Goals as goal

pub returns : goal.returns
returns c = (refl, laws)
