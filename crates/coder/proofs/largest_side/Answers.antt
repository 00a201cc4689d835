-- `coder::largest_side` meets its contract. Assumes nothing.
use mathlib.Core.Path.{refl}
use Rattle.coder.proofs.Together.{laws}
use Rattle.coder.proofs.largest_side.Goals as goal

pub returns : goal.returns
returns c = (refl, laws)
