-- `keeping::largest_threshold` meets its contract. Assumes nothing.
use mathlib.Core.Path.{refl}
use Rattle.keeping.proofs.Again.{laws}
use Rattle.keeping.proofs.largest_threshold.Goals as goal

pub returns : goal.returns
returns c = (refl, laws)
