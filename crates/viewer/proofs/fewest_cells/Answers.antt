-- `viewer::fewest_cells` meets its contract. Assumes nothing.
use mathlib.Core.Path.{refl}
use Rattle.viewer.proofs.Gates.{laws}
use Rattle.viewer.proofs.fewest_cells.Goals as goal

pub returns : goal.returns
returns c = (refl, laws)
