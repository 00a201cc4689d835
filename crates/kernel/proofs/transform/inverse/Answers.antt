-- `kernel::transform::inverse` meets its contract. Assumes nothing.
use Rattle.kernel.proofs.transform.inverse.Goals as goal

pub by_cells-requires : goal.by_cells-requires
by_cells-requires c = c.requires.0

pub returns : goal.returns
returns c = c.by_cells.ensures _ c.by_labels-labelled.ensures
