-- `tables::cells` meets its contract: the constant is the defined table, by computation. Assumes nothing.
use mathlib.Core.Path.{refl}
use Rattle.coverings.specs.Words.{words}
use Rattle.block.specs.Block.{labels_of}
use Rattle.tables.specs.Tables.{cell_table}
use Rattle.tables.proofs.cells.Goals as goal

pub returns : goal.returns
unfolding words labels_of cell_table
returns c = refl
