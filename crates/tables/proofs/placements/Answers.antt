-- `tables::placements` meets its contract: the constant is the defined table, by computation. Assumes nothing.
use mathlib.Core.Path.{refl}
use Rattle.coverings.specs.Words.{words}
use Rattle.tables.specs.Tables.{placement_list, placement_table}
use Rattle.tables.proofs.placements.Goals as goal

pub returns : goal.returns
unfolding words placement_list placement_table
returns c = refl
