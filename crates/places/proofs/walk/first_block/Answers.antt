-- `places::walk::first_block` meets its contract. Assumes nothing.
use Rattle.places.proofs.Sides.{passed}
use Rattle.places.proofs.Steps.{block_start, blocks_all}
use Rattle.places.proofs.walk.first_block.Goals as goal

pub returns : goal.returns
returns c = let a = c.args in record { inside = block_start a.height a.width a.levels (passed a.height a.width a.levels c.requires.0 c.requires.1); result_value = blocks_all a.height a.width a.levels }
