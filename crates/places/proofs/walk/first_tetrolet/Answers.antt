-- `places::walk::first_tetrolet` meets its contract. Assumes nothing.
use Rattle.places.proofs.Sides.{passed}
use Rattle.places.proofs.Steps.{tetrolet_start, tetrolets_all}
use Rattle.places.proofs.walk.first_tetrolet.Goals as goal

pub returns : goal.returns
returns c = let a = c.args in record { inside = tetrolet_start a.height a.width a.levels (passed a.height a.width a.levels c.requires.0 c.requires.1); result_value = tetrolets_all a.height a.width a.levels }
