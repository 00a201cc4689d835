-- `synthesis::nearest_to` meets its contract. Assumes nothing.
use native.Mathlib.Omega.{arith}
use lib.IntN.{pos}
use Rattle.integers.proofs.Bound.{sfits64}
use Rattle.pyramid.proofs.Behind.{four_most}
use Rattle.synthesis.proofs.Counted.{twice_fits, sum_fits, nearest_is}
use Rattle.synthesis.proofs.nearest_to.Goals as goal

pub overflow_mul-result : goal.overflow_mul-result
overflow_mul-result c = twice_fits c.args.y c.args.levels c.args.unit c.ranges.y c.requires.0 c.requires.1 c.requires.2

pub overflow_cast-result : goal.overflow_cast-result
overflow_cast-result c = sfits64 (pos c.args.unit) (omega (arith, four_most c.args.levels c.requires.1))

pub overflow_add-result : goal.overflow_add-result
overflow_add-result c = sum_fits c.args.y c.args.levels c.args.unit c.ranges.y c.requires.0 c.requires.1 c.requires.2

pub returns : goal.returns
returns c = nearest_is c.args.y c.args.levels c.args.unit c.ranges.y c.requires.0 c.requires.1 c.requires.2
