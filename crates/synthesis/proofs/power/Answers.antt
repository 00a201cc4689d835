-- `synthesis::power` meets its contract. Assumes nothing.
use native.Mathlib.Omega.{arith}
use Rattle.pyramid.proofs.Behind.{four_most}
use Rattle.synthesis.proofs.power.Goals as goal

pub pow-requires : goal.pow-requires
pow-requires c = omega (arith, four_most c.args.levels c.requires)
