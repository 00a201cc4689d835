-- `places::checks::power` meets its contract. Assumes nothing.
use native.Mathlib.Omega.{arith}
use Rattle.places.proofs.Tests.{power_small}
use Rattle.places.proofs.checks.power.Goals as goal

pub pow-requires : goal.pow-requires
pow-requires c = omega (arith, power_small c.args.r c.requires)
