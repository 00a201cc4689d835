-- `places::checks::reaches` meets its contract. Assumes nothing.
use native.Mathlib.Omega.{arith}
use Rattle.places.proofs.Tests.{depth_other}
use Rattle.places.proofs.checks.reaches.Goals as goal

pub returns-then-levels-lt1 : goal.returns-then-levels-lt1
returns-then-levels-lt1 c = depth_other c.args.levels c.args.side (λ p l. omega (arith, c.then-levels-lt1.either)) c.requires
