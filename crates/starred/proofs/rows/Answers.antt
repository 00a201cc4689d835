-- `starred::rows` meets its contract.
-- Assumes nothing.
use mathlib.Core.Path.{◌≡◌, refl}
use lib.ListN.{length}
use Rattle.starred.specs.Reckoned.{table}
use Rattle.starred.proofs.Examples.{reckoned}
use Rattle.starred.proofs.rows.Goals as goal

count : 14 ≡ length table
unfolding table
count = refl

pub returns : goal.returns
returns c = (count, reckoned)
