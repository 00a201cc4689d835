-- `cover::count` meets its contract.
-- Assumes nothing.
use mathlib.Core.Path.{refl}
use Rattle.coverings.proofs.Table.{rule}
use Rattle.coverings.proofs.count.Goals as goal

pub returns : goal.returns
returns c = (refl, rule)
