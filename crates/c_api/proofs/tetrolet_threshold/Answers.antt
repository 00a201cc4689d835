-- `c_api::tetrolet_threshold` meets its contract: that of the entry below, with its values told through references. Assumes nothing.
use Rattle.keeping.specs.Entries.{Cut}
use Rattle.c_api.proofs.Told.{told_by}
use Rattle.c_api.proofs.tetrolet_threshold.Goals as goal

pub returns : goal.returns
returns c = (told_by (Cut _ _ _ _ _ _) c.threshold.ensures c.tell.ensures.number c.tell.ensures.count, c.tell.ensures.told)
