-- `c_api::tetrolet_keep` meets its contract: that of the entry below, with its values told through references. Assumes nothing.
use Rattle.keeping.specs.Entries.{Kept}
use Rattle.c_api.proofs.Told.{told_by}
use Rattle.c_api.proofs.tetrolet_keep.Goals as goal

pub returns : goal.returns
returns c = (told_by (Kept _ _ _ _ _ _) c.keep.ensures c.tell.ensures.number c.tell.ensures.count, c.tell.ensures.told)
