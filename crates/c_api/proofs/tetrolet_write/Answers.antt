-- `c_api::tetrolet_write` meets its contract: that of the entry below, with its values told through references. Assumes nothing.
use Rattle.sheet.specs.Write.{WriteAnswered}
use Rattle.c_api.proofs.Told.{told_by}
use Rattle.c_api.proofs.tetrolet_write.Goals as goal

pub returns : goal.returns
returns c = (told_by (WriteAnswered _ _ _ _ _ _ _) c.write.ensures c.tell.ensures.number c.tell.ensures.count, c.tell.ensures.told)
