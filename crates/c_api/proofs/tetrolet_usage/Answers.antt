-- `c_api::tetrolet_usage` meets its contract: that of the entry below, with its values told through references. Assumes nothing.
use Rattle.sheet.specs.Usage.{UsageAnswered}
use Rattle.c_api.proofs.Told.{told_by}
use Rattle.c_api.proofs.tetrolet_usage.Goals as goal

pub returns : goal.returns
returns c = (told_by (UsageAnswered _ _ _) c.usage.ensures c.tell.ensures.number c.tell.ensures.count, c.tell.ensures.told)
