-- `c_api::tetrolet_restore_master` meets its contract: that of the entry below. Assumes nothing.
use Rattle.c_api.proofs.tetrolet_restore_master.Goals as goal

pub returns : goal.returns
returns c = rw c.code.ensures c.restore_master.ensures.0
