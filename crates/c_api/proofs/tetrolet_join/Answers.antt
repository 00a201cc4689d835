-- `c_api::tetrolet_join` meets its contract: that of the entry below. Assumes nothing.
use Rattle.c_api.proofs.tetrolet_join.Goals as goal

pub returns : goal.returns
returns c = rw c.code.ensures c.join.ensures
