-- `c_api::tetrolet_decompose` meets its contract: that of the entry below. Assumes nothing.
use Rattle.c_api.proofs.tetrolet_decompose.Goals as goal

pub returns : goal.returns
returns c = rw c.code.ensures c.decompose.ensures
