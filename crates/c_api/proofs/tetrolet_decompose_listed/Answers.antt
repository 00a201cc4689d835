-- `c_api::tetrolet_decompose_listed` meets its contract: that of the entry below. Assumes nothing.
use Rattle.c_api.proofs.tetrolet_decompose_listed.Goals as goal

pub returns : goal.returns
returns c = rw c.code.ensures c.decompose_listed.ensures
