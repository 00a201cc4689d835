-- `c_api::tetrolet_test_image` meets its contract: that of the entry below. Assumes nothing.
use Rattle.c_api.proofs.tetrolet_test_image.Goals as goal

pub returns : goal.returns
returns c = rw c.code.ensures c.test_image.ensures.0
