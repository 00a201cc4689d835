-- `blockwise::quarter` meets its contract. Assumes nothing.
use Rattle.blockwise.proofs.Quads.{quarter_is}
use Rattle.blockwise.proofs.quarter.Goals as goal

pub returns : goal.returns
returns c =
    λ A i j e. quarter_is A i j c.args.q c.requires e c.result-1.given c.result-2-1.given c.result-3-1.given c.result-4-1.given
