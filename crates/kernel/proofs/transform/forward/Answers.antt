-- `kernel::transform::forward` meets its contract. Assumes nothing.
use Rattle.kernel.proofs.Kernel.{four_pieces}
use Rattle.kernel.proofs.transform.forward.Goals as goal

pub returns : goal.returns
returns c =
    four_pieces c.args.covering c.args.v c.requires.1 c.piece-a.ensures c.piece-b.ensures c.piece-c.ensures c.piece-d.ensures
