-- `kernel::transform::by_labels` meets its contract. Assumes nothing.
use Rattle.kernel.proofs.Kernel.{four_backs}
use Rattle.kernel.proofs.transform.by_labels.Goals as goal

pub returns : goal.returns
returns c =
    four_backs c.args.t c.requires c.unsum-a.ensures c.unsum-b.ensures c.unsum-c.ensures c.unsum-d.ensures
