-- `joining::put_pair` meets its contract. Assumes nothing.
use Rattle.joining.proofs.Pairs.{paired}
use Rattle.joining.proofs.put_pair.Goals as goal

pub returns : goal.returns
returns c =
    paired c.args.height c.args.top c.args.col c.args.tall c.args.wide c.args.left.now c.args.right.now c.args.out.now c.requires c.move_columns.ensures c.move_columns-2.ensures
