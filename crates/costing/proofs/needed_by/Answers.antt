-- `costing::needed_by` meets its contract. The loops' invariant: the placements of the pieces passed are marked. Assumes nothing.
use Rattle.std.proofs.Common.{◌*◌, arith}
use Rattle.terms.proofs.Good.{entry}
use Rattle.costing.proofs.Placements.{mark_last}
use Rattle.costing.proofs.needed_by.Goals as goal

pub placement_of-k-requires : goal.placement_of-k-requires
placement_of-k-requires c = (entry c.args.list.now c.requires c.loop-covering.covering-index (omega arith), omega arith)

pub returns : goal.returns
returns c = mark_last c.args.list.now c.loop-covering.needed (c.loop-covering.covering-index * 4) (omega arith) c.loop-covering.invariant.1
