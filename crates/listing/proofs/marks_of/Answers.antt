-- `listing::marks_of` meets its contract. The loop's invariant: a number is marked, or among those still to come, just if it is in the list. Assumes nothing.
use Rattle.std.proofs.Common.{arith}
use Rattle.listing.proofs.Marks.{marks_none, marks_next, marks_all}
use Rattle.listing.proofs.marks_of.Goals as goal

pub loop-n-init : goal.loop-n-init
loop-n-init c = marks_none c.args.list.now

pub loop-n-preserved : goal.loop-n-preserved
loop-n-preserved c = marks_next _ c.loop-n.n-index c.loop-n.marks c.loop-n.invariant (omega arith) (omega (arith, c.type_inv.list c.loop-n.n-index))

pub returns : goal.returns
returns c = marks_all _ c.loop-n.n-index c.loop-n.marks c.loop-n.invariant (omega arith)
