-- `ranges::rectangle_bounded` meets its contract: column by column. Assumes nothing.
use Rattle.ranges.specs.Bounds.{Rectangle}
use Rattle.ranges.proofs.rectangle_bounded.Given as goal

abbrev pub invariant-loop-c : goal.invariant-loop-c
invariant-loop-c l = Rectangle l.low l.most l.plane l.height l.first l.tall l.c
