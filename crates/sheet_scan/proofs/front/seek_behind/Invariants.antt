-- `sheet_scan::front::seek_behind` meets its contract: no place that was passed is the line's. Assumes nothing.
use Rattle.sheet_scan.specs.Front.{Skipped}
use Rattle.sheet_scan.proofs.front.seek_behind.Given as goal

abbrev pub invariant-loop-k : goal.invariant-loop-k
invariant-loop-k l = Skipped l.height l.width l.f l.initial.k l.k

abbrev pub decreases-loop-k : goal.decreases-loop-k
decreases-loop-k l = l.k.left
