-- `choosing::least::choose_least` meets its contract. The loop's invariant: the best is the choice among the coverings below n. Assumes nothing.
use Rattle.choosing.proofs.Best.{Best}
use Rattle.choosing.proofs.least.choose_least.Given as goal

abbrev pub invariant-loop-n : goal.invariant-loop-n
invariant-loop-n l = Best l.costs l.counts l.n l.best
