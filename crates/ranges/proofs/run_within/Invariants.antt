-- `ranges::run_within` meets its contract. Assumes nothing.
use Prim.Native.Nat.{◌≤◌}
use Rattle.ranges.proofs.Runs.{Counts}
use Rattle.ranges.proofs.run_within.Given as goal

abbrev pub invariant-loop-v : goal.invariant-loop-v
invariant-loop-v l = (l.beyond ≤ l.v-index) × Counts l.most l.run 0 l.v-index l.beyond
