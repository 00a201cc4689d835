-- `words::same_words` meets its contract: the words that are left decide. Assumes nothing.
use mathlib.Core.Path.{◌≡◌}
use Prim.Native.Nat.{◌+◌, ◌-◌, ◌%◌, ◌≤◌}
use lib.ListN.{drop}
use Rattle.words.specs.Words.{agree}
use Rattle.words.proofs.same_words.Given as goal

abbrev pub invariant-loop-i : goal.invariant-loop-i
invariant-loop-i l = (l.i ≤ l.whole) × (l.i % 8 ≡ 0) × (agree (l.whole - l.i) (drop (l.at + l.i) l.s) (drop l.i l.t) ≡ agree l.whole (drop l.at l.s) l.t)

abbrev pub decreases-loop-i : goal.decreases-loop-i
decreases-loop-i l = l.whole - l.i
