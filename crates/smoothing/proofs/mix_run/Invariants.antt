-- `smoothing::mix_run` meets its contract. Assumes nothing.
use mathlib.Core.Path.{◌≡◌}
use mathlib.Core.List.{List}
use Prim.Native.Nat.{◌+◌}
use lib.IntN.{ℤ}
use lib.ListN.{length}
use Rattle.integers.specs.Lists.{half}
use Rattle.smoothing.specs.Mixed.{Mixes}
use Rattle.smoothing.proofs.mix_run.Given as goal

abbrev pub invariant-loop-i : goal.invariant-loop-i
invariant-loop-i l =
    (new old : List ℤ) → Mixes l.step l.low l.plane l.decomposed l.first l.count new → length new ≡ length old → length old ≡ length l.initial.out → l.initial.out ≡ half new old l.first → l.out ≡ half new old (l.first + l.i)
