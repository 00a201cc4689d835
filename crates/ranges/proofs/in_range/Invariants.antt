-- `ranges::in_range` meets its contract: level by level, then the low-pass. Assumes nothing.
use mathlib.Core.Path.{◌≡◌}
use Prim.Native.Nat.{◌-◌}
use Rattle.ranges.proofs.Levels.{most_at, Looked}
use Rattle.ranges.proofs.in_range.Given as goal

abbrev pub invariant-loop : goal.invariant-loop
invariant-loop l = (l.most ≡ most_at l.counter) × Looked l.levels l.height l.width l.plane l.counter (l.levels - l.counter) l.tall l.wide
