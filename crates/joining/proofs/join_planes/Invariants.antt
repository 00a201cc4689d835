-- `joining::join_planes` meets its contract. The loop's invariant: so many levels are left, and the others stand. Assumes nothing.
use mathlib.Core.Path.{◌≡◌}
use Prim.Native.Nat.{ℕ, ◌+◌}
use lib.ListN.{length}
use Rattle.joining.proofs.Halves.{Half}
use Rattle.joining.proofs.join_planes.Given as goal

abbrev pub invariant-loop : goal.invariant-loop
invariant-loop l = (rest : ℕ) × (rest + l.counter ≡ l.levels) × (length l.plane ≡ length l.initial.plane) × Half l.levels l.height l.width rest l.tall l.wide l.left l.right l.plane
