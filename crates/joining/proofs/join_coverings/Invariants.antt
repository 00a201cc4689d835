-- `joining::join_coverings` meets its contract. The loop's invariant: so many levels are left, and the others stand. Assumes nothing.
use mathlib.Core.Path.{◌≡◌}
use Prim.Native.Nat.{ℕ, ◌+◌}
use lib.ListN.{length}
use Rattle.joining.proofs.Lists.{Part}
use Rattle.joining.proofs.join_coverings.Given as goal

abbrev pub invariant-loop : goal.invariant-loop
invariant-loop l =
    (rest : ℕ) × (rest + l.counter ≡ l.levels) × (length l.coverings ≡ length l.initial.coverings) × Part l.levels l.height l.width rest l.tall l.wide l.first l.left l.right l.coverings
