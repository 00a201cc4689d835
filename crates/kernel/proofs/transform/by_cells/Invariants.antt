-- `kernel::transform::by_cells` meets its contract. The loop's invariant: each cell whose number is passed has its value. Assumes nothing.
use mathlib.Core.Path.{◌≡◌}
use Prim.Native.Nat.{ℕ, ◌<◌}
use lib.ListN.{length}
use Rattle.kernel.specs.Kernel.{at}
use Rattle.tables.proofs.Entries.{number_of}
use Rattle.kernel.proofs.transform.by_cells.Given as goal

abbrev pub invariant-loop-k : goal.invariant-loop-k
invariant-loop-k l = (length l.values ≡ 16) × ((a : ℕ) → a < 16 → number_of l.covering a < l.k → at l.values a ≡ at l.fn.labelled (number_of l.covering a))
