-- `slices::move_columns` meets its contract. Assumes nothing.
use mathlib.Core.Path.{◌≡◌}
use Rattle.slices.specs.Stores.{columns}
use Rattle.slices.proofs.move_columns.Given as goal

abbrev pub invariant-loop-c : goal.invariant-loop-c
invariant-loop-c l = l.to ≡ columns l.height l.tall l.c l.from l.first l.at l.initial.to
