-- `slices::move_columns` meets its contract. Assumes nothing.
use Rattle.std.proofs.Common.{rules}
use native.Mathlib.Numerals.{add-one}
use Rattle.slices.specs.Stores.{columns}
use Rattle.slices.proofs.move_columns.Goals as goal

pub loop-c-init : goal.loop-c-init
unfolding columns
loop-c-init c = search rules

pub loop-c-preserved : goal.loop-c-preserved
unfolding columns
loop-c-preserved c = rw (add-one, ← c.loop-c.invariant) c.move_run.ensures
