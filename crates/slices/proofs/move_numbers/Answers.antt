-- `slices::move_numbers` meets its contract. Assumes nothing.
use Rattle.std.proofs.Common.{rules}
use native.Mathlib.Numerals.{add-one}
use Rattle.slices.specs.Stores.{pasted}
use Rattle.slices.proofs.move_numbers.Goals as goal

pub loop-r-init : goal.loop-r-init
unfolding pasted
loop-r-init c = search rules

pub loop-r-preserved : goal.loop-r-preserved
unfolding pasted
loop-r-preserved c = rw (add-one, c.loop-r.invariant)
