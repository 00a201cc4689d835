-- `slices::move_numbers` meets its contract. Assumes nothing.
use Rattle.std.proofs.Common.{◌≡◌}
use Rattle.slices.specs.Stores.{pasted}
use Rattle.slices.proofs.move_numbers.Given as goal

abbrev pub invariant-loop-r : goal.invariant-loop-r
invariant-loop-r l = l.to ≡ pasted 0 l.from l.first l.at l.r l.initial.to
