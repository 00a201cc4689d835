-- `generator::fill` meets its contract. The loop's invariant: the state is that after so many steps, and the samples of those steps are stored. Assumes nothing.
use Rattle.std.proofs.Common.{◌≡◌, length}
use Rattle.integers.specs.Lists.{half}
use Rattle.generator.specs.Generator.{samples_from}
use Rattle.generator.specs.Laws.{state_after}
use Rattle.generator.proofs.fill.Given as goal

abbrev pub invariant-loop-x : goal.invariant-loop-x
invariant-loop-x l = (l.s ≡ state_after l.x-index l.start) × (l.samples ≡ half (samples_from (length l.initial.samples) l.start) l.initial.samples l.x-index)
