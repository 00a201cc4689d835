-- `intake::reading::read_input` meets its contract. Assumes nothing.
use Prim.Native.Nat.{◌-◌}
use lib.ListN.{length}
use Rattle.intake.proofs.Parts.{Along}
use Rattle.intake.proofs.Given.{Came}
use Rattle.intake.proofs.reading.read_input.Given as goal

abbrev pub invariant-loop-next : goal.invariant-loop-next
invariant-loop-next g l = Along l.start l.initial.text l.text l.done × Came l.start (g.R.Read.remaining l.initial.reader) (g.R.Read.remaining l.reader) l.text l.done

abbrev pub decreases-loop-next : goal.decreases-loop-next
decreases-loop-next g l = length l.initial.text - l.done
