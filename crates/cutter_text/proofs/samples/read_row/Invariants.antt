-- `cutter_text::samples::read_row` meets its contract: what is left of the line, stored after what was read, is the whole line stored. Assumes nothing.
use mathlib.Core.Path.{◌≡◌}
use Prim.Native.Nat.{◌*◌, ◌-◌, ◌≤◌}
use lib.ListN.{length, drop}
use Rattle.text.specs.Text.{row}
use Rattle.cutter_text.specs.Forms.{plains}
use Rattle.cutter_text.specs.Rows.{row_of}
use Rattle.cutter_text.proofs.samples.read_row.Given as goal

abbrev pub invariant-loop-x : goal.invariant-loop-x
invariant-loop-x l = (l.x ≤ l.width) × (length l.samples ≡ l.width * l.height) × (row_of l.height l.y l.x l.samples (row (plains (l.width - l.x)) (drop l.p l.s)) ≡ row_of l.height l.y 0 l.initial.samples (row (plains l.width) (drop l.at l.s)))
