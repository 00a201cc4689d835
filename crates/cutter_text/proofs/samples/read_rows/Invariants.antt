-- `cutter_text::samples::read_rows` meets its contract: what is left of the lines, stored after what was read, is all of them stored. Assumes nothing.
use mathlib.Core.Path.{◌≡◌}
use Prim.Native.Nat.{◌*◌, ◌-◌, ◌≤◌}
use lib.ListN.{length, drop}
use Rattle.text.specs.Text.{times}
use Rattle.cutter_text.specs.Forms.{plains}
use Rattle.cutter_text.specs.Rows.{rows_of}
use Rattle.cutter_text.proofs.samples.read_rows.Given as goal

abbrev pub invariant-loop-y : goal.invariant-loop-y
invariant-loop-y l = (l.y ≤ l.height) × (length l.samples ≡ l.width * l.height) × (rows_of l.height l.y l.samples (times (l.height - l.y) (plains l.width) (drop l.p l.s)) ≡ rows_of l.height 0 l.initial.samples (times l.height (plains l.width) (drop l.at l.s)))
