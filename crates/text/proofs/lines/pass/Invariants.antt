-- `text::lines::pass` meets its contract: the lines that are left end where all of them end. Assumes nothing.
use mathlib.Core.Path.{◌≡◌}
use Prim.Native.Nat.{◌≤◌, ◌-◌}
use lib.ListN.{length, drop}
use Rattle.text.specs.Text.{rows, any}
use Rattle.text.specs.Lines.{past_of}
use Rattle.text.proofs.lines.pass.Given as goal

abbrev pub invariant-loop-line : goal.invariant-loop-line
invariant-loop-line g l = (l.p ≤ length l.s) × (past_of (length l.s) (rows any g.L.Line.columns (drop l.p l.s)) ≡ past_of (length l.s) (rows any g.L.Line.columns (drop l.at l.s)))

abbrev pub decreases-loop-line : goal.decreases-loop-line
decreases-loop-line g l = length l.s - l.p
