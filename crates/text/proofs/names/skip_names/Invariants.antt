-- `text::names::skip_names` meets its contract: the whole words, then the odd bytes. Assumes nothing.
use mathlib.Core.Path.{◌≡◌}
use Prim.Native.Nat.{◌≤◌, ◌+◌}
use lib.ListN.{length, drop}
use Rattle.text.specs.Text.{skip}
use Rattle.text.proofs.names.skip_names.Given as goal

abbrev pub invariant-loop-i : goal.invariant-loop-i
invariant-loop-i l = (l.i ≤ length l.names) × (l.at + length l.names ≤ length l.s) × (skip (drop l.i l.names) (drop (l.at + l.i) l.s) ≡ skip l.names (drop l.at l.s))
