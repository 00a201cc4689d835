-- `cutter_text::samples::end_of` meets its contract. Assumes nothing.
use Prim.Native.Nat.{◌-◌}
use native.Mathlib.Omega.{arith}
use Rattle.cutter_text.proofs.Stores.{after_last, after_more}
use Rattle.cutter_text.proofs.samples.end_of.Goals as goal

pub returns-then-width-x-eq1 : goal.returns-then-width-x-eq1
returns-then-width-x-eq1 c = after_last (c.args.width - c.args.x - 1) (omega arith)

pub returns : goal.returns
returns c = after_more (c.args.width - c.args.x - 1) (omega arith)
