-- `cutter_text::samples::hold` meets its contract. Assumes nothing.
use native.Mathlib.Omega.{arith}
use Rattle.cutter_text.proofs.Stores.{held_small, held_large}
use Rattle.cutter_text.proofs.samples.hold.Goals as goal

pub returns-then-v-le4095 : goal.returns-then-v-le4095
returns-then-v-le4095 c = held_small _ (omega arith)

pub returns : goal.returns
returns c = held_large c.args.v (omega arith)
