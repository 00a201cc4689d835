-- `text::write::width` meets its contract. Assumes nothing.
use mathlib.Core.Path.{refl, sym}
use mathlib.Core.Logic.{inl, inr}
use native.Mathlib.Omega.{arith}
use Rattle.text.proofs.Stamp.{width_is}
use Rattle.text.proofs.write.width.Goals as goal

pub returns-then-v-lt10 : goal.returns-then-v-lt10
returns-then-v-lt10 c = sym (width_is 0 9 c.args.v (omega arith) (inl refl) (omega arith))

pub returns-then-v-lt100 : goal.returns-then-v-lt100
returns-then-v-lt100 c = sym (width_is 1 9 c.args.v (omega arith) (inr (omega arith)) (omega arith))

pub returns-then-v-lt1000 : goal.returns-then-v-lt1000
returns-then-v-lt1000 c = sym (width_is 2 9 c.args.v (omega arith) (inr (omega arith)) (omega arith))

pub returns-then-v-lt10000 : goal.returns-then-v-lt10000
returns-then-v-lt10000 c = sym (width_is 3 9 c.args.v (omega arith) (inr (omega arith)) (omega arith))

pub returns-then-v-lt100000 : goal.returns-then-v-lt100000
returns-then-v-lt100000 c = sym (width_is 4 9 c.args.v (omega arith) (inr (omega arith)) (omega arith))

pub returns-then-v-lt1000000 : goal.returns-then-v-lt1000000
returns-then-v-lt1000000 c = sym (width_is 5 9 c.args.v (omega arith) (inr (omega arith)) (omega arith))

pub returns-then-v-lt10000000 : goal.returns-then-v-lt10000000
returns-then-v-lt10000000 c = sym (width_is 6 9 c.args.v (omega arith) (inr (omega arith)) (omega arith))

pub returns-then-v-lt100000000 : goal.returns-then-v-lt100000000
returns-then-v-lt100000000 c = sym (width_is 7 9 c.args.v (omega arith) (inr (omega arith)) (omega arith))

pub returns-then-v-lt1000000000 : goal.returns-then-v-lt1000000000
returns-then-v-lt1000000000 c = sym (width_is 8 9 c.args.v (omega arith) (inr (omega arith)) (omega arith))

pub returns : goal.returns
returns c = sym (width_is 9 9 c.args.v (omega arith) (inr (omega arith)) (omega arith))
