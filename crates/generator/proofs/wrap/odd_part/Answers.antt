-- `generator::wrap::odd_part` meets its contract. Assumes nothing.
use Rattle.std.proofs.Common.{◌≡◌, ◌%◌, arith}
use Rattle.generator.proofs.wrap.odd_part.Goals as goal

pub returns-then-left-eq1 : goal.returns-then-left-eq1
returns-then-left-eq1 c = rw c.if-left-eq1.true (omega arith)

pub returns : goal.returns
returns c = let e : c.args.left % 2 ≡ 0 = omega arith in rw e (omega arith)
