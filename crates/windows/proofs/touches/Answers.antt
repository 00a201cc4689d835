-- `windows::touches` meets its contract. Assumes nothing.
use native.Mathlib.Omega.{arith}
use Rattle.windows.proofs.Filling.{above, under, before, last_test}
use Rattle.windows.proofs.touches.Goals as goal

pub returns-then-i-block_of : goal.returns-then-i-block_of
returns-then-i-block_of c = let a = c.args in above a.v a.d a.i a.j (omega arith)

pub returns-then-block_of-i : goal.returns-then-block_of-i
returns-then-block_of-i c = let a = c.args in under a.v a.d a.i a.j (omega arith)

pub returns-then-j-block_of : goal.returns-then-j-block_of
returns-then-j-block_of c = let a = c.args in before a.v a.d a.i a.j (omega arith)

pub returns : goal.returns
returns c =
    let a = c.args in
    last_test a.v a.d a.i a.j c.block_of-4.result c.block_of-4.ensures (omega arith) (omega arith) (omega arith)
