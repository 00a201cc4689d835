use Rattle.text.specs.Write.{stamped}
use mathlib.Core.Path.{◌≡◌}
use Prim.Native.Nat.{suc, ◌-◌}
use native.Mathlib.Omega.{arith}
use borrow.Author.Rules.{rules}
use Rattle.text.proofs.write.put_digits.Goals as goal

pub loop-i-preserved : goal.loop-i-preserved
unfolding stamped
loop-i-preserved c =
    let i = c.loop-i.i in
    let e : i ≡ suc (i - 1) = omega arith in
    (search rules, search rules, rw e at c.loop-i.invariant.2)

pub returns : goal.returns
unfolding stamped
returns c =
    let e : c.loop-i.i ≡ 0 = omega arith in
    rw e at c.loop-i.invariant.2
