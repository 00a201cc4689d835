-- `smoothing::against_before` meets its contract. Assumes nothing.
use Prim.Native.Nat.{◌-◌}
use native.Mathlib.Omega.{arith}
use lib.IntN.{pos}
use lib.ListN.{get_or}
use Rattle.smoothing.proofs.Cells.{read_sign}
use Rattle.smoothing.proofs.against_before.Goals as goal

pub overflow_sub-here : goal.overflow_sub-here
overflow_sub-here c = omega (arith, c.requires.1 c.if-inside.true)

pub returns-then-inside : goal.returns-then-inside
returns-then-inside c =
    rw c.if-inside.true
    (read_sign (get_or c.args.values.now c.args.here (pos 0)) (get_or c.args.values.now (c.args.here - c.args.back) (pos 0)) c.sign-arg-1.given c.sign-arg-then-inside-1.given c.sign.ensures)

pub returns : goal.returns
returns c = rw c.if-inside.false
