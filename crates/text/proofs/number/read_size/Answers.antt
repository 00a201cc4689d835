-- `text::number::read_size` meets its contract. Assumes nothing.
use mathlib.Core.Path.{sym}
use native.Mathlib.Omega.{arith}
use Rattle.text.proofs.Cursor.{size_past, size_other, size_here}
use Rattle.text.proofs.number.read_size.Goals as goal
use Rattle.text.proofs.number.read_size.Goals.{then-s-next-via-then-s-next, then-s-next-via-else-s-next+then-s-next-2}

pub returns-then-s-next : goal.returns-then-s-next
returns-then-s-next c =
    let a = c.args in
    elim c.then-s-next.branch [
      | then-s-next-via-then-s-next w ↦ size_past a.s.now a.at a.end c.in_ok-v.v c.in_ok-v.next (sym c.in_ok-v.ensures) (omega arith)
      | then-s-next-via-else-s-next+then-s-next-2 w ↦
          size_other a.s.now a.at a.end c.in_ok-v.v c.in_ok-v.next (sym c.in_ok-v.ensures) (omega arith) w.if-s-next-2.true
    ]

pub returns : goal.returns
returns c =
    let a = c.args in
    size_here a.s.now a.at a.end c.in_ok-v.v c.in_ok-v.next (sym c.in_ok-v.ensures) (omega arith) c.if-s-next-2.false
