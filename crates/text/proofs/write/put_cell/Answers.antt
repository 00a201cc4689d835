-- `text::write::put_cell` meets its contract. Assumes nothing.
use Prim.Native.Nat.{◌<◌}
use native.Mathlib.Omega.{arith}
use lib.ListN.{length}
use Rattle.text.specs.Text.{digits}
use Rattle.text.proofs.Stamp.{cell_length, Put, put_length, put_more, put_byte}
use Rattle.text.proofs.write.put_cell.Goals as goal

pub returns : goal.returns
returns c =
    let a = c.args in
    let l = cell_length a.v a.end in
    let wrote : Put a.at c.put_number-p.result (digits a.v) a.out.now c.put_number-p.new.out =
    record { room = omega (arith, l); next = c.put_number-p.ensures.value; bytes = c.put_number-p.ensures.out_after } in
    let inside : c.put_number-p.result < length c.put_number-p.new.out = omega (arith, wrote.next, put_length wrote, l) in
    let p = put_more wrote (put_byte c.put_number-p.result a.end c.put_number-p.new.out inside) in
    record { value = p.next; out_after = p.bytes }
