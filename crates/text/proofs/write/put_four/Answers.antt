-- `text::write::put_four` meets its contract. Assumes nothing.
use native.Mathlib.Omega.{arith}
use Rattle.text.specs.Write.{cell_text}
use Rattle.text.proofs.Stamp.{four_length, Put, put_length, put_more}
use Rattle.text.proofs.write.put_four.Goals as goal

pub put_cell-requires : goal.put_cell-requires
put_cell-requires c =
    let a = c.args in
    let l = four_length a.a a.b a.c a.d a.end in
    let put1 : Put a.at c.put_cell-p.result (cell_text a.a 32) a.out.now c.put_cell-p.new.out =
    record { room = omega (arith, l); next = c.put_cell-p.ensures.value; bytes = c.put_cell-p.ensures.out_after } in
    let put2 : Put c.put_cell-p.result c.put_cell-q.result (cell_text a.b 32) c.put_cell-p.new.out c.put_cell-q.new.out =
    record { room = omega (arith, l, put1.next, put_length put1); next = c.put_cell-q.ensures.value; bytes = c.put_cell-q.ensures.out_after } in
    let put3 : Put c.put_cell-q.result c.put_cell-r.result (cell_text a.c 32) c.put_cell-q.new.out c.put_cell-r.new.out =
    record {
      room = omega (arith, l, put1.next, put_length put1, put2.next, put_length put2);
      next = c.put_cell-r.ensures.value;
      bytes = c.put_cell-r.ensures.out_after;
    } in
    (omega arith, omega (arith, l, put1.next, put_length put1, put2.next, put_length put2, put3.next, put_length put3))

pub returns : goal.returns
returns c =
    let a = c.args in
    let l = four_length a.a a.b a.c a.d a.end in
    let put1 : Put a.at c.put_cell-p.result (cell_text a.a 32) a.out.now c.put_cell-p.new.out =
    record { room = omega (arith, l); next = c.put_cell-p.ensures.value; bytes = c.put_cell-p.ensures.out_after } in
    let put2 : Put c.put_cell-p.result c.put_cell-q.result (cell_text a.b 32) c.put_cell-p.new.out c.put_cell-q.new.out =
    record { room = omega (arith, l, put1.next, put_length put1); next = c.put_cell-q.ensures.value; bytes = c.put_cell-q.ensures.out_after } in
    let put3 : Put c.put_cell-q.result c.put_cell-r.result (cell_text a.c 32) c.put_cell-q.new.out c.put_cell-r.new.out =
    record {
      room = omega (arith, l, put1.next, put_length put1, put2.next, put_length put2);
      next = c.put_cell-r.ensures.value;
      bytes = c.put_cell-r.ensures.out_after;
    } in
    let put4 : Put c.put_cell-r.result c.put_cell.result (cell_text a.d a.end) c.put_cell-r.new.out c.put_cell.new.out =
    record {
      room = omega (arith, l, put1.next, put_length put1, put2.next, put_length put2, put3.next, put_length put3);
      next = c.put_cell.ensures.value;
      bytes = c.put_cell.ensures.out_after;
    } in
    let r = put_more put1 (put_more put2 (put_more put3 put4)) in
    record { value = r.next; out_after = r.bytes }
