-- `sheet_render::put_head` meets its contract. Assumes nothing.
use mathlib.Core.Path.{◌≡◌}
use mathlib.Core.List.{◌++◌}
use Prim.Native.Nat.{ℕ, ◌+◌}
use native.Mathlib.Omega.{arith}
use lib.ListN.{length, length-append}
use Rattle.text.specs.Bytes.{bytes}
use Rattle.text.specs.Write.{cell_text}
use Rattle.text.proofs.Stamp.{Put, put_more, put_length}
use Rattle.sheet_text.specs.Sheet.{head_part}
use Rattle.sheet_render.proofs.put_head.Goals as goal

sizes : (a b c : ℕ) → length (head_part a b c) ≡ 20 + (length (cell_text a 32) + (length (cell_text b 32) + length (cell_text c 10)))
sizes a b c = omega (arith, length-append (cell_text a 32) (cell_text b 32 ++ cell_text c 10), length-append (cell_text b 32) (cell_text c 10))

pub returns-clause-out_after : goal.returns-clause-out_after
returns-clause-out_after c =
    let a = c.args in
    let l = sizes a.height a.width a.levels in
    let names : Put 0 c.put_bytes-p.result (bytes "height width levels\n") a.out.now c.put_bytes-p.new.out =
    record { room = omega (arith, c.requires.3, l); next = c.put_bytes-p.ensures.value; bytes = c.put_bytes-p.ensures.out_after } in
    let first : Put c.put_bytes-p.result c.put_cell-q.result (cell_text a.height 32) c.put_bytes-p.new.out c.put_cell-q.new.out =
    record { room = omega (arith, c.requires.3, l, names.next, put_length names); next = c.put_cell-q.ensures.value; bytes = c.put_cell-q.ensures.out_after } in
    let second : Put c.put_cell-q.result c.put_cell-r.result (cell_text a.width 32) c.put_cell-q.new.out c.put_cell-r.new.out =
    record {
      room = omega (arith, c.requires.3, l, names.next, put_length names, first.next, put_length first);
      next = c.put_cell-r.ensures.value;
      bytes = c.put_cell-r.ensures.out_after;
    } in
    let third : Put c.put_cell-r.result c.put_cell.result (cell_text a.levels 10) c.put_cell-r.new.out c.put_cell.new.out =
    record {
      room = omega (arith, c.requires.3, l, names.next, put_length names, first.next, put_length first, second.next, put_length second);
      next = c.put_cell.ensures.value;
      bytes = c.put_cell.ensures.out_after;
    } in
    (put_more names (put_more first (put_more second third))).bytes
