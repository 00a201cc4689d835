-- `sheet_render::put_block_part` meets its contract. Assumes nothing.
use native.Mathlib.Omega.{arith}
use lib.ListN.{length-append}
use Rattle.text.specs.Bytes.{bytes}
use Rattle.text.proofs.Stamp.{Put, put_more, put_length}
use Rattle.sheet_text.specs.Sheet.{blocks_text}
use Rattle.sheet_render.proofs.put_block_part.Goals as goal

pub returns-clause-out_after : goal.returns-clause-out_after
returns-clause-out_after c =
    let a = c.args in
    let l = length-append (bytes "level row col cover\n") (blocks_text a.levels a.height a.width a.coverings.now) in
    let names : Put a.at c.put_bytes-p.result (bytes "level row col cover\n") a.out.now c.put_bytes-p.new.out =
    record { room = omega (arith, c.requires.coverings_in_bounds, l); next = c.put_bytes-p.ensures.value; bytes = c.put_bytes-p.ensures.out_after } in
    let lines : Put c.put_bytes-p.result c.put_blocks.result (blocks_text a.levels a.height a.width a.coverings.now) c.put_bytes-p.new.out c.put_blocks.new.out =
    record {
      room = omega (arith, c.requires.coverings_in_bounds, l, names.next, put_length names);
      next = c.put_blocks.ensures.value;
      bytes = c.put_blocks.ensures.out_after;
    } in
    (put_more names lines).bytes
