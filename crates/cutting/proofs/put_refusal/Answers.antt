-- `cutting::put_refusal` meets its contract. Assumes nothing.
use mathlib.Core.Path.{◌∙◌}
use Prim.Native.Nat.{ℕ, ◌≤◌}
use native.Mathlib.Omega.{arith}
use lib.ListN.{length}
use Rattle.text.specs.Bytes.{bytes}
use Rattle.text.specs.Write.{cell_text}
use Rattle.text.proofs.Stamp.{Put, put_more, put_length, cell_length, width_le, stamp_front}
use Rattle.cutting.specs.Cutter.{refusal_text}
use Rattle.cutting.proofs.put_refusal.Goals as goal

short : (n : ℕ) → length (cell_text n 10) ≤ 11
short n = omega (arith, cell_length n 10, width_le 10 n)

pub put_cell-requires : goal.put_cell-requires
put_cell-requires c =
    let names : Put 0 c.put_bytes-p.result (bytes "refusal\n") c.args.out.now c.put_bytes-p.new.out =
    record { room = omega (arith, c.requires.1); next = c.put_bytes-p.ensures.value; bytes = c.put_bytes-p.ensures.out_after } in
    (omega (arith, c.requires.0), omega (arith, c.requires.1, short c.args.number, names.next, put_length names))

pub returns : goal.returns
unfolding refusal_text
returns c =
    let names : Put 0 c.put_bytes-p.result (bytes "refusal\n") c.args.out.now c.put_bytes-p.new.out =
    record { room = omega (arith, c.requires.1); next = c.put_bytes-p.ensures.value; bytes = c.put_bytes-p.ensures.out_after } in
    let last : Put c.put_bytes-p.result c.put_cell.result (cell_text c.args.number 10) c.put_bytes-p.new.out c.put_cell.new.out =
    record { room = omega (arith, c.requires.1, short c.args.number, names.next, put_length names); next = c.put_cell.ensures.value; bytes = c.put_cell.ensures.out_after } in
    let p = put_more names last in
    record { size = omega (arith, p.next); slice = p.bytes ∙ stamp_front (refusal_text c.args.number) _ }
