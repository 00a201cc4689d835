-- `sheet_render::put_sheet` meets its contract. Assumes nothing.
use mathlib.Core.Path.{◌≡◌, sym, ap, ◌∙◌}
use mathlib.Core.List.{List, ◌++◌}
use Prim.Native.Nat.{ℕ, ◌+◌}
use native.Mathlib.Omega.{arith}
use lib.IntN.{ℤ}
use lib.ListN.{length, length-append}
use Rattle.text.specs.Write.{stamp}
use Rattle.text.proofs.Stamp.{Put, put_more, put_length}
use Rattle.sheet_text.specs.Sheet.{head_part, block_part, entry_part, sheet_text}
use Rattle.places.proofs.Sides.{passed}
use Rattle.sheet_text.proofs.Laws.{sheet_parts}
use Rattle.sheet_render.proofs.put_sheet.Goals as goal

sizes : (h w R : ℕ) (P : List ℤ) (cs : List ℕ) → length (sheet_text h w R P cs) ≡ length (head_part h w R) + (length (block_part R h w cs) + length (entry_part R h w P))
sizes h w R P cs = ap length (sheet_parts h w R P cs) ∙ length-append (head_part h w R) (block_part R h w cs ++ entry_part R h w P) ∙ ap (λ (m : ℕ). length (head_part h w R) + m) (length-append (block_part R h w cs) (entry_part R h w P))

pub put_head-p-requires : goal.put_head-p-requires
put_head-p-requires c =
    let a = c.args in
    let l = sizes a.height a.width a.levels a.plane.now a.coverings.now in
    let q = passed a.height a.width a.levels c.requires.width_value.0 c.requires.width_value.1 in
    (omega (arith, q.tall), omega (arith, q.wide), omega (arith, q.few), omega (arith, c.requires.coverings_in_bounds, l))

pub put_block_part-q-requires-clause-coverings_in_bounds : goal.put_block_part-q-requires-clause-coverings_in_bounds
put_block_part-q-requires-clause-coverings_in_bounds c =
    let a = c.args in
    let l = sizes a.height a.width a.levels a.plane.now a.coverings.now in
    let one : Put 0 c.put_head-p.result (head_part a.height a.width a.levels) a.out.now c.put_head-p.new.out =
    record { room = omega (arith, c.requires.coverings_in_bounds, l); next = omega (arith, c.put_head-p.ensures.value); bytes = c.put_head-p.ensures.out_after } in
    omega (arith, c.requires.coverings_in_bounds, l, one.next, put_length one)

pub put_entry_part-requires-clause-plane_in_bounds : goal.put_entry_part-requires-clause-plane_in_bounds
put_entry_part-requires-clause-plane_in_bounds c =
    let a = c.args in
    let l = sizes a.height a.width a.levels a.plane.now a.coverings.now in
    let one : Put 0 c.put_head-p.result (head_part a.height a.width a.levels) a.out.now c.put_head-p.new.out =
    record { room = omega (arith, c.requires.coverings_in_bounds, l); next = omega (arith, c.put_head-p.ensures.value); bytes = c.put_head-p.ensures.out_after } in
    let two : Put c.put_head-p.result c.put_block_part-q.result (block_part a.levels a.height a.width a.coverings.now) c.put_head-p.new.out c.put_block_part-q.new.out =
    record {
      room = omega (arith, c.requires.coverings_in_bounds, l, one.next, put_length one);
      next = c.put_block_part-q.ensures.value;
      bytes = c.put_block_part-q.ensures.out_after;
    } in
    omega (arith, c.requires.coverings_in_bounds, l, one.next, put_length one, two.next, put_length two)

pub returns : goal.returns
returns c =
    let a = c.args in
    let l = sizes a.height a.width a.levels a.plane.now a.coverings.now in
    let one : Put 0 c.put_head-p.result (head_part a.height a.width a.levels) a.out.now c.put_head-p.new.out =
    record { room = omega (arith, c.requires.coverings_in_bounds, l); next = omega (arith, c.put_head-p.ensures.value); bytes = c.put_head-p.ensures.out_after } in
    let two : Put c.put_head-p.result c.put_block_part-q.result (block_part a.levels a.height a.width a.coverings.now) c.put_head-p.new.out c.put_block_part-q.new.out =
    record {
      room = omega (arith, c.requires.coverings_in_bounds, l, one.next, put_length one);
      next = c.put_block_part-q.ensures.value;
      bytes = c.put_block_part-q.ensures.out_after;
    } in
    let three : Put c.put_block_part-q.result c.put_entry_part.result (entry_part a.levels a.height a.width a.plane.now) c.put_block_part-q.new.out c.put_entry_part.new.out =
    record {
      room = omega (arith, c.requires.coverings_in_bounds, l, one.next, put_length one, two.next, put_length two);
      next = c.put_entry_part.ensures.value;
      bytes = c.put_entry_part.ensures.out_after;
    } in
    (put_more one (put_more two three)).bytes ∙ ap (λ x. stamp 0 x a.out.now) (sym (sheet_parts a.height a.width a.levels a.plane.now a.coverings.now))
