-- `sheet_render::put_blocks` meets its contract: what is left to write from the present place is all there is to write. Assumes nothing.
use mathlib.Core.Path.{refl, sym, ap, ◌∙◌}
use Prim.Native.Nat.{◌+◌, ◌≤◌}
use native.Mathlib.Omega.{arith}
use lib.ListN.{length, get_or, drop, length-append}
use Rattle.text.specs.Text.{rows_text}
use Rattle.sheet_text.specs.Rows.{block_rows}
use Rattle.text.specs.Write.{four_text, stamp}
use Rattle.text.proofs.Stamp.{Put, left_after, put_length, stamp_none}
use Rattle.places.specs.Walk.{block_at, blocks_left}
use Rattle.sheet_text.proofs.Layouts.{blocks_count}
use Rattle.places.proofs.Steps.{not_ended, present}
use Rattle.sheet_render.proofs.Pieces.{blocks_from, blocks_next, blocks_end}
use Rattle.sheet_render.proofs.put_blocks.Goals as goal

pub loop-covering-init : goal.loop-covering-init
loop-covering-init c =
    let cs = c.args.coverings.now in
    let e = c.first_block-k.ensures.result_value in
    let n = blocks_count 0 c.args.levels c.args.height c.args.width in
    let l = c.requires.coverings_len in
    (c.first_block-k.ensures.inside, omega (arith, ap length e), refl, ap (λ bs. c.args.at + length (rows_text (block_rows bs cs))) e, ap (λ bs. stamp c.args.at (rows_text (block_rows bs cs)) c.args.out.now) e)

pub put_four-p-requires : goal.put_four-p-requires
put_four-p-requires c =
    let l = c.loop-covering in
    let k = l.k in
    let i = l.invariant.0 in
    let cs = c.args.coverings.now in
    -- the line has room
    let t = present block_at k (not_ended block_at k (omega arith)) i.row i.col in
    let x = ap length (blocks_next k t.0 cs l.covering-index (omega arith) t.1) ∙ length-append (four_text k.level k.row k.col (get_or cs l.covering-index 0) 10) (rows_text (block_rows t.0 (drop (l.covering-index + 1) cs))) in
    (omega (arith, i.levels), omega (arith, i.row, i.tall, i.down), omega (arith, i.col, i.wide, i.across), omega (arith, c.type_inv.coverings l.covering-index), omega (arith, c.requires.coverings_in_bounds))

pub step-k-requires : goal.step-k-requires
step-k-requires c =
    let l = c.loop-covering in
    (not_ended block_at l.k (omega arith), l.invariant.0)

pub loop-covering-preserved : goal.loop-covering-preserved
loop-covering-preserved c =
    let l = c.loop-covering in
    let k = l.k in
    let cs = c.args.coverings.now in
    let e = c.step-k.ensures.blocks in
    let t = four_text k.level k.row k.col (get_or cs l.covering-index 0) 10 in
    let r = blocks_from c.step-k.result cs (l.covering-index + 1) in
    let x = blocks_next k (blocks_left c.step-k.result) cs l.covering-index (omega arith) e in
    let y = ap length x ∙ length-append t r in
    let room : l.p + length t ≤ length l.out = omega (arith, c.requires.coverings_in_bounds) in
    let w : Put l.p c.put_four-p.result t l.out c.put_four-p.new.out = record { room = room; next = c.put_four-p.ensures.value; bytes = c.put_four-p.ensures.out_after } in (
      c.step-k.ensures.inside,
      omega (arith, ap length e),
      put_length w ∙ l.invariant.2,
      omega (arith, w.next),
      left_after r w ∙ ap (λ z. stamp l.p z l.out) (sym x) ∙ l.invariant.4,
    )

pub returns-clause-value : goal.returns-clause-value
returns-clause-value c =
    let l = c.loop-covering in
    let y = ap length (blocks_end l.k c.args.coverings.now l.covering-index (omega arith)) in
    omega arith

pub returns-clause-out_after : goal.returns-clause-out_after
returns-clause-out_after c =
    let l = c.loop-covering in
    let z = blocks_end l.k c.args.coverings.now l.covering-index (omega arith) in
    sym (ap (λ x. stamp l.p x l.out) z ∙ stamp_none l.p l.out) ∙ l.invariant.4
