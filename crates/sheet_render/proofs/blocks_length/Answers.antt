-- `sheet_render::blocks_length` meets its contract: what is measured and what is left to measure are all. Assumes nothing.
use mathlib.Core.Path.{ap, ◌∙◌}
use Prim.Native.Nat.{◌+◌}
use native.Mathlib.Omega.{arith}
use lib.ListN.{length, get_or, length-append}
use Rattle.text.specs.Text.{rows_text}
use Rattle.sheet_text.specs.Rows.{block_rows}
use Rattle.text.specs.Write.{four_text}
use Rattle.text.proofs.Stamp.{four_bound}
use Rattle.places.specs.Walk.{block_at, blocks_left}
use Rattle.sheet_text.proofs.Layouts.{blocks_count}
use Rattle.places.proofs.Steps.{not_ended}
use Rattle.sheet_render.proofs.Pieces.{blocks_from, blocks_next, blocks_end}
use Rattle.sheet_render.proofs.blocks_length.Goals as goal

pub loop-covering-init : goal.loop-covering-init
loop-covering-init c =
    let cs = c.args.coverings.now in
    let e = c.first_block-k.ensures.result_value in
    let n = blocks_count 0 c.args.levels c.args.height c.args.width in
    let l = c.requires.coverings_len.0 in
    (c.first_block-k.ensures.inside, omega (arith, ap length e), omega arith, omega (arith, ap (λ bs. length (rows_text (block_rows bs cs))) e))

pub overflow_add-n : goal.overflow_add-n
overflow_add-n c =
    let l = c.loop-covering in
    let k = l.k in
    let cs = c.args.coverings.now in
    omega (arith, c.requires.coverings_len.1, c.four_width-n.ensures, four_bound k.level k.row k.col (get_or cs l.covering-index 0) 10)

pub step-k-requires : goal.step-k-requires
step-k-requires c =
    let l = c.loop-covering in
    (not_ended block_at l.k (omega arith), l.invariant.0)

pub loop-covering-preserved : goal.loop-covering-preserved
loop-covering-preserved c =
    let l = c.loop-covering in
    let k = l.k in
    let cs = c.args.coverings.now in
    let e = c.step-k.ensures.blocks in
    let b = get_or cs l.covering-index 0 in
    let t = four_text k.level k.row k.col b 10 in
    let w = c.four_width-n.ensures in
    let m = four_bound k.level k.row k.col b 10 in
    let x = ap length (blocks_next k (blocks_left c.step-k.result) cs l.covering-index (omega arith) e) ∙ length-append t (blocks_from c.step-k.result cs (l.covering-index + 1)) in
    (c.step-k.ensures.inside, omega (arith, ap length e), omega arith, omega arith)

pub returns : goal.returns
returns c =
    let l = c.loop-covering in
    let z = ap length (blocks_end l.k c.args.coverings.now l.covering-index (omega arith)) in
    (omega arith, omega (arith, c.requires.coverings_len.1))
