-- `sheet_render::entries_length` meets its contract: what is measured and what is left to measure are all. Assumes nothing.
use mathlib.Core.Path.{◌≡◌, ap, ◌∙◌}
use Prim.Native.Nat.{ℕ}
use native.Mathlib.Omega.{arith}
use lib.IntN.{pos, nat_abs}
use lib.ListN.{length, get_or, length-append}
use Rattle.text.specs.Text.{rows_text}
use Rattle.integers.specs.Lists.{every}
use Rattle.integers.proofs.Signs.{kept}
use Rattle.pyramid.specs.Places.{at}
use Rattle.pyramid.specs.Slices.{image_of}
use Rattle.pyramid.specs.Ranges.{in_range, fits_range}
use Rattle.sheet_text.specs.Rows.{entry_rows}
use Rattle.places.specs.Walk.{entry_at, entry_of, entries_left}
use Rattle.sheet_render.specs.Line.{line_of}
use Rattle.sheet_text.proofs.Layouts.{plane_size}
use Rattle.sheet_text.proofs.Laws.{range_small}
use Rattle.places.proofs.Sides.{passed}
use Rattle.places.proofs.Steps.{present, ended}
use Rattle.sheet_render.proofs.Pieces.{entries_from, entries_next, entries_end, fit_first, fit_rest}
use mir.Syntax.{w64}
use mir.Val.{to_z, of_z}
use Rattle.sheet_render.proofs.entries_length.Goals as goal

pub loop-k-init : goal.loop-k-init
unfolding in_range
loop-k-init c =
    let P = image_of c.args.height c.args.plane.now in
    let e = c.first_entry-k.ensures.result_value in
    let q = passed c.args.height c.args.width c.args.levels c.requires.width_value.0 c.requires.width_value.1 in (
      c.first_entry-k.ensures.inside,
      ap (every (λ p. fits_range c.args.levels p (at P p))) e ∙ c.requires.plane_len.1,
      omega (arith, ap length e, plane_size c.args.height c.args.width c.args.levels q),
      omega (arith, ap (λ l. length (rows_text (entry_rows P l))) e),
    )

pub entry_length-n-requires : goal.entry_length-n-requires
entry_length-n-requires c =
    let l = c.loop-k in
    let P = image_of c.args.height c.args.plane.now in
    -- what was read is the entry of the plane at the present place
    let value : to_z w64 (of_z w64 (get_or c.args.plane.now c.index_of-i.result (pos 0))) ≡ at P (entry_of l.k) =
    kept c.v-1.given ∙ ap (λ (j : ℕ). get_or c.args.plane.now j (pos 0)) c.index_of-i.ensures.0 in
    let q = passed c.args.height c.args.width c.args.levels c.requires.width_value.0 c.requires.width_value.1 in
    let t = present entry_at l.k c.loop-k-test.true l.invariant.0.row l.invariant.0.col in
    let r = range_small c.args.levels (entry_of l.k) (at P (entry_of l.k)) (omega (arith, q.few)) (omega (arith, l.invariant.0.levels, c.loop-k-test.true)) (fit_first c.args.levels P l.k t.0 t.1 l.invariant.1) in
    (l.invariant.0, omega (arith, l.invariant.0.levels), omega (arith, ap nat_abs value))

pub loop-k-preserved : goal.loop-k-preserved
loop-k-preserved c =
    let l = c.loop-k in
    let k = l.k in
    let P = image_of c.args.height c.args.plane.now in
    let e = c.step-k.ensures.entries in
    let v = to_z w64 (of_z w64 (get_or c.args.plane.now c.index_of-i.result (pos 0))) in
    let value : v ≡ at P (entry_of k) = kept c.v-1.given ∙ ap (λ (j : ℕ). get_or c.args.plane.now j (pos 0)) c.index_of-i.ensures.0 in
    let x = ap length (entries_next P k (entries_left c.step-k.result) v e value) ∙ length-append (line_of k v) (entries_from P c.step-k.result) in
    let w = c.entry_length-n.ensures in
    (c.step-k.ensures.inside, fit_rest c.args.levels P k c.step-k.result e l.invariant.1, omega (arith, ap length e, w.1, l.invariant.2), omega (arith, w.0, x, l.invariant.3))

pub returns : goal.returns
returns c =
    let l = c.loop-k in
    let P = image_of c.args.height c.args.plane.now in
    let z = ap length (entries_end P l.k (ended entry_at l.k (omega (arith, c.loop-k-test.false)))) in
    (omega (arith, l.invariant.3), omega (arith, l.invariant.2))
