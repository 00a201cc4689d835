-- `sheet_render::put_entries` meets its contract: what is left to write from the present place is all there is to write. Assumes nothing.
use mathlib.Core.Path.{◌≡◌, refl, sym, ap, ◌∙◌}
use Prim.Native.Nat.{ℕ, ◌+◌, ◌≤◌}
use native.Mathlib.Omega.{arith}
use lib.IntN.{pos, nat_abs}
use lib.ListN.{length, get_or, length-append}
use Rattle.text.specs.Text.{rows_text}
use Rattle.text.specs.Write.{stamp}
use Rattle.text.proofs.Stamp.{Put, left_after, put_length, stamp_none}
use Rattle.integers.specs.Lists.{every}
use Rattle.integers.proofs.Signs.{kept}
use Rattle.pyramid.specs.Places.{at}
use Rattle.pyramid.specs.Slices.{image_of}
use Rattle.pyramid.specs.Ranges.{in_range, fits_range}
use Rattle.sheet_text.specs.Rows.{entry_rows}
use Rattle.places.specs.Walk.{entry_at, entry_of, entries_left}
use Rattle.sheet_render.specs.Line.{line_of}
use Rattle.sheet_text.proofs.Laws.{range_small}
use Rattle.places.proofs.Sides.{passed}
use Rattle.places.proofs.Steps.{present, ended}
use Rattle.sheet_render.proofs.Pieces.{entries_from, entries_next, entries_end, fit_first, fit_rest}
use mir.Syntax.{w64}
use mir.Val.{to_z, of_z}
use Rattle.sheet_render.proofs.put_entries.Goals as goal

pub loop-k-init : goal.loop-k-init
unfolding in_range
loop-k-init c =
    let P = image_of c.args.height c.args.plane.now in
    let e = c.first_entry-k.ensures.result_value in (
      c.first_entry-k.ensures.inside,
      ap (every (λ p. fits_range c.args.levels p (at P p))) e ∙ c.requires.plane_len.1,
      refl,
      ap (λ l. c.args.at + length (rows_text (entry_rows P l))) e,
      ap (λ l. stamp c.args.at (rows_text (entry_rows P l)) c.args.out.now) e,
    )

pub put_entry-p-requires-clause-inside : goal.put_entry-p-requires-clause-inside
put_entry-p-requires-clause-inside c =
    let l = c.loop-k in
    let P = image_of c.args.height c.args.plane.now in
    -- what was read is the entry of the plane at the present place
    let value : to_z w64 (of_z w64 (get_or c.args.plane.now c.index_of-i.result (pos 0))) ≡ at P (entry_of l.k) =
    kept c.v-1.given ∙ ap (λ (j : ℕ). get_or c.args.plane.now j (pos 0)) c.index_of-i.ensures.0 in
    let q = passed c.args.height c.args.width c.args.levels c.requires.width_value.0 c.requires.width_value.1 in
    let t = present entry_at l.k c.loop-k-test.true l.invariant.0.row l.invariant.0.col in
    let r = range_small c.args.levels (entry_of l.k) (at P (entry_of l.k)) (omega (arith, q.few)) (omega (arith, l.invariant.0.levels, c.loop-k-test.true)) (fit_first c.args.levels P l.k t.0 t.1 l.invariant.1) in
    (l.invariant.0, omega (arith, l.invariant.0.levels), omega (arith, ap nat_abs value))

pub put_entry-p-requires-clause-v_in_bounds : goal.put_entry-p-requires-clause-v_in_bounds
put_entry-p-requires-clause-v_in_bounds c =
    let l = c.loop-k in
    let P = image_of c.args.height c.args.plane.now in
    let v = to_z w64 (of_z w64 (get_or c.args.plane.now c.index_of-i.result (pos 0))) in
    let value : v ≡ at P (entry_of l.k) = kept c.v-1.given ∙ ap (λ (j : ℕ). get_or c.args.plane.now j (pos 0)) c.index_of-i.ensures.0 in
    let t = present entry_at l.k c.loop-k-test.true l.invariant.0.row l.invariant.0.col in
    let x = ap length (entries_next P l.k t.0 v t.1 value) ∙ length-append (line_of l.k v) (rows_text (entry_rows P t.0)) in
    omega (arith, x, l.invariant.3, l.invariant.2, c.requires.plane_in_bounds)

pub loop-k-preserved : goal.loop-k-preserved
loop-k-preserved c =
    let l = c.loop-k in
    let k = l.k in
    let P = image_of c.args.height c.args.plane.now in
    let e = c.step-k.ensures.entries in
    let v = to_z w64 (of_z w64 (get_or c.args.plane.now c.index_of-i.result (pos 0))) in
    let value : v ≡ at P (entry_of k) = kept c.v-1.given ∙ ap (λ (j : ℕ). get_or c.args.plane.now j (pos 0)) c.index_of-i.ensures.0 in
    let r = entries_from P c.step-k.result in
    let x = entries_next P k (entries_left c.step-k.result) v e value in
    let y = ap length x ∙ length-append (line_of k v) r in
    let room : l.p + length (line_of k v) ≤ length l.out = omega (arith, y, l.invariant.3, l.invariant.2, c.requires.plane_in_bounds) in
    let w : Put l.p c.put_entry-p.result (line_of k v) l.out c.put_entry-p.new.out = record { room = room; next = c.put_entry-p.ensures.value; bytes = c.put_entry-p.ensures.out_after } in (
      c.step-k.ensures.inside,
      fit_rest c.args.levels P k c.step-k.result e l.invariant.1,
      put_length w ∙ l.invariant.2,
      omega (arith, w.next, y, l.invariant.3),
      left_after r w ∙ ap (λ z. stamp l.p z l.out) (sym x) ∙ l.invariant.4,
    )

pub returns-clause-value : goal.returns-clause-value
returns-clause-value c =
    let l = c.loop-k in
    let z = ap length (entries_end (image_of c.args.height c.args.plane.now) l.k (ended entry_at l.k (omega (arith, c.loop-k-test.false)))) in
    omega (arith, z, l.invariant.3)

pub returns-clause-out_after : goal.returns-clause-out_after
returns-clause-out_after c =
    let l = c.loop-k in
    let z = entries_end (image_of c.args.height c.args.plane.now) l.k (ended entry_at l.k (omega (arith, c.loop-k-test.false))) in
    sym (ap (λ x. stamp l.p x l.out) z ∙ stamp_none l.p l.out) ∙ l.invariant.4
