-- `windows::fill` meets its contract. Assumes nothing.
use mathlib.Core.Path.{◌≡◌, sym, ap, ◌∙◌}
use Prim.Native.Nat.{◌-◌, ◌≤◌}
use native.Mathlib.Omega.{arith}
use Rattle.pyramid.specs.Plane.{listed, numerators}
use Rattle.pyramid.specs.Slices.{image_of}
use Rattle.pyramid.specs.Behind.{block_list}
use Rattle.blockwise.specs.declared.Node.{Node}
use Rattle.blockwise.specs.Node.{below, behind}
use Rattle.blockwise.proofs.Cells.{came}
use Rattle.blockwise.proofs.Ends.{asked, first_values}
use Rattle.blockwise.proofs.Merged.{results_asked, found_within, values_asked, values-told}
use Rattle.blockwise.proofs.Nodes.{tall_most, wide_most}
use Rattle.windows.specs.Shown.{sample_at, Shown}
use Rattle.windows.proofs.Filling.{kept_refl, kept_trans, untouched, told, first_small, first_filled}
use borrow.Author.Count.{below_more}
use Rattle.windows.proofs.+fill.Goals as goal

pub overflow_sub-k : goal.overflow_sub-k
overflow_sub-k t c = omega (arith, c.requires.restorable.1.some)

pub touches-requires : goal.touches-requires
touches-requires t c =
    let b = c.requires.restorable.1 in
    (omega (arith, b.most, b.within), c.requires.inside.0)

pub returns-then-not-touches : goal.returns-then-not-touches
returns-then-not-touches t c =
    let a = c.args in
    let g = sample_at a.k.levels a.k.height a.k.width a.coverings.now a.plane.now in
    (kept_refl a.v g a.samples.now, untouched a.v g (a.k.level - 1) a.k.i a.k.j a.samples.now (sym c.touches.ensures ∙ c.if-not-touches.true))

pub results-results-requires : goal.results-results-requires
results-results-requires t c =
    let p = c.requires.restorable in
    results_asked p.0 p.1 c.requires.low_value

pub by_labels-pieces-requires : goal.by_labels-pieces-requires
by_labels-pieces-requires t c =
    let p = c.requires.restorable in
    found_within p.0 p.1 c.requires.low_value c.results-results.ensures

pub values-values-requires : goal.values-values-requires
values-values-requires t c =
    let p = c.requires.restorable in
    values_asked p.0 p.1

pub store_block-requires : goal.store_block-requires
store_block-requires t c =
    let a = c.args in
    let p = c.requires.restorable in
    let b = p.1 in
    let valued : c.values-values.result ≡ block_list (behind a.k (a.k.level - 1) a.coverings.now a.plane.now) a.k.i a.k.j =
    c.values-values.ensures c.results-results.result c.by_labels-pieces.ensures ∙ values-told p.0 b c.requires.low_value c.results-results.ensures in
    record {
      inside = c.requires.inside;
      levels_bound = (p.0.most, p.2, omega (arith, b.row, tall_most b, b.high), omega (arith, b.col, wide_most b, b.broad));
      by_index = first_small a.k a.coverings.now a.plane.now p.0 b c.if-k-eq1.true valued;
    }

pub returns-then-k-eq1 : goal.returns-then-k-eq1
returns-then-k-eq1 t c =
    let a = c.args in
    let p = c.requires.restorable in
    let k = a.k in
    let valued : c.values-values.result ≡ block_list (behind k (k.level - 1) a.coverings.now a.plane.now) k.i k.j =
    c.values-values.ensures c.results-results.result c.by_labels-pieces.ensures ∙ values-told p.0 p.1 c.requires.low_value c.results-results.ensures in
    let one = c.if-k-eq1.true in
    first_filled k a.coverings.now a.plane.now p.0 p.1 one a.v (sample_at k.levels k.height k.width a.coverings.now a.plane.now)
    (c.store_block.ensures (numerators k.levels k.height k.width (listed a.coverings.now) (image_of k.height a.plane.now)) (first_values k a.coverings.now a.plane.now one valued))

pub loop-q-init : goal.loop-q-init
loop-q-init t c = (omega arith, kept_refl _ _ _, λ p l. absurd (omega arith))

pub child-below-requires : goal.child-below-requires
child-below-requires t c =
    let b = c.requires.restorable.1 in
    (b, omega (arith, b.some, c.if-k-eq1.false), c.loop-q-test.true)

pub quarter-quad-requires : goal.quarter-quad-requires
quarter-quad-requires t c = c.loop-q-test.true

pub fill-requires : goal.fill-requires
fill-requires t c =
    let a = c.args in
    let p = c.requires.restorable in
    let k = a.k in
    let valued : c.values-values.result ≡ block_list (behind k (k.level - 1) a.coverings.now a.plane.now) k.i k.j =
    c.values-values.ensures c.results-results.result c.by_labels-pieces.ensures ∙ values-told p.0 p.1 c.requires.low_value c.results-results.ensures in
    let r = c.child-below.ensures in
    let q = asked (below k c.loop-q.q) a.coverings.now a.plane.now r.0 a.unit p.0 r.1 p.2 (c.quarter-quad.ensures _ _ _ valued) in (
      omega (arith, ap (λ (n : Node). n.level) r.0, c.decreases, p.1.some, c.if-k-eq1.false),
      (q.0, (q.1, (c.requires.inside.0, c.loop-q.invariant.1.long ∙ c.requires.inside.1))),
    )

pub loop-q-preserved : goal.loop-q-preserved
loop-q-preserved t c =
    let a = c.args in
    let k = a.k in
    let f = told a.v (below k c.loop-q.q) a.coverings.now a.plane.now c.child-below.ensures.0 c.fill.ensures in (
      omega arith,
      kept_trans a.v (sample_at k.levels k.height k.width a.coverings.now a.plane.now) c.loop-q.invariant.1 f.0,
      below_more _ _ (λ p m y x d e. f.0.stays y x (c.loop-q.invariant.2 p m y x d e)) f.1,
    )

pub returns : goal.returns
returns t c =
    let a = c.args in
    let k = a.k in
    let two : 2 ≤ k.level = omega (arith, c.requires.restorable.1.some, c.if-k-eq1.false) in
    (c.loop-q.invariant.1, came k (Shown a.v (sample_at k.levels k.height k.width a.coverings.now a.plane.now) c.loop-q.samples) two (λ q m. c.loop-q.invariant.2 q (omega arith)))
