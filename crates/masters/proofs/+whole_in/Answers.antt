-- `masters::whole_in` meets its contract. Assumes nothing.
use mathlib.Core.Path.{◌≡◌, ap, ◌∙◌}
use mathlib.Core.Logic.{◌↔◌}
use Prim.Native.Nat.{◌+◌, ◌*◌, ◌-◌, ◌/◌, ◌%◌, ◌≤◌}
use native.Mathlib.Omega.{arith}
use lib.Dec.{T}
use lib.ListN.{length}
use Rattle.integers.specs.Lists.{every}
use Rattle.pyramid.specs.Behind.{block_list}
use Rattle.grid.proofs.Pieces.{sixteen_pieces}
use Rattle.blockwise.specs.declared.Node.{Node}
use Rattle.blockwise.specs.Node.{below, behind}
use Rattle.blockwise.specs.Cells.{AllIn}
use Rattle.blockwise.proofs.Cells.{went, came}
use Rattle.blockwise.proofs.Ends.{asked, first_values}
use Rattle.blockwise.proofs.Merged.{covering_number, results_asked, found_within, values_asked, values-told}
use Rattle.masters.specs.Whole.{is_whole}
use Rattle.masters.specs.Cells.{WholeCell}
use Rattle.masters.proofs.Descent.{failed, passed, told, top_says}
use borrow.Author.Count.{below_more}
use Rattle.masters.proofs.+whole_in.Goals as goal

pub results-results-requires : goal.results-results-requires
results-results-requires t c =
    let p = c.requires.restorable in
    results_asked p.0 p.1 c.requires.low_value

pub by_labels-pieces-requires : goal.by_labels-pieces-requires
by_labels-pieces-requires t c =
    let p = c.requires.restorable in
    found_within p.0 p.1 c.requires.low_value c.results-results.ensures

pub sixteen_whole-requires : goal.sixteen_whole-requires
sixteen_whole-requires t c =
    let p = c.requires.restorable in
    (p.0.most, p.2, ap length c.by_labels-pieces.ensures ∙ sixteen_pieces _)

pub returns-then-k-eq1 : goal.returns-then-k-eq1
returns-then-k-eq1 t c =
    let a = c.args in
    let p = c.requires.restorable in
    let one = c.if-k-eq1.true in
    let e = first_values a.k a.coverings.now a.plane.now one (values-told p.0 p.1 c.requires.low_value c.results-results.ensures) in
    top_says a.k a.coverings.now a.plane.now one c.results-results.result (covering_number p.0 p.1) e (c.sixteen_whole.ensures ∙ ap (every (is_whole a.k.levels)) c.by_labels-pieces.ensures)

pub values-v-requires : goal.values-v-requires
values-v-requires t c =
    let p = c.requires.restorable in
    values_asked p.0 p.1

pub loop-q-init : goal.loop-q-init
loop-q-init t c = (omega arith, λ p l. absurd (omega arith))

pub child-below-requires : goal.child-below-requires
child-below-requires t c =
    let b = c.requires.restorable.1 in
    (b, omega (arith, b.some, c.if-k-eq1.false), c.loop-q-test.true)

pub quarter-quad-requires : goal.quarter-quad-requires
quarter-quad-requires t c = c.loop-q-test.true

pub whole_in-requires : goal.whole_in-requires
whole_in-requires t c =
    let a = c.args in
    let p = c.requires.restorable in
    let k = a.k in
    let valued : c.values-v.result ≡ block_list (behind k (k.level - 1) a.coverings.now a.plane.now) k.i k.j =
    c.values-v.ensures c.results-results.result c.by_labels-pieces.ensures ∙ values-told p.0 p.1 c.requires.low_value c.results-results.ensures in
    let r = c.child-below.ensures in (
      omega (arith, ap (λ (n : Node). n.level) r.0, c.decreases, p.1.some, c.if-k-eq1.false),
      asked (below k c.loop-q.q) a.coverings.now a.plane.now r.0 a.unit p.0 r.1 p.2 (c.quarter-quad.ensures _ _ _ valued),
    )

pub returns-then-not-whole_in : goal.returns-then-not-whole_in
returns-then-not-whole_in t c =
    let a = c.args in
    let k = a.k in
    let two : 2 ≤ k.level = omega (arith, c.requires.restorable.1.some, c.if-k-eq1.false) in
    let said : T c.whole_in.result ↔ AllIn (k.level - 1 - 1) (WholeCell k.levels k.height k.width a.coverings.now a.plane.now) (k.i * 2 + c.loop-q.q % 2) (k.j * 2 + c.loop-q.q / 2) =
    told (below k c.loop-q.q) a.coverings.now a.plane.now c.child-below.ensures.0 c.whole_in.result c.whole_in.ensures in
    ((λ f. absurd f), (λ all. absurd (failed c.whole_in.result c.if-not-whole_in.true (said.1 (went k (WholeCell k.levels k.height k.width a.coverings.now a.plane.now) two all c.loop-q.q c.loop-q-test.true)))))

pub loop-q-preserved : goal.loop-q-preserved
loop-q-preserved t c =
    let a = c.args in
    let k = a.k in
    let said : T c.whole_in.result ↔ AllIn (k.level - 1 - 1) (WholeCell k.levels k.height k.width a.coverings.now a.plane.now) (k.i * 2 + c.loop-q.q % 2) (k.j * 2 + c.loop-q.q / 2) =
    told (below k c.loop-q.q) a.coverings.now a.plane.now c.child-below.ensures.0 c.whole_in.result c.whole_in.ensures in
    (omega arith, below_more _ _ c.loop-q.invariant.1 (said.0 (passed c.whole_in.result c.if-not-whole_in.false)))

pub returns : goal.returns
returns t c =
    let a = c.args in
    let k = a.k in
    let two : 2 ≤ k.level = omega (arith, c.requires.restorable.1.some, c.if-k-eq1.false) in
    ((λ f. came k (WholeCell k.levels k.height k.width a.coverings.now a.plane.now) two (λ q m. c.loop-q.invariant.1 q (omega arith))), (λ all. tt))
