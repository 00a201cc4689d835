-- `masters::column_whole` meets its contract. Assumes nothing.
use mathlib.Core.Path.{ap}
use mathlib.Core.Logic.{◌↔◌}
use Prim.Native.Nat.{ℕ, ◌+◌, ◌*◌, ◌-◌, ◌/◌, ◌<◌}
use native.Mathlib.Omega.{arith}
use lib.Dec.{T}
use Rattle.integers.proofs.Index.{index_bound}
use Rattle.pyramid.specs.Plane.{halved}
use Rattle.pyramid.proofs.Behind.{halved_shift}
use Rattle.pyramid.proofs.Ranges.{halved_le}
use Rattle.blockwise.specs.Node.{block_at}
use Rattle.blockwise.proofs.Ends.{asked, values_last}
use Rattle.blockwise.specs.Cells.{AllIn}
use Rattle.masters.specs.Cells.{WholeCell}
use Rattle.masters.proofs.Descent.{failed, passed, told, column_of, in_column}
use borrow.Author.Count.{below_more}
use Rattle.masters.proofs.column_whole.Goals as goal
use Rattle.masters.proofs.column_whole.Goals.{In-loop-i}

-- the block row c one of the last level
row : (c : goal.In-loop-i) → let a = c.args in c.loop-i.i < halved (a.levels - 1) a.height / 4
row c = let a = c.args in omega (arith, c.loop-i-test.true, ap (λ (n : ℕ). n / 4) (halved_shift (a.levels - 1) a.height))

pub loop-i-init : goal.loop-i-init
loop-i-init c = (omega arith, λ p l. absurd (omega arith))

pub first_node-k-requires : goal.first_node-k-requires
first_node-k-requires c =
    let p = c.requires.restorable in
    record { fits = (p.fits, p.some, p.most, p.height, p.width, p.covered); i_bound = (row c, c.requires.j_bound.0) }

pub last-low-requires : goal.last-low-requires
last-low-requires c =
    let a = c.args in
    let p = c.requires.restorable in
    let down : c.loop-i.i * 2 + 1 < a.height = omega (arith, row (goal.at.last-low-requires c).In-loop-i, halved_le (a.levels - 1) a.height) in
    let across : a.j * 2 + 1 < a.width = omega (arith, c.requires.j_bound.0, halved_le (a.levels - 1) a.width) in
    (p.height, omega (arith, p.height), omega (arith, p.width), omega (arith, index_bound (a.j * 2 + 1) (c.loop-i.i * 2 + 1) a.width a.height across down, p.plane_long))

pub whole_in-requires : goal.whole_in-requires
whole_in-requires c =
    let a = c.args in
    let k = c.first_node-k.ensures in
    let q = asked (block_at a.levels a.height a.width a.levels c.loop-i.i a.j) a.coverings.now a.plane.now k.0 a.unit c.requires.restorable k.1 c.requires.j_bound.1
    (values_last a.levels a.height a.width a.coverings.now a.plane.now c.loop-i.i a.j c.last-low.ensures) in
    record { restorable = q.0; low_value = q.1 }

pub returns-then-not-whole_in : goal.returns-then-not-whole_in
returns-then-not-whole_in c =
    let a = c.args in
    let said : T c.whole_in.result ↔ AllIn (a.levels - 1) (WholeCell a.levels a.height a.width a.coverings.now a.plane.now) c.loop-i.i a.j = told (block_at a.levels a.height a.width a.levels c.loop-i.i a.j) a.coverings.now a.plane.now c.first_node-k.ensures.0 c.whole_in.result c.whole_in.ensures in
    ((λ f. absurd f), (λ all. absurd (failed c.whole_in.result c.if-not-whole_in.true (said.1 (in_column a.levels a.height a.width c.requires.restorable.some c.requires.restorable.fits (WholeCell a.levels a.height a.width a.coverings.now a.plane.now) a.j all c.loop-i.i (row (goal.at.returns-then-not-whole_in c).In-loop-i))))))

pub loop-i-preserved : goal.loop-i-preserved
loop-i-preserved c =
    let a = c.args in
    let said : T c.whole_in.result ↔ AllIn (a.levels - 1) (WholeCell a.levels a.height a.width a.coverings.now a.plane.now) c.loop-i.i a.j = told (block_at a.levels a.height a.width a.levels c.loop-i.i a.j) a.coverings.now a.plane.now c.first_node-k.ensures.0 c.whole_in.result c.whole_in.ensures in
    (omega (arith, c.loop-i-test.true), below_more _ _ c.loop-i.invariant.1 (said.0 (passed c.whole_in.result c.if-not-whole_in.false)))

pub returns : goal.returns
returns c =
    let a = c.args in (
      (λ f. column_of a.levels a.height a.width c.requires.restorable.some c.requires.restorable.fits (WholeCell a.levels a.height a.width a.coverings.now a.plane.now) a.j
          (λ i m. c.loop-i.invariant.1 i (omega (arith, c.loop-i-test.false, ap (λ (n : ℕ). n / 4) (halved_shift (a.levels - 1) a.height))))),
      (λ all. tt),
    )
