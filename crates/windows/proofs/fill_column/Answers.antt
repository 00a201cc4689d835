-- `windows::fill_column` meets its contract. Assumes nothing.
use mathlib.Core.Path.{refl, ◌∙◌}
use Prim.Native.Nat.{◌+◌, ◌*◌, ◌-◌, ◌/◌, ◌<◌}
use native.Mathlib.Omega.{arith}
use Rattle.integers.proofs.Index.{index_bound}
use Rattle.pyramid.specs.Plane.{halved}
use Rattle.pyramid.proofs.Ranges.{halved_le}
use Rattle.blockwise.specs.Node.{block_at}
use Rattle.blockwise.proofs.Cells.{down, cell_below, block_mono}
use Rattle.blockwise.proofs.Ends.{asked, values_last}
use Rattle.windows.specs.Shown.{sample_at}
use Rattle.windows.proofs.Filling.{inside_most, kept_refl, kept_trans, told}
use borrow.Author.Count.{below_more}
use Rattle.windows.proofs.fill_column.Goals as goal
use Rattle.windows.proofs.fill_column.Goals.{In-loop-i}

-- the block row c one of the last level
row : (c : goal.In-loop-i) → let a = c.args in c.loop-i.i < halved (a.levels - 1) a.height / 4
row c =
    let a = c.args in
    let p = c.requires.restorable in
    omega (arith, c.loop-i-test.true, c.block_of-last.ensures, cell_below (a.levels - 1) a.height (a.v.top + a.v.tall - 1) (down (a.levels - 1) a.levels a.height a.width (omega (arith, p.0.some)) p.0.fits) (omega (arith, p.1.down, p.1.some_rows)))

pub overflow_add-v : goal.overflow_add-v
overflow_add-v c = let p = c.requires.restorable in omega (arith, p.1.down, p.0.height)

pub overflow_sub-v : goal.overflow_sub-v
overflow_sub-v c = let p = c.requires.restorable in omega (arith, p.1.some_rows)

pub overflow_sub-levels : goal.overflow_sub-levels
overflow_sub-levels c = let p = c.requires.restorable in omega (arith, p.0.some)

pub block_of-last-requires : goal.block_of-last-requires
block_of-last-requires c = let p = c.requires.restorable in omega (arith, p.0.most)

pub overflow_sub-levels-2 : goal.overflow_sub-levels-2
overflow_sub-levels-2 c = let p = c.requires.restorable in omega (arith, p.0.some)

pub block_of-first-requires : goal.block_of-first-requires
block_of-first-requires c = let p = c.requires.restorable in omega (arith, p.0.most)

pub overflow_add-i-end : goal.overflow_add-i-end
overflow_add-i-end c =
    let a = c.args in
    let p = c.requires.restorable in
    omega (arith, c.block_of-last.ensures, cell_below (a.levels - 1) a.height (a.v.top + a.v.tall - 1) (down (a.levels - 1) a.levels a.height a.width (omega (arith, p.0.some)) p.0.fits) (omega (arith, p.1.down, p.1.some_rows)), halved_le (a.levels - 1) a.height, p.0.height)

pub loop-i-init : goal.loop-i-init
loop-i-init c = (kept_refl _ _ _, λ p l f. absurd (omega arith))

pub first_node-k-requires : goal.first_node-k-requires
first_node-k-requires c =
    let p = c.requires.restorable.0 in
    record { fits = (p.fits, p.some, p.most, p.height, p.width, p.covered); i_bound = (row c, c.requires.j_bound.0) }

pub last-low-requires : goal.last-low-requires
last-low-requires c =
    let a = c.args in
    let p = c.requires.restorable.0 in
    let below : c.loop-i.i * 2 + 1 < a.height = omega (arith, row (goal.at.last-low-requires c).In-loop-i, halved_le (a.levels - 1) a.height) in
    let across : a.j * 2 + 1 < a.width = omega (arith, c.requires.j_bound.0, halved_le (a.levels - 1) a.width) in
    (p.height, omega (arith, p.height), omega (arith, p.width), omega (arith, index_bound (a.j * 2 + 1) (c.loop-i.i * 2 + 1) a.width a.height across below, p.plane_long))

pub fill-requires : goal.fill-requires
fill-requires c =
    let a = c.args in
    let p = c.requires.restorable in
    let k = c.first_node-k.ensures in
    let q = asked (block_at a.levels a.height a.width a.levels c.loop-i.i a.j) a.coverings.now a.plane.now k.0 a.unit p.0 k.1 c.requires.j_bound.1
    (values_last a.levels a.height a.width a.coverings.now a.plane.now c.loop-i.i a.j c.last-low.ensures) in
    record { restorable = q.0; low_value = q.1; inside = (inside_most a.v a.height a.width p.1 p.0.height p.0.width, c.loop-i.invariant.0.long ∙ p.2) }

pub loop-i-preserved : goal.loop-i-preserved
loop-i-preserved c =
    let a = c.args in
    let f = told a.v (block_at a.levels a.height a.width a.levels c.loop-i.i a.j) a.coverings.now a.plane.now c.first_node-k.ensures.0 c.fill.ensures in (
      kept_trans a.v (sample_at a.levels a.height a.width a.coverings.now a.plane.now) c.loop-i.invariant.0 f.0,
      below_more _ _ (λ p m n y x d e. f.0.stays y x (c.loop-i.invariant.1 p m n y x d e)) (λ n. f.1),
    )

pub shape_of-samples : goal.shape_of-samples
shape_of-samples c = c.loop-i.invariant.0.long

pub returns : goal.returns
returns c =
    let a = c.args in
    let d = a.levels - 1 in
    (c.loop-i.invariant.0, λ y x e f g b r. c.loop-i.invariant.1 (halved d (y / 4)) (omega (arith, c.loop-i-test.false, c.block_of-last.ensures, block_mono d y (a.v.top + a.v.tall - 1) (omega arith))) (block_mono d a.v.top y f) y x refl e f g b r)
