-- `windows::fill_window` meets its contract. Assumes nothing.
use mathlib.Core.Path.{refl, ◌∙◌}
use Prim.Native.Nat.{◌+◌, ◌-◌, ◌/◌, ◌<◌}
use native.Mathlib.Omega.{arith}
use Rattle.pyramid.specs.Plane.{halved}
use Rattle.pyramid.proofs.Ranges.{halved_le}
use Rattle.blockwise.proofs.Cells.{across, cell_below, block_mono}
use Rattle.windows.specs.Shown.{sample_at}
use Rattle.windows.proofs.Filling.{kept_refl, kept_trans}
use borrow.Author.Count.{below_more}
use Rattle.windows.proofs.fill_window.Goals as goal

pub power-unit-requires : goal.power-unit-requires
power-unit-requires c = c.requires.restorable.most

pub overflow_add-v : goal.overflow_add-v
overflow_add-v c = omega (arith, c.requires.inside.0.across, c.requires.restorable.width)

pub overflow_sub-v : goal.overflow_sub-v
overflow_sub-v c = omega (arith, c.requires.inside.0.some_columns)

pub overflow_sub-levels : goal.overflow_sub-levels
overflow_sub-levels c = omega (arith, c.requires.restorable.some)

pub block_of-last-requires : goal.block_of-last-requires
block_of-last-requires c = omega (arith, c.requires.restorable.most)

pub overflow_sub-levels-2 : goal.overflow_sub-levels-2
overflow_sub-levels-2 c = omega (arith, c.requires.restorable.some)

pub block_of-first-requires : goal.block_of-first-requires
block_of-first-requires c = omega (arith, c.requires.restorable.most)

pub overflow_add-j-end : goal.overflow_add-j-end
overflow_add-j-end c =
    let a = c.args in
    let p = c.requires.restorable in
    let i = c.requires.inside.0 in
    omega (arith, c.block_of-last.ensures, cell_below (a.levels - 1) a.width (a.v.left + a.v.wide - 1) (across (a.levels - 1) a.levels a.height a.width (omega (arith, p.some)) p.fits) (omega (arith, i.across, i.some_columns)), halved_le (a.levels - 1) a.width, p.width)

pub loop-j-init : goal.loop-j-init
loop-j-init c = (kept_refl _ _ _, λ p l f. absurd (omega arith))

pub fill_column-requires : goal.fill_column-requires
fill_column-requires c =
    let a = c.args in
    let p = c.requires.restorable in
    let i = c.requires.inside.0 in
    let col : c.loop-j.j < halved (a.levels - 1) a.width / 4 = omega (arith, c.loop-j-test.true, c.block_of-last.ensures, cell_below (a.levels - 1) a.width (a.v.left + a.v.wide - 1) (across (a.levels - 1) a.levels a.height a.width (omega (arith, p.some)) p.fits) (omega (arith, i.across, i.some_columns))) in
    record { restorable = (p, i, c.loop-j.invariant.0.long ∙ c.requires.inside.1); j_bound = (col, c.power-unit.ensures) }

pub loop-j-preserved : goal.loop-j-preserved
loop-j-preserved c =
    let a = c.args in
    let f = c.fill_column.ensures in
    (kept_trans a.v (sample_at a.levels a.height a.width a.coverings.now a.plane.now) c.loop-j.invariant.0 f.0, below_more _ _ (λ p m n y x e. f.0.stays y x (c.loop-j.invariant.1 p m n y x e)) (λ n y x e. f.1 y x e))

pub shape_of-samples : goal.shape_of-samples
shape_of-samples c = c.loop-j.invariant.0.long

pub returns : goal.returns
returns c =
    let a = c.args in
    let d = a.levels - 1 in
    (c.loop-j.invariant.0.long ∙ c.requires.inside.1, λ y x f g b r. c.loop-j.invariant.1 (halved d (x / 4)) (omega (arith, c.loop-j-test.false, c.block_of-last.ensures, block_mono d x (a.v.left + a.v.wide - 1) (omega arith))) (block_mono d a.v.left x b) y x refl f g b r)
