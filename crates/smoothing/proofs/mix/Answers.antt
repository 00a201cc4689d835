-- `smoothing::mix` meets its contract. Assumes nothing.
use mathlib.Core.Path.{◌∙◌}
use native.Mathlib.Omega.{arith}
use lib.IntN.{pos, ◌-ℤ◌, ◌*ℤ◌}
use Rattle.pyramid.specs.Slices.{image_of}
use Rattle.pyramid.proofs.Behind.{halved_shift}
use Rattle.variation.specs.Smooth.{masked}
use Rattle.smoothing.specs.Mixed.{mixed_of}
use Rattle.smoothing.proofs.Cells.{columns_none, columns_next, columns_all}
use Rattle.smoothing.proofs.mix.Goals as goal

pub loop-col-init : goal.loop-col-init
loop-col-init c = columns_none c.args.height (mixed_of c.args.levels c.args.height c.args.width c.args.step c.args.plane.now c.args.decomposed.now) c.args.out.now

pub mix_column-requires : goal.mix_column-requires
mix_column-requires c =
    record { col_lt_width = (omega arith, c.requires.levels_bound.1, c.requires.levels_bound.2, halved_shift c.args.levels c.args.height, halved_shift c.args.levels c.args.width, c.requires.levels_bound.3); plane_len = (c.requires.plane_len.0, c.requires.plane_len.1, c.loop-col.auto.out ∙ c.requires.plane_len.2); by_index = c.requires.by_index }

pub loop-col-preserved : goal.loop-col-preserved
loop-col-preserved c =
    columns_next c.args.height c.loop-col.col (mixed_of c.args.levels c.args.height c.args.width c.args.step c.args.plane.now c.args.decomposed.now) c.args.out.now
    (c.mix_column.ensures c.args.out.now c.requires.plane_len.2 c.loop-col.invariant)

pub returns : goal.returns
returns c =
    let l = c.loop-col in
    columns_all c.args.height c.args.width l.col (λ y x. pos 16 *ℤ image_of c.args.height c.args.plane.now y x
    -ℤ pos c.args.step *ℤ masked c.args.levels c.args.height c.args.width (image_of c.args.height c.args.plane.now) (image_of c.args.height c.args.decomposed.now) y x) c.args.out.now c.requires.plane_len.2 (omega arith) l.invariant
