-- `smoothing::slopes` meets its contract. Assumes nothing.
use native.Mathlib.Omega.{arith}
use Rattle.pyramid.specs.Slices.{image_of}
use Rattle.variation.specs.Smooth.{gradient}
use Rattle.smoothing.specs.Mixed.{gradient_of}
use Rattle.smoothing.proofs.Cells.{columns_none, columns_next, columns_all}
use Rattle.smoothing.proofs.slopes.Goals as goal

pub loop-col-init : goal.loop-col-init
loop-col-init c = (c.args.out.now, c.requires.3, columns_none c.args.height (gradient_of c.args.height c.args.width c.args.values.now) c.args.out.now)

pub loop-col-preserved : goal.loop-col-preserved
loop-col-preserved c =
    let o = c.loop-col.invariant in
    (o.0, o.1, columns_next c.args.height c.loop-col.col (gradient_of c.args.height c.args.width c.args.values.now) o.0 (c.slope_column.ensures o.0 o.1 o.2))

pub returns : goal.returns
returns c =
    let o = c.loop-col.invariant in
    columns_all c.args.height c.args.width c.loop-col.col (gradient c.args.height c.args.width (image_of c.args.height c.args.values.now)) o.0 o.1 (omega arith) o.2
