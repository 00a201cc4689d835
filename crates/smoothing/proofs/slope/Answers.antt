-- `smoothing::slope` meets its contract. Assumes nothing.
use mathlib.Core.Path.{refl}
use Rattle.smoothing.proofs.Around.{first_fits, second_fits, third_fits, last_fits, gradient_is, inside}
use Rattle.smoothing.proofs.slope.Goals as goal

pub against-right-requires : goal.against-right-requires
against-right-requires c = inside c.args.height c.args.width c.args.values.now c.args.row c.args.col c.requires.0 c.requires.1 c.requires.4

pub overflow_add-result : goal.overflow_add-result
overflow_add-result c =
    first_fits c.args.height c.args.width c.args.values.now c.args.row c.args.col refl refl c.against_before-above.ensures c.against-below.ensures c.against_before-left.ensures c.against-right.ensures

pub overflow_add-result-2 : goal.overflow_add-result-2
overflow_add-result-2 c =
    second_fits c.args.height c.args.width c.args.values.now c.args.row c.args.col refl refl c.against_before-above.ensures c.against-below.ensures c.against_before-left.ensures c.against-right.ensures

pub overflow_add-result-3 : goal.overflow_add-result-3
overflow_add-result-3 c =
    third_fits c.args.height c.args.width c.args.values.now c.args.row c.args.col refl refl c.against_before-above.ensures c.against-below.ensures c.against_before-left.ensures c.against-right.ensures

pub overflow_mul-result : goal.overflow_mul-result
overflow_mul-result c =
    last_fits c.args.height c.args.width c.args.values.now c.args.row c.args.col refl refl c.against_before-above.ensures c.against-below.ensures c.against_before-left.ensures c.against-right.ensures

pub returns : goal.returns
returns c =
    gradient_is c.args.height c.args.width c.args.values.now c.args.row c.args.col refl refl c.against_before-above.ensures c.against-below.ensures c.against_before-left.ensures c.against-right.ensures
