-- `smoothing::mix_column` meets its contract: its rows in band 0, then the others. Assumes nothing.
use mathlib.Core.Path.{◌≡◌, sym, ap, ◌∙◌}
use Prim.Native.Nat.{◌*◌}
use native.Mathlib.Nat.{mul-le-mul}
use native.Mathlib.Omega.{arith}
use lib.IntN.{pos, ◌-ℤ◌, ◌*ℤ◌}
use lib.ListN.{length}
use Rattle.integers.specs.Lists.{half}
use Rattle.pyramid.specs.Slices.{image_of}
use Rattle.pyramid.proofs.Slices.{slice_length}
use Rattle.variation.specs.Smooth.{masked}
use Rattle.smoothing.specs.Mixed.{mixed_of}
use Rattle.smoothing.proofs.Runs.{rows_is, upper, lower, rows-most, rows_inside, rest-inside, rest-ends}
use Rattle.smoothing.proofs.mix_column.Goals as goal

pub mix_run-requires : goal.mix_run-requires
mix_run-requires c =
    let small = mul-le-mul c.requires.col_lt_width.2 c.requires.col_lt_width.1 in
    let rows = rows_is c.args.levels c.args.height c.args.width c.args.col c.low_rows-low.ensures c.requires.col_lt_width.3 c.requires.col_lt_width.4 in
    record {
      count_in_bounds = (
        omega (arith, c.requires.plane_len.2, rows_inside c.args.levels c.args.height c.args.width c.args.step c.args.plane.now c.args.decomposed.now c.args.col c.requires.col_lt_width.0 c.low_rows-low.result rows),
        omega (arith, c.requires.plane_len.2, small),
        c.requires.plane_len.0 ∙ sym c.requires.plane_len.2,
        c.requires.plane_len.1 ∙ sym c.requires.plane_len.2,
        c.requires.col_lt_width.5,
      );
      by_index = ((λ k l. c.requires.by_index.0 k (omega (arith, c.requires.plane_len.2))), (λ k l. c.requires.by_index.1 k (omega (arith, c.requires.plane_len.2))));
    }

pub overflow_add-first : goal.overflow_add-first
overflow_add-first c =
    let small = mul-le-mul c.requires.col_lt_width.2 c.requires.col_lt_width.1 in
    let rows = rows_is c.args.levels c.args.height c.args.width c.args.col c.low_rows-low.ensures c.requires.col_lt_width.3 c.requires.col_lt_width.4 in
    omega (arith, small, rows_inside c.args.levels c.args.height c.args.width c.args.step c.args.plane.now c.args.decomposed.now c.args.col c.requires.col_lt_width.0 c.low_rows-low.result rows)

pub overflow_sub-height : goal.overflow_sub-height
overflow_sub-height c =
    let rows = rows_is c.args.levels c.args.height c.args.width c.args.col c.low_rows-low.ensures c.requires.col_lt_width.3 c.requires.col_lt_width.4 in
    rows-most c.args.levels c.args.height c.args.width c.args.step c.args.plane.now c.args.decomposed.now c.args.col c.requires.col_lt_width.0 c.low_rows-low.result rows

pub mix_run-requires-2 : goal.mix_run-requires-2
mix_run-requires-2 c =
    let small = mul-le-mul c.requires.col_lt_width.2 c.requires.col_lt_width.1 in
    let rows = rows_is c.args.levels c.args.height c.args.width c.args.col c.low_rows-low.ensures c.requires.col_lt_width.3 c.requires.col_lt_width.4 in
    let e = c.mix_run.auto.out ∙ c.requires.plane_len.2 in record {
      count_in_bounds = (
        omega (arith, e, rest-inside c.args.levels c.args.height c.args.width c.args.step c.args.plane.now c.args.decomposed.now c.args.col c.requires.col_lt_width.0 c.low_rows-low.result rows),
        omega (arith, e, small),
        c.requires.plane_len.0 ∙ sym e,
        c.requires.plane_len.1 ∙ sym e,
        c.requires.col_lt_width.5,
      );
      by_index = ((λ k l. c.requires.by_index.0 k (omega (arith, e))), (λ k l. c.requires.by_index.1 k (omega (arith, e))));
    }

pub shape_of-out : goal.shape_of-out
shape_of-out c = c.mix_run-2.auto.out ∙ c.mix_run.auto.out

pub returns : goal.returns
returns c =
    let all_long : length (mixed_of c.args.levels c.args.height c.args.width c.args.step c.args.plane.now c.args.decomposed.now) ≡ c.args.width * c.args.height = slice_length c.args.height c.args.width (λ y x. pos 16 *ℤ image_of c.args.height c.args.plane.now y x -ℤ pos c.args.step *ℤ masked c.args.levels c.args.height c.args.width (image_of c.args.height c.args.plane.now) (image_of c.args.height c.args.decomposed.now) y x) in
    let rows = rows_is c.args.levels c.args.height c.args.width c.args.col c.low_rows-low.ensures c.requires.col_lt_width.3 c.requires.col_lt_width.4 in
    let n = c.low_rows-low.result in
    let r = rows in
    λ old l e.
    c.mix_run-2.ensures (mixed_of c.args.levels c.args.height c.args.width c.args.step c.args.plane.now c.args.decomposed.now) old
    (lower c.args.levels c.args.height c.args.width c.args.step c.args.plane.now c.args.decomposed.now c.args.col c.requires.col_lt_width.0 n r) (all_long ∙ sym l) (l ∙ sym c.requires.plane_len.2 ∙ sym c.mix_run.auto.out)
    (c.mix_run.ensures (mixed_of c.args.levels c.args.height c.args.width c.args.step c.args.plane.now c.args.decomposed.now) old
    (upper c.args.levels c.args.height c.args.width c.args.step c.args.plane.now c.args.decomposed.now c.args.col c.requires.col_lt_width.0 n r) (all_long ∙ sym l) (l ∙ sym c.requires.plane_len.2) e)
    ∙ ap (half (mixed_of c.args.levels c.args.height c.args.width c.args.step c.args.plane.now c.args.decomposed.now) old) (rest-ends c.args.levels c.args.height c.args.width c.args.step c.args.plane.now c.args.decomposed.now c.args.col c.requires.col_lt_width.0 n r)
