-- `cutting::print_picture` meets its contract: the parts of the work space that a picture of at most 32 by 32 takes. Assumes nothing.
use mathlib.Core.Path.{sym, ◌∙◌}
use Prim.Native.Nat.{◌≤◌}
use native.Mathlib.Omega.{arith}
use lib.Seq.{length-take-le}
use Rattle.places.proofs.Sides.{passed}
use Rattle.cutting.proofs.Bounds.{few_blocks}
use Rattle.cutting.proofs.print_picture.Goals as goal
use Rattle.cutting.proofs.print_picture.Goals.{After-count_blocks-blocks}

blocks : (k : After-count_blocks-blocks) → k.count_blocks-blocks.result ≤ 85
blocks k =
    let a = k.args in
    let w = k.requires.width_value in
    omega (arith, k.count_blocks-blocks.ensures.0, few_blocks a.height a.width a.levels w.2 w.3 (passed a.height a.width a.levels w.0 w.1).few)

pub count_blocks-blocks-requires : goal.count_blocks-blocks-requires
count_blocks-blocks-requires c =
    let w = c.requires.width_value in
    (omega (arith, w.2), omega (arith, w.3), (passed c.args.height c.args.width c.args.levels w.0 w.1).few)

pub slice_bounds-coverings-end : goal.slice_bounds-coverings-end
slice_bounds-coverings-end c = omega (arith, blocks (goal.at.slice_bounds-coverings-end c).After-count_blocks-blocks, c.covering_buffer-coverings.ensures)

pub slice_bounds-print_sheet-end-2 : goal.slice_bounds-print_sheet-end-2
slice_bounds-print_sheet-end-2 c =
    sym (length-take-le _ _ (omega (arith, blocks (goal.at.slice_bounds-print_sheet-end-2 c).After-count_blocks-blocks, c.covering_buffer-coverings.ensures)))

pub print_sheet-requires-clause-coverings_len : goal.print_sheet-requires-clause-coverings_len
print_sheet-requires-clause-coverings_len c = (
  length-take-le _ _ (omega (arith, blocks (goal.at.print_sheet-requires-clause-coverings_len c).After-count_blocks-blocks, c.covering_buffer-coverings.ensures)) ∙ c.count_blocks-blocks.ensures.0,
  c.requires.samples_len.1,
)
