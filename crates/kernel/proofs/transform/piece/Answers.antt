-- `kernel::transform::piece` meets its contract. Assumes nothing.
use mathlib.Core.Path.{refl}
use native.Mathlib.Omega.{arith}
use Rattle.coverings.specs.Words.{word_of}
use Rattle.block.specs.Block.{values_of, shapes_of, place_in, labels_of, forward}
use Rattle.kernel.specs.Kernel.{at}
use Rattle.kernel.proofs.Kernel.{small_within, summed, piece_value}
use Rattle.kernel.proofs.transform.piece.Goals as goal

pub signed_sums-requires : goal.signed_sums-requires
signed_sums-requires c = (
  small_within c.args.v.now c.requires.2 _ c.cell_at-a.ensures.1,
  small_within c.args.v.now c.requires.2 _ c.cell_at-b.ensures.1,
  small_within c.args.v.now c.requires.2 _ c.cell_at-c.ensures.1,
  small_within c.args.v.now c.requires.2 _ c.cell_at-d.ensures.1,
)

pub returns : goal.returns
unfolding forward
returns c =
    let x = c.args in
    let h = c.requires.2 in
    let w = word_of x.covering in
    summed (values_of (shapes_of w (place_in x.label (labels_of w))) (at x.v.now))
    (piece_value x.covering x.label 0 _ _ x.v.now h (omega arith) (omega arith) c.cell_at-a.ensures)
    (piece_value x.covering x.label 1 _ _ x.v.now h refl (omega arith) c.cell_at-b.ensures)
    (piece_value x.covering x.label 2 _ _ x.v.now h refl (omega arith) c.cell_at-c.ensures)
    (piece_value x.covering x.label 3 _ _ x.v.now h refl (omega arith) c.cell_at-d.ensures)
    c.signed_sums.ensures
