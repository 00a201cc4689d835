-- `sheet_render::sheet_length` meets its contract. Assumes nothing.
use native.Mathlib.Omega.{arith}
use Rattle.text.proofs.Stamp.{width_le}
use Rattle.places.proofs.Sides.{passed}
use Rattle.sheet_render.proofs.Pieces.{sheet_length}
use Rattle.sheet_render.proofs.sheet_length.Goals as goal

pub width-a-requires : goal.width-a-requires
width-a-requires c = omega (arith, (passed c.args.height c.args.width c.args.levels c.requires.width_value.0 c.requires.width_value.1).tall)

pub width-b-requires : goal.width-b-requires
width-b-requires c = omega (arith, (passed c.args.height c.args.width c.args.levels c.requires.width_value.0 c.requires.width_value.1).wide)

pub width-c-requires : goal.width-c-requires
width-c-requires c = omega (arith, (passed c.args.height c.args.width c.args.levels c.requires.width_value.0 c.requires.width_value.1).few)

pub overflow_add-result : goal.overflow_add-result
overflow_add-result c = omega (arith, c.width-a.ensures, c.width-b.ensures, c.width-c.ensures, width_le 10 c.args.height, width_le 10 c.args.width, width_le 10 c.args.levels, c.blocks_length-d.ensures.1, c.entries_length-e.ensures.1)

pub overflow_add-result-2 : goal.overflow_add-result-2
overflow_add-result-2 c = omega (arith, c.width-a.ensures, c.width-b.ensures, c.width-c.ensures, width_le 10 c.args.height, width_le 10 c.args.width, width_le 10 c.args.levels, c.blocks_length-d.ensures.1, c.entries_length-e.ensures.1)

pub overflow_add-result-3 : goal.overflow_add-result-3
overflow_add-result-3 c = omega (arith, c.width-a.ensures, c.width-b.ensures, c.width-c.ensures, width_le 10 c.args.height, width_le 10 c.args.width, width_le 10 c.args.levels, c.blocks_length-d.ensures.1, c.entries_length-e.ensures.1)

pub overflow_add-result-4 : goal.overflow_add-result-4
overflow_add-result-4 c = omega (arith, c.width-a.ensures, c.width-b.ensures, c.width-c.ensures, width_le 10 c.args.height, width_le 10 c.args.width, width_le 10 c.args.levels, c.blocks_length-d.ensures.1, c.entries_length-e.ensures.1)

pub overflow_add-result-5 : goal.overflow_add-result-5
overflow_add-result-5 c = omega (arith, c.width-a.ensures, c.width-b.ensures, c.width-c.ensures, width_le 10 c.args.height, width_le 10 c.args.width, width_le 10 c.args.levels, c.blocks_length-d.ensures.1, c.entries_length-e.ensures.1)

pub returns : goal.returns
returns c = let a = c.args in omega (arith, sheet_length a.height a.width a.levels a.plane.now a.coverings.now, c.width-a.ensures, c.width-b.ensures, c.width-c.ensures, c.blocks_length-d.ensures.0, c.entries_length-e.ensures.0)
