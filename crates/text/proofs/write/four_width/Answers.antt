-- `text::write::four_width` meets its contract. Assumes nothing.
use native.Mathlib.Omega.{arith}
use Rattle.text.proofs.Stamp.{width_le, cell_length, four_length}
use Rattle.text.proofs.write.four_width.Goals as goal

pub overflow_add-result : goal.overflow_add-result
overflow_add-result c = let a = c.args in omega (arith, width_le 10 a.a, width_le 10 a.b, width_le 10 a.c, width_le 10 a.d)

pub overflow_add-result-2 : goal.overflow_add-result-2
overflow_add-result-2 c = let a = c.args in omega (arith, width_le 10 a.a, width_le 10 a.b, width_le 10 a.c, width_le 10 a.d)

pub overflow_add-result-3 : goal.overflow_add-result-3
overflow_add-result-3 c = let a = c.args in omega (arith, width_le 10 a.a, width_le 10 a.b, width_le 10 a.c, width_le 10 a.d)

pub overflow_add-result-4 : goal.overflow_add-result-4
overflow_add-result-4 c = let a = c.args in omega (arith, width_le 10 a.a, width_le 10 a.b, width_le 10 a.c, width_le 10 a.d)

pub returns : goal.returns
returns c =
    let a = c.args in
    omega (arith, four_length a.a a.b a.c a.d a.end, cell_length a.a 32, cell_length a.b 32, cell_length a.c 32, cell_length a.d a.end)
