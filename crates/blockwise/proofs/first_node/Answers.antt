-- `blockwise::first_node` meets its contract. Assumes nothing.
use mathlib.Core.Path.{refl, subst⁻¹}
use native.Mathlib.Omega.{arith}
use Rattle.blockwise.specs.Node.{Block}
use Rattle.blockwise.proofs.Nodes.{first_takes, first_is, first_block}
use Rattle.blockwise.proofs.first_node.Goals as goal

pub overflow_mul-first : goal.overflow_mul-first
overflow_mul-first c = let a = c.args in let p = c.requires.fits in omega (arith, first_takes a.levels a.height a.width a.count a.i a.j p.0 p.1 p.2 p.3 p.4 p.5, c.ranges.count)

pub overflow_sub-first : goal.overflow_sub-first
overflow_sub-first c = let a = c.args in let p = c.requires.fits in first_takes a.levels a.height a.width a.count a.i a.j p.0 p.1 p.2 p.3 p.4 p.5

pub returns : goal.returns
returns c =
    let a = c.args in
    let p = c.requires.fits in
    let e = first_is a.levels a.height a.width a.count a.i a.j p.0 p.1 p.2 p.3 p.4 p.5 _ _ _ refl refl refl in
    (e, subst⁻¹ Block e (first_block a.levels a.height a.width a.count a.i a.j p.0 p.1 p.2 p.3 p.4 p.5 c.requires.i_bound.0 c.requires.i_bound.1))
