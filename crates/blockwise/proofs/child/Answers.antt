-- `blockwise::child` meets its contract. Assumes nothing.
use mathlib.Core.Path.{subst⁻¹}
use native.Mathlib.Omega.{arith}
use Rattle.blockwise.specs.Node.{Block}
use Rattle.blockwise.proofs.Nodes.{tall_most, wide_most, weight_most, below_takes, below_small, below-is, below-block}
use Rattle.blockwise.proofs.child.Goals as goal

pub overflow_mul-tall : goal.overflow_mul-tall
overflow_mul-tall c = omega (arith, tall_most c.requires.0, c.requires.0.high)

pub overflow_mul-wide : goal.overflow_mul-wide
overflow_mul-wide c = omega (arith, wide_most c.requires.0, c.requires.0.broad)

pub overflow_mul-first : goal.overflow_mul-first
overflow_mul-first c = omega (arith, below_small c.requires.0 c.requires.1)

pub overflow_sub-first : goal.overflow_sub-first
overflow_sub-first c = below_takes c.requires.0 c.requires.1

pub overflow_mul-result : goal.overflow_mul-result
overflow_mul-result c = omega (arith, weight_most c.requires.0)

pub returns : goal.returns
returns c =
    let e = below-is c.requires.0 c.requires.1 c.args.q c.requires.2 in
    (e, subst⁻¹ Block e (below-block c.requires.0 c.requires.1 c.args.q c.requires.2))
