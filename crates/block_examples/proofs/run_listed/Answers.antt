-- `block_examples::run_listed` is safe and ends. Assumes nothing.
use Prim.Native.Nat.{◌^◌}
use native.Mathlib.Omega.{arith}
use Rattle.kernel.proofs.Kernel.{forward_within}
use Rattle.block_examples.proofs.run_listed.Goals as goal

pub needed_by-needed-requires : goal.needed_by-needed-requires
needed_by-needed-requires g c = c.requires.2

pub choose-covering-requires : goal.choose-covering-requires
choose-covering-requires g c =
    (λ a h. omega (arith, c.requires.0 a h), omega (arith, c.requires.1), c.requires.2, c.needed_by-needed.ensures)

pub forward-t-requires : goal.forward-t-requires
forward-t-requires g c =
    (c.choose-covering.ensures.0, λ a h. omega (arith, c.requires.0 a h))

pub inverse-requires : goal.inverse-requires
inverse-requires g c =
    (c.choose-covering.ensures.0, λ a h. rw c.forward-t.ensures (forward_within c.choose-covering.result (2 ^ 38) c.args.v c.requires.0 a h))
