-- `coder::is_framed` meets its contract. Assumes nothing.
use native.Mathlib.Omega.{arith}
use native.Mathlib.Nat.{mul-le-mul}
use Rattle.coder.proofs.is_framed.Goals as goal

pub overflow_mul-area : goal.overflow_mul-area
overflow_mul-area c = omega (arith, mul-le-mul c.requires.1 c.requires.0)

pub returns : goal.returns
returns c = rw (← c.count_blocks-blocks.ensures.0)
