-- `generator::wrap::wrapping_mul` meets its contract. The loop's invariant: the sum, with the part times the number left, is the product modulo 2^32. Assumes nothing.
use Rattle.std.proofs.Common.{ℕ, ◌%◌, ◌^◌, ap, ◌∙◌, mod-lt, zero-add, arith}
use Rattle.generator.proofs.Modular.{turned, ended}
use Rattle.generator.proofs.wrap.wrapping_mul.Goals as goal

pub loop-left-init : goal.loop-left-init
loop-left-init c = (omega arith, ap (λ (n : ℕ). n % 2 ^ 32) (zero-add _))

pub loop-left-preserved : goal.loop-left-preserved
loop-left-preserved c =
    let l = c.loop-left in
    let s = c.wrapping_add_u32-sum.ensures.value in
    (rw s (mod-lt _ (omega arith)), turned (2 ^ 32) l.sum l.part l.left c.odd_part.ensures s c.wrapping_add_u32-part.ensures.value ∙ l.invariant.1)

pub returns : goal.returns
returns c =
    let l = c.loop-left in
    ended (2 ^ 32) l.sum l.part l.left (omega arith) l.invariant.0 ∙ l.invariant.1
