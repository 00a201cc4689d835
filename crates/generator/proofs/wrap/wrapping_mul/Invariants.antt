-- `generator::wrap::wrapping_mul` meets its contract. The loop's invariant: the sum, with the part times the number left, is the product modulo 2^32. Assumes nothing.
use Rattle.std.proofs.Common.{◌≡◌, ◌+◌, ◌*◌, ◌%◌, ◌^◌, ◌<◌}
use Rattle.generator.proofs.wrap.wrapping_mul.Given as goal

abbrev pub invariant-loop-left : goal.invariant-loop-left
invariant-loop-left l = (l.sum < 2 ^ 32) × ((l.sum + l.part * l.left) % 2 ^ 32 ≡ l.a * l.b % 2 ^ 32)

abbrev pub decreases-loop-left : goal.decreases-loop-left
decreases-loop-left l = l.left
