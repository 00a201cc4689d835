-- `places::checks::fits_range` meets its contract. Assumes nothing.
use mathlib.Core.Path.{◌≡◌, ap, ◌∙◌}
use mathlib.Core.Bool.{true, false}
use Prim.Native.Nat.{◌*◌, ◌-◌}
use native.Mathlib.Omega.{arith}
use lib.Dec.{leb}
use lib.IntN.{pos, nat_abs}
use lib.Signed.{lt_z}
use mir.Facts.{to_z-of_z}
use Rattle.places.specs.Walk.{entry_of}
use Rattle.places.proofs.Tests.{low_below, low_from, tetrolet_from, power_small}
use Rattle.places.proofs.checks.fits_range.Goals as goal

pub returns-then-v-lt0 : goal.returns-then-v-lt0
returns-then-v-lt0 c =
    let n : lt_z c.args.v (pos 0) ≡ true = rw (to_z-of_z c.ranges.v) at c.if-v-lt0.true in
    low_below c.args.levels (entry_of c.args.k) c.args.v (omega arith) n

pub overflow_mul-result : goal.overflow_mul-result
overflow_mul-result c = omega (arith, power_small c.args.levels (omega arith))

pub returns-then-k-eq0 : goal.returns-then-k-eq0
returns-then-k-eq0 c =
    let m_is : c.magnitude-m.result ≡ nat_abs c.args.v = c.magnitude-m.ensures ∙ ap nat_abs (to_z-of_z c.ranges.v) in
    let n : lt_z c.args.v (pos 0) ≡ false = rw (to_z-of_z c.ranges.v) at c.if-v-lt0.false in
    (λ i. leb (m_is i) (4095 * c.power.ensures i)) ∙ low_from c.args.levels (entry_of c.args.k) c.args.v (omega arith) n

pub overflow_mul-result-2 : goal.overflow_mul-result-2
overflow_mul-result-2 c = omega (arith, power_small (c.args.k.level - 1) (omega arith))

pub overflow_mul-result-3 : goal.overflow_mul-result-3
overflow_mul-result-3 c = omega (arith, power_small (c.args.k.level - 1) (omega arith))

pub returns : goal.returns
returns c =
    let m_is : c.magnitude-m.result ≡ nat_abs c.args.v = c.magnitude-m.ensures ∙ ap nat_abs (to_z-of_z c.ranges.v) in
    (λ i. leb (m_is i) (2 * c.power-2.ensures i * 4095)) ∙ tetrolet_from c.args.levels (entry_of c.args.k) c.args.v c.if-k-eq0.false
