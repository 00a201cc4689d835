-- `text::write::value_width` meets its contract. Assumes nothing.
use mathlib.Core.Path.{◌≡◌, ap, ◌∙◌}
use mathlib.Core.Bool.{true, false}
use native.Mathlib.Omega.{arith}
use lib.IntN.{pos, nat_abs}
use lib.Signed.{lt_z}
use lib.ListN.{length}
use mir.Facts.{to_z-of_z}
use Rattle.text.specs.Text.{digits}
use Rattle.text.proofs.Stamp.{width_le, text_negative, text_positive}
use Rattle.text.proofs.Exact.{laws}
use Rattle.text.proofs.write.value_width.Goals as goal

pub overflow_add-result : goal.overflow_add-result
overflow_add-result c = omega (arith, c.width-w.ensures, width_le 10 c.magnitude-m.result)

pub returns-then-v-lt0 : goal.returns-then-v-lt0
returns-then-v-lt0 c =
    let v = c.args.v in
    let m : c.magnitude-m.result ≡ nat_abs v = c.magnitude-m.ensures ∙ ap nat_abs (to_z-of_z c.ranges.v) in
    let e : lt_z v (pos 0) ≡ true = rw (to_z-of_z c.ranges.v) at c.if-v-lt0.true in
    (omega (arith, c.width-w.ensures, ap (λ x. length (digits x)) m, ap length (text_negative v e)), laws)

pub returns : goal.returns
returns c =
    let v = c.args.v in
    let m : c.magnitude-m.result ≡ nat_abs v = c.magnitude-m.ensures ∙ ap nat_abs (to_z-of_z c.ranges.v) in
    let e : lt_z v (pos 0) ≡ false = rw (to_z-of_z c.ranges.v) at c.if-v-lt0.false in
    (omega (arith, c.width-w.ensures, ap (λ x. length (digits x)) m, ap length (text_positive v e)), laws)
