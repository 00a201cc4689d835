-- `text::write::five_width` meets its contract. Assumes nothing.
use mathlib.Core.Path.{◌≡◌, ap, ◌∙◌}
use native.Mathlib.Omega.{arith}
use lib.ListN.{length}
use mir.Facts.{to_z-of_z}
use Rattle.text.specs.Text.{value_text}
use Rattle.text.proofs.Stamp.{four_bound, five_length, value_length}
use Rattle.text.proofs.write.five_width.Goals as goal

value_is : (c : goal.After-value_width-x) → c.value_width-x.result ≡ length (value_text c.args.v)
value_is c = c.value_width-x.ensures.0 ∙ ap (λ v. length (value_text v)) (to_z-of_z c.ranges.v)

pub overflow_add-result : goal.overflow_add-result
overflow_add-result c = let a = c.args in omega (arith, four_bound a.a a.b a.c a.d 32, value_is c, value_length a.v)

pub overflow_add-result-2 : goal.overflow_add-result-2
overflow_add-result-2 c = let a = c.args in omega (arith, four_bound a.a a.b a.c a.d 32, value_is c, value_length a.v)

pub returns : goal.returns
returns c =
    let a = c.args in (
      omega (arith, five_length a.a a.b a.c a.d a.v, value_is c),
      omega (arith, four_bound a.a a.b a.c a.d 32, value_is c, value_length a.v),
    )
