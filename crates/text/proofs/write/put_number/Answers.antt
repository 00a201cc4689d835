-- `text::write::put_number` meets its contract. Assumes nothing.
use mathlib.Core.Path.{ap, ◌∙◌}
use Prim.Native.Nat.{◌+◌}
use native.Mathlib.Omega.{arith}
use Rattle.text.specs.Write.{stamped}
use Rattle.text.proofs.Stamp.{put_digits}
use Rattle.text.proofs.write.put_number.Goals as goal

pub returns : goal.returns
returns c =
    let a = c.args in
    let w = c.width-w.ensures in record { value = ap (λ x. a.at + x) w; out_after = c.put_digits.ensures ∙ ap (λ x. stamped x a.at a.v a.out.now) w ∙ put_digits a.at a.v a.out.now (omega arith) (omega arith) }
