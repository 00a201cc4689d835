-- `text::write::put_five` meets its contract: four numbers, the value and the LF are written one after the other. Assumes nothing.
use mathlib.Core.Path.{◌≡◌, ap, subst}
use Prim.Native.Nat.{◌<◌}
use native.Mathlib.Omega.{arith}
use lib.ListN.{length}
use mir.Facts.{to_z-of_z}
use mir.Syntax.{w64}
use mir.Val.{to_z, of_z}
use Rattle.text.specs.Text.{value_text}
use Rattle.text.specs.Write.{four_text}
use Rattle.text.proofs.Stamp.{five_length, Put, put_length, put_more, put_byte}
use Rattle.text.proofs.write.put_five.Goals as goal

pub returns-clause-out_after : goal.returns-clause-out_after
returns-clause-out_after c =
    let a = c.args in
    let l = five_length a.a a.b a.c a.d a.v in
    let front : Put a.at c.put_four-p.result (four_text a.a a.b a.c a.d 32) a.out.now c.put_four-p.new.out =
    record { room = omega (arith, l); next = c.put_four-p.ensures.value; bytes = c.put_four-p.ensures.out_after } in
    let same_value : to_z w64 (of_z w64 a.v) ≡ a.v = to_z-of_z c.ranges.v in
    let value : Put c.put_four-p.result c.put_value-q.result (value_text a.v) c.put_four-p.new.out c.put_value-q.new.out =
    subst (λ v. Put c.put_four-p.result c.put_value-q.result (value_text v) c.put_four-p.new.out c.put_value-q.new.out) same_value
    (record {
      room = omega (arith, l, front.next, put_length front, ap (λ v. length (value_text v)) same_value);
      next = c.put_value-q.ensures.value;
      bytes = c.put_value-q.ensures.out_after;
    }) in
    let inside : c.put_value-q.result < length c.put_value-q.new.out = omega (arith, l, front.next, put_length front, value.next, put_length value) in
    (put_more front (put_more value (put_byte c.put_value-q.result 10 c.put_value-q.new.out inside))).bytes
