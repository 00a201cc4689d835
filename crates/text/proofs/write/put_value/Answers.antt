-- `text::write::put_value` meets its contract. Assumes nothing.
use mathlib.Core.Path.{◌≡◌, sym, ap, ◌∙◌, subst}
use mathlib.Core.Bool.{true, false}
use mathlib.Core.List.{◌∷◌}
use Prim.Native.Nat.{◌+◌}
use native.Mathlib.Omega.{arith}
use lib.IntN.{pos, nat_abs}
use lib.Signed.{lt_z}
use lib.ListN.{length, set, length-set}
use mir.Facts.{to_z-of_z}
use Rattle.text.specs.Text.{digits, value_text}
use Rattle.text.proofs.Stamp.{text_negative, text_positive, Put, put_more, put_byte}
use Rattle.text.proofs.write.put_value.Goals as goal

pub bounds-out-at : goal.bounds-out-at
bounds-out-at c =
    let v = c.args.v in
    let m : c.magnitude-m.result ≡ nat_abs v = c.magnitude-m.ensures ∙ ap nat_abs (to_z-of_z c.ranges.v) in
    let e : lt_z v (pos 0) ≡ true = rw (to_z-of_z c.ranges.v) at c.if-v-lt0.true in
    let t : value_text v ≡ 45 ∷ digits c.magnitude-m.result = text_negative v e ∙ ap (λ x. 45 ∷ digits x) (sym m) in
    omega (arith, ap length t)

pub put_number-requires : goal.put_number-requires
put_number-requires c =
    let v = c.args.v in
    let m : c.magnitude-m.result ≡ nat_abs v = c.magnitude-m.ensures ∙ ap nat_abs (to_z-of_z c.ranges.v) in
    let e : lt_z v (pos 0) ≡ true = rw (to_z-of_z c.ranges.v) at c.if-v-lt0.true in
    let t : value_text v ≡ 45 ∷ digits c.magnitude-m.result = text_negative v e ∙ ap (λ x. 45 ∷ digits x) (sym m) in
    (omega (arith, m), omega (arith, ap length t, length-set c.args.out.now c.args.at 45))

pub returns-then-v-lt0 : goal.returns-then-v-lt0
returns-then-v-lt0 c =
    let v = c.args.v in
    let m : c.magnitude-m.result ≡ nat_abs v = c.magnitude-m.ensures ∙ ap nat_abs (to_z-of_z c.ranges.v) in
    let e : lt_z v (pos 0) ≡ true = rw (to_z-of_z c.ranges.v) at c.if-v-lt0.true in
    let t : value_text v ≡ 45 ∷ digits c.magnitude-m.result = text_negative v e ∙ ap (λ x. 45 ∷ digits x) (sym m) in
    let a = c.args in
    let b = put_byte a.at 45 a.out.now (omega (arith, ap length t)) in
    let n : Put (a.at + 1) c.put_number.result (digits c.magnitude-m.result) (set a.out.now a.at 45) c.put_number.new.out =
    record { room = omega (arith, ap length t, length-set a.out.now a.at 45); next = c.put_number.ensures.value; bytes = c.put_number.ensures.out_after } in
    let p = subst (λ x. Put a.at c.put_number.result x a.out.now c.put_number.new.out) (sym t) (put_more b n) in
    record { value = p.next; out_after = p.bytes }

pub put_number-requires-2 : goal.put_number-requires-2
put_number-requires-2 c =
    let v = c.args.v in
    let m : c.magnitude-m.result ≡ nat_abs v = c.magnitude-m.ensures ∙ ap nat_abs (to_z-of_z c.ranges.v) in
    let e : lt_z v (pos 0) ≡ false = rw (to_z-of_z c.ranges.v) at c.if-v-lt0.false in
    let t : value_text v ≡ digits c.magnitude-m.result = text_positive v e ∙ ap digits (sym m) in
    (omega (arith, m), omega (arith, ap length t))

pub returns : goal.returns
returns c =
    let v = c.args.v in
    let m : c.magnitude-m.result ≡ nat_abs v = c.magnitude-m.ensures ∙ ap nat_abs (to_z-of_z c.ranges.v) in
    let e : lt_z v (pos 0) ≡ false = rw (to_z-of_z c.ranges.v) at c.if-v-lt0.false in
    let t : value_text v ≡ digits c.magnitude-m.result = text_positive v e ∙ ap digits (sym m) in
    let a = c.args in
    let n : Put a.at c.put_number-2.result (digits c.magnitude-m.result) a.out.now c.put_number-2.new.out =
    record { room = omega (arith, ap length t); next = c.put_number-2.ensures.value; bytes = c.put_number-2.ensures.out_after } in
    let p = subst (λ x. Put a.at c.put_number-2.result x a.out.now c.put_number-2.new.out) (sym t) n in
    record { value = p.next; out_after = p.bytes }
