-- `text::number::read_number` meets its contract. Assumes nothing.
use mathlib.Core.Path.{sym, ap, ◌∙◌}
use mathlib.Core.Logic.{inl, inr}
use native.Mathlib.Omega.{arith}
use Prim.Native.Nat.{◌+◌, ◌-◌}
use lib.ListN.{length, drop}
use Rattle.text.specs.Text.{more}
use Rattle.text.specs.At.{size_of}
use Rattle.text.proofs.Cursor.{number_zero, number_more, number_other, number_none}
use Rattle.text.proofs.number.read_number.Goals as goal

pub returns-in_err-first : goal.returns-in_err-first
returns-in_err-first c = let a = c.args in c.from_residual.ensures ∙ ap (size_of (length a.s.now)) (sym (number_none a.s.now a.at c.in_err-first.ensures.lookup.3))

pub returns-in-48 : goal.returns-in-48
returns-in-48 c =
    let a = c.args in
    let b = c.in_ok-first.ensures.lookup.3 in
    number_zero a.s.now a.at b.0 (sym (b.1 0) ∙ c.in-48.is)

pub returns-in-49-to-57 : goal.returns-in-49-to-57
returns-in-49-to-57 c =
    let a = c.args in
    let b = c.in_ok-first.ensures.lookup.3 in
    let here = b.1 0 in
    c.read_digits.ensures ∙ ap (λ x. size_of (length a.s.now) (more (x - 48) (drop (a.at + 1) a.s.now))) here ∙ ap (size_of (length a.s.now)) (sym (number_more a.s.now a.at b.0 (omega arith) (omega arith)))

pub returns-in_default : goal.returns-in_default
returns-in_default c =
    let a = c.args in
    let b = c.in_ok-first.ensures.lookup.3 in
    let here = b.1 0 in
    number_other a.s.now a.at b.0 (inl (omega arith))

pub returns-in_default-2 : goal.returns-in_default-2
returns-in_default-2 c =
    let a = c.args in
    let b = c.in_ok-first.ensures.lookup.3 in
    let here = b.1 0 in
    number_other a.s.now a.at b.0 (inr (omega arith))
