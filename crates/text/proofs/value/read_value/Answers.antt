-- `text::value::read_value` meets its contract. Assumes nothing.
use mathlib.Core.Path.{sym, ◌∙◌}
use mathlib.Core.Logic.{inl, inr}
use native.Mathlib.Omega.{arith}
use Rattle.text.proofs.Signed.{value_end, value-other, value-plain-bad, value-plain, value-minus-bad, value-minus-zero, value-minus}
use Rattle.text.proofs.value.read_value.Goals as goal

pub returns-in_err-get : goal.returns-in_err-get
returns-in_err-get c = let a = c.args in c.from_residual.ensures ∙ value_end a.s.now a.at a.end c.in_err-get.ensures.lookup.3

pub returns-in_err-v-in-45 : goal.returns-in_err-v-in-45
returns-in_err-v-in-45 c =
    let a = c.args in
    let b = c.in_ok-get.ensures.lookup.3 in
    let here = b.1 0 in
    let byte = c.in-45.is in
    c.from_residual-in_err-v-in-45.ensures ∙ value-minus-bad a.s.now a.at a.end b.0 (omega arith) (sym c.in_err-v-in-45.ensures)

pub returns-then-v-eq0 : goal.returns-then-v-eq0
returns-then-v-eq0 c =
    let a = c.args in
    let b = c.in_ok-get.ensures.lookup.3 in
    let here = b.1 0 in
    let byte = c.in-45.is in
    value-minus-zero a.s.now a.at a.end b.0 (omega arith) c.in_ok-v-in-45.v c.in_ok-v-in-45.next (sym c.in_ok-v-in-45.ensures) c.if-v-eq0.true

pub returns-in_err-v-in-48-to-57 : goal.returns-in_err-v-in-48-to-57
returns-in_err-v-in-48-to-57 c =
    let a = c.args in
    let b = c.in_ok-get.ensures.lookup.3 in
    let here = b.1 0 in
    c.from_residual-in_err-v-in-48-to-57.ensures ∙ value-plain-bad a.s.now a.at a.end b.0 (omega arith) (sym c.in_err-v-in-48-to-57.ensures)

pub returns-else-v-eq0 : goal.returns-else-v-eq0
returns-else-v-eq0 c =
    let a = c.args in
    let b = c.in_ok-get.ensures.lookup.3 in
    let here = b.1 0 in
    let byte = c.in-45.is in
    value-minus a.s.now a.at a.end b.0 (omega arith) c.in_ok-v-in-45.v c.in_ok-v-in-45.next (sym c.in_ok-v-in-45.ensures) (omega arith)

pub returns-in-32 : goal.returns-in-32
returns-in-32 c =
    let b = c.in_ok-get.ensures.lookup.3 in
    let here = b.1 0 in
    let byte = c.in-32.is in
    value-other c.args.s.now c.args.at c.args.end b.0 (omega arith) (inl (omega arith))

pub returns-in-10 : goal.returns-in-10
returns-in-10 c =
    let b = c.in_ok-get.ensures.lookup.3 in
    let here = b.1 0 in
    let byte = c.in-10.is in
    value-other c.args.s.now c.args.at c.args.end b.0 (omega arith) (inl (omega arith))

pub returns-in_ok-v-in-48-to-57 : goal.returns-in_ok-v-in-48-to-57
returns-in_ok-v-in-48-to-57 c =
    let a = c.args in
    let b = c.in_ok-get.ensures.lookup.3 in
    let here = b.1 0 in
    value-plain a.s.now a.at a.end b.0 (omega arith) c.in_ok-v-in-48-to-57.v c.in_ok-v-in-48-to-57.next (sym c.in_ok-v-in-48-to-57.ensures)

pub returns-in_default : goal.returns-in_default
returns-in_default c =
    let b = c.in_ok-get.ensures.lookup.3 in
    let here = b.1 0 in
    value-other c.args.s.now c.args.at c.args.end b.0 (omega arith) (inl (omega arith))

pub returns-in_default-2 : goal.returns-in_default-2
returns-in_default-2 c =
    let b = c.in_ok-get.ensures.lookup.3 in
    let here = b.1 0 in
    value-other c.args.s.now c.args.at c.args.end b.0 (omega arith) (inr (omega arith))
