-- `text::lines::read_five` meets its contract. Assumes nothing.
use mathlib.Core.Path.{sym, ◌∙◌}
use Rattle.text.proofs.Line.{five_1, five-2, five-3, five-4, five-5, five-6}
use Rattle.text.proofs.lines.read_five.Goals as goal

pub returns-in_err-first : goal.returns-in_err-first
returns-in_err-first c =
    let a = c.args in
    c.from_residual.ensures ∙ five_1 a.s.now a.at (sym c.in_err-first.ensures)

pub returns-in_err-second : goal.returns-in_err-second
returns-in_err-second c =
    let a = c.args in
    c.from_residual-in_err-second.ensures ∙ five-2 a.s.now a.at c.in_ok-first.first c.in_ok-first.p (sym c.in_ok-first.ensures) (sym c.in_err-second.ensures)

pub returns-in_err-third : goal.returns-in_err-third
returns-in_err-third c =
    let a = c.args in
    c.from_residual-in_err-third.ensures ∙ five-3 a.s.now a.at c.in_ok-first.first c.in_ok-first.p (sym c.in_ok-first.ensures) c.in_ok-second.second c.in_ok-second.q (sym c.in_ok-second.ensures) (sym c.in_err-third.ensures)

pub returns-in_err-fourth : goal.returns-in_err-fourth
returns-in_err-fourth c =
    let a = c.args in
    c.from_residual-in_err-fourth.ensures ∙ five-4 a.s.now a.at c.in_ok-first.first c.in_ok-first.p (sym c.in_ok-first.ensures) c.in_ok-second.second c.in_ok-second.q (sym c.in_ok-second.ensures) c.in_ok-third.third c.in_ok-third.t (sym c.in_ok-third.ensures) (sym c.in_err-fourth.ensures)

pub returns-in_err-value : goal.returns-in_err-value
returns-in_err-value c =
    let a = c.args in
    c.from_residual-in_err-value.ensures ∙ five-5 a.s.now a.at c.in_ok-first.first c.in_ok-first.p (sym c.in_ok-first.ensures) c.in_ok-second.second c.in_ok-second.q (sym c.in_ok-second.ensures) c.in_ok-third.third c.in_ok-third.t (sym c.in_ok-third.ensures) c.in_ok-fourth.fourth c.in_ok-fourth.u (sym c.in_ok-fourth.ensures) (sym c.in_err-value.ensures)

pub returns : goal.returns
returns c =
    let a = c.args in
    five-6 a.s.now a.at c.in_ok-first.first c.in_ok-first.p (sym c.in_ok-first.ensures) c.in_ok-second.second c.in_ok-second.q (sym c.in_ok-second.ensures) c.in_ok-third.third c.in_ok-third.t (sym c.in_ok-third.ensures) c.in_ok-fourth.fourth c.in_ok-fourth.u (sym c.in_ok-fourth.ensures) c.in_ok-value.value c.in_ok-value.next (sym c.in_ok-value.ensures)
