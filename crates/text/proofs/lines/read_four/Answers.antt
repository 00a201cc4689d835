-- `text::lines::read_four` meets its contract. Assumes nothing.
use mathlib.Core.Path.{sym, ◌∙◌}
use Rattle.text.proofs.Line.{four_1, four-2, four-3, four-4, four-5}
use Rattle.text.proofs.lines.read_four.Goals as goal

pub returns-in_err-first : goal.returns-in_err-first
returns-in_err-first c =
    let a = c.args in
    c.from_residual.ensures ∙ four_1 a.s.now a.at (sym c.in_err-first.ensures)

pub returns-in_err-second : goal.returns-in_err-second
returns-in_err-second c =
    let a = c.args in
    c.from_residual-in_err-second.ensures ∙ four-2 a.s.now a.at c.in_ok-first.first c.in_ok-first.p (sym c.in_ok-first.ensures) (sym c.in_err-second.ensures)

pub returns-in_err-third : goal.returns-in_err-third
returns-in_err-third c =
    let a = c.args in
    c.from_residual-in_err-third.ensures ∙ four-3 a.s.now a.at c.in_ok-first.first c.in_ok-first.p (sym c.in_ok-first.ensures) c.in_ok-second.second c.in_ok-second.q (sym c.in_ok-second.ensures) (sym c.in_err-third.ensures)

pub returns-in_err-fourth : goal.returns-in_err-fourth
returns-in_err-fourth c =
    let a = c.args in
    c.from_residual-in_err-fourth.ensures ∙ four-4 a.s.now a.at c.in_ok-first.first c.in_ok-first.p (sym c.in_ok-first.ensures) c.in_ok-second.second c.in_ok-second.q (sym c.in_ok-second.ensures) c.in_ok-third.third c.in_ok-third.t (sym c.in_ok-third.ensures) (sym c.in_err-fourth.ensures)

pub returns : goal.returns
returns c =
    let a = c.args in
    four-5 a.s.now a.at c.in_ok-first.first c.in_ok-first.p (sym c.in_ok-first.ensures) c.in_ok-second.second c.in_ok-second.q (sym c.in_ok-second.ensures) c.in_ok-third.third c.in_ok-third.t (sym c.in_ok-third.ensures) c.in_ok-fourth.fourth c.in_ok-fourth.next (sym c.in_ok-fourth.ensures)
