-- `text::lines::read_three` meets its contract. Assumes nothing.
use mathlib.Core.Path.{sym, ◌∙◌}
use Rattle.text.proofs.Line.{three_1, three-2, three-3, three-4}
use Rattle.text.proofs.lines.read_three.Goals as goal

pub returns-in_err-first : goal.returns-in_err-first
returns-in_err-first c =
    let a = c.args in
    c.from_residual.ensures ∙ three_1 a.s.now a.at (sym c.in_err-first.ensures)

pub returns-in_err-second : goal.returns-in_err-second
returns-in_err-second c =
    let a = c.args in
    c.from_residual-in_err-second.ensures ∙ three-2 a.s.now a.at c.in_ok-first.first c.in_ok-first.p (sym c.in_ok-first.ensures) (sym c.in_err-second.ensures)

pub returns-in_err-third : goal.returns-in_err-third
returns-in_err-third c =
    let a = c.args in
    c.from_residual-in_err-third.ensures ∙ three-3 a.s.now a.at c.in_ok-first.first c.in_ok-first.p (sym c.in_ok-first.ensures) c.in_ok-second.second c.in_ok-second.q (sym c.in_ok-second.ensures) (sym c.in_err-third.ensures)

pub returns : goal.returns
returns c =
    let a = c.args in
    three-4 a.s.now a.at c.in_ok-first.first c.in_ok-first.p (sym c.in_ok-first.ensures) c.in_ok-second.second c.in_ok-second.q (sym c.in_ok-second.ensures) c.in_ok-third.third c.in_ok-third.next (sym c.in_ok-third.ensures)
