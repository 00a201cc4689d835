-- `text::lines::pass` meets its contract: the lines that are left end where all of them end. Assumes nothing.
use mathlib.Core.Path.{sym, ◌∙◌, subst}
use native.Mathlib.Omega.{arith}
use lib.ListN.{length-drop}
use Rattle.text.specs.Lines.{RowRead}
use Rattle.text.proofs.Many.{past_next, past_stop}
use Rattle.text.proofs.lines.pass.Goals as goal

pub loop-line-smaller : goal.loop-line-smaller
loop-line-smaller g c =
    let s = c.args.s.now in
    let r : RowRead g.L.Line.columns s c.loop-line.p c.next-p.result = subst (RowRead g.L.Line.columns s c.loop-line.p) (sym c.next-p.ensures) c.in-Some.ensures in
    omega (arith, r.less, r.within, length-drop c.loop-line.p s, length-drop c.next-p.result s)

pub loop-line-preserved : goal.loop-line-preserved
loop-line-preserved g c =
    let s = c.args.s.now in
    let r : RowRead g.L.Line.columns s c.loop-line.p c.next-p.result = subst (RowRead g.L.Line.columns s c.loop-line.p) (sym c.next-p.ensures) c.in-Some.ensures in
    (r.within, sym (past_next g.L.Line.columns s c.loop-line.p c.next-p.result r.cells g.met.L.Line.some_column r.read) ∙ c.loop-line.invariant.1)

pub returns : goal.returns
returns g c =
    let s = c.args.s.now in
    past_stop g.L.Line.columns s c.loop-line.p c.loop-line.invariant.0 c.in_default.ensures ∙ c.loop-line.invariant.1
