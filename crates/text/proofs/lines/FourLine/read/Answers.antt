-- A line of four is a kind of line. Assumes nothing.
use mathlib.Core.Path.{◌≡◌, sym, subst}
use lib.ListN.{drop}
use Rattle.std.specs.Prelude.{MatchOption}
use Rattle.text.specs.Text.{bad, row}
use Rattle.text.specs.Lines.{four, RowRead}
use Rattle.text.proofs.Many.{four_read}
use Rattle.text.proofs.lines.FourLine.read.Goals as goal

pub returns : goal.returns
returns c =
    let s = c.args.s.now in
    let at = c.args.at in
    subst (λ o. MatchOption o (row four (drop at s) ≡ bad) (λ f. RowRead four s at f.next)) (sym c.read_four.ensures) (four_read s at)
