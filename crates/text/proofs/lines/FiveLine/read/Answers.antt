-- A line of five is a kind of line. Assumes nothing.
use mathlib.Core.Path.{◌≡◌, sym, subst}
use lib.ListN.{drop}
use Rattle.std.specs.Prelude.{MatchOption}
use Rattle.text.specs.Text.{bad, row}
use Rattle.text.specs.Lines.{five, RowRead}
use Rattle.text.proofs.Many.{five_read}
use Rattle.text.proofs.lines.FiveLine.read.Goals as goal

pub returns : goal.returns
returns c =
    let s = c.args.s.now in
    let at = c.args.at in
    subst (λ o. MatchOption o (row five (drop at s) ≡ bad) (λ f. RowRead five s at f.next)) (sym c.read_five.ensures) (five_read s at)
