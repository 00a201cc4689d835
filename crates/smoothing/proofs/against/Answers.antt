-- `smoothing::against` meets its contract. Assumes nothing.
use lib.IntN.{pos}
use lib.ListN.{get_or}
use Rattle.smoothing.proofs.Cells.{read_sign}
use Rattle.smoothing.proofs.against.Goals as goal

pub bounds-values-there : goal.bounds-values-there
bounds-values-there c = c.requires.1 c.if-inside.true

pub returns-then-inside : goal.returns-then-inside
returns-then-inside c =
    rw c.if-inside.true
    (read_sign (get_or c.args.values.now c.args.here (pos 0)) (get_or c.args.values.now c.args.there (pos 0)) c.sign-arg-1.given c.sign-arg-then-inside-1.given c.sign.ensures)

pub returns : goal.returns
returns c = rw c.if-inside.false
