-- `smoothing::sign` meets its contract. Assumes nothing.
use mir.Facts.{to_z-of_z}
use Rattle.smoothing.proofs.Cells.{less, more, same}
use Rattle.smoothing.proofs.sign.Goals as goal

pub returns-then-here-there : goal.returns-then-here-there
returns-then-here-there c = less c.args.here c.args.there (rw (to_z-of_z c.ranges.here, to_z-of_z c.ranges.there) at c.if-here-there.true)

pub returns-then-there-here : goal.returns-then-there-here
returns-then-there-here c = more c.args.here c.args.there (rw (to_z-of_z c.ranges.here, to_z-of_z c.ranges.there) at c.if-there-here.true)

pub returns : goal.returns
returns c =
    same c.args.here c.args.there (rw (to_z-of_z c.ranges.here, to_z-of_z c.ranges.there) at c.if-here-there.false) (rw (to_z-of_z c.ranges.here, to_z-of_z c.ranges.there) at c.if-there-here.false)
