-- `places::checks::are_sides` meets its contract. Assumes nothing.
use mathlib.Core.Bool.{◌&&◌}
use Rattle.pyramid.specs.Sides.{is_sides}
use Rattle.places.proofs.checks.are_sides.Goals as goal

pub returns : goal.returns
unfolding is_sides
returns c = λ i. c.is_side.ensures i && c.is_side-2.ensures i
