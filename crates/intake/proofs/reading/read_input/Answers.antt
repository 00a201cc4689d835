-- `intake::reading::read_input` meets its contract. Assumes nothing.
use mathlib.Core.Path.{◌∙◌}
use Rattle.intake.proofs.Parts.{begins, further, falls, ends, fills, breaks}
use Rattle.intake.proofs.Given.{none_came, came_more, came_all, came_full}
use Rattle.intake.proofs.reading.read_input.Goals as goal

pub loop-next-init : goal.loop-next-init
loop-next-init g c = (begins _ _, none_came _ _ _)

pub loop-next-smaller : goal.loop-next-smaller
loop-next-smaller g c = let l = c.loop-next in let p = c.read_part-part.ensures.part in falls l.invariant.0 p c.in-To.is

pub loop-next-preserved : goal.loop-next-preserved
loop-next-preserved g c =
    let l = c.loop-next in
    let p = c.read_part-part.ensures in
    (further l.invariant.0 p.part c.in-To.is, came_more l.invariant.0 p.part l.invariant.1 _ p.given c.in-To.is)

pub shape_of-text-in-End : goal.shape_of-text-in-End
shape_of-text-in-End g c = c.read_part-part.ensures.part.size ∙ c.loop-next.invariant.0.size

pub returns-in-End : goal.returns-in-End
returns-in-End g c =
    let l = c.loop-next in
    let p = c.read_part-part.ensures in
    record { input = ends l.invariant.0 p.part c.in-End.is; given = came_all l.invariant.0 p.part l.invariant.1 _ p.given c.in-End.is }

pub shape_of-text-in-Full : goal.shape_of-text-in-Full
shape_of-text-in-Full g c = c.read_part-part.ensures.part.size ∙ c.loop-next.invariant.0.size

pub returns-in-Full : goal.returns-in-Full
returns-in-Full g c =
    let l = c.loop-next in
    let p = c.read_part-part.ensures in
    record { input = fills l.invariant.0 p.part c.in-Full.is; given = came_full l.invariant.0 p.part l.invariant.1 _ p.given c.in-Full.is }

pub shape_of-text-in-Broken : goal.shape_of-text-in-Broken
shape_of-text-in-Broken g c = c.read_part-part.ensures.part.size ∙ c.loop-next.invariant.0.size

pub returns-in-Broken : goal.returns-in-Broken
returns-in-Broken g c = let l = c.loop-next in let p = c.read_part-part.ensures in record { input = breaks l.invariant.0 p.part; given = tt }
