-- `sheet_scan::check::survey_blocks` meets its contract. Assumes nothing.
use mathlib.Core.Path.{sym, ◌∙◌}
use Rattle.places.proofs.Sides.{sides_small}
use Rattle.sheet_scan.proofs.check.survey_blocks.Goals as goal

pub is_depth-requires : goal.is_depth-requires
is_depth-requires c = sides_small _ _ (sym c.are_sides.ensures ∙ c.if-not-are_sides.false)
