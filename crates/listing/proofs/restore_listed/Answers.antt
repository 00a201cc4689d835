-- `listing::restore_listed` meets its contract: the first three checks, those of the list, then restoring without one. Assumes nothing.
use mathlib.Core.Path.{◌≡◌, ◌∙◌}
use mathlib.Core.Bool.{not}
use Rattle.refusals.specs.Refusal.{refuse_if}
use Rattle.refusals.proofs.After.{front_refused, front_passed}
use Rattle.pyramid.specs.Ranges.{in_range}
use Rattle.pyramid.specs.Slices.{image_of}
use Rattle.listing.specs.Entries.{restore_listed_refusal}
use Rattle.listing.specs.Standing.{stand_refusal}
use Rattle.listing.proofs.Together.{rejects_listed, stood}
use Rattle.listing.proofs.restore_listed.Goals as goal

pub returns : goal.returns
returns c =
    stood _ _ _ _ _ _ _ _ _ _ _ _ _ (front_passed 0 c.in_ok-stand_checks.was (c.stand_checks.ensures 0)) c.restore.ensures
