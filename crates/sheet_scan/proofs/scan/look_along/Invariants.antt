-- `sheet_scan::scan::look_along` meets its contract: what was found so far, and what is left. Assumes nothing.
use mathlib.Core.Path.{◌≡◌}
use mathlib.Core.Bool.{◌&&◌}
use Prim.Native.Nat.{◌<◌, ◌≤◌}
use lib.ListN.{length, drop}
use Rattle.text.specs.Lines.{five, lines_at, fives_at}
use Rattle.pyramid.specs.Places.{plane_places}
use Rattle.sheet_text.specs.Rows.{values_of}
use Rattle.sheet_text.specs.Sheet.{is_some}
use Rattle.sheet_scan.specs.Scan.{fit_along}
use Rattle.sheet_scan.specs.Front.{Standing, places_left}
use Rattle.sheet_scan.proofs.scan.look_along.Given as goal

abbrev pub invariant-loop-f : goal.invariant-loop-f
invariant-loop-f l =
    Standing l.height l.width l.k × (0 < l.k.left) × (l.p ≤ length l.s) × (fives_at l.s l.p ≡ fives_at l.s l.at)
    × ((l.rising && is_some (values_of (places_left l.k) (lines_at five l.s l.p))) ≡ is_some (values_of (plane_places l.levels l.height l.width) (lines_at five l.s l.at)))
    × ((l.fitting && fit_along l.levels (places_left l.k) (lines_at five l.s l.p)) ≡ fit_along l.levels (plane_places l.levels l.height l.width) (lines_at five l.s l.at))

abbrev pub decreases-loop-f : goal.decreases-loop-f
decreases-loop-f l = length (drop l.p l.s)
