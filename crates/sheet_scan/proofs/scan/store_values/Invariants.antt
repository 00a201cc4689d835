-- `sheet_scan::scan::store_values` meets its contract: in a cleared plane each line goes to its own place, and what is left to store is all there is to store.
-- Assumes nothing.
use mathlib.Core.Path.{◌≡◌}
use Prim.Native.Nat.{◌<◌}
use lib.ListN.{length, drop}
use Rattle.text.specs.Lines.{five, lines_at}
use Rattle.pyramid.specs.Places.{plane_places}
use Rattle.sheet_scan.specs.Scan.{stored_along}
use Rattle.sheet_scan.specs.Front.{Standing, places_left}
use Rattle.sheet_scan.proofs.Stored.{Filling}
use Rattle.sheet_scan.proofs.scan.store_values.Given as goal

abbrev pub invariant-loop-f : goal.invariant-loop-f
invariant-loop-f l =
    Standing l.height l.width l.k × (0 < l.k.left) × (length l.plane ≡ length l.initial.plane)
    × Filling l.height (stored_along l.height (plane_places l.levels l.height l.width) (lines_at five l.s l.at) l.initial.plane) l.plane (places_left l.k) (lines_at five l.s l.p)

abbrev pub decreases-loop-f : goal.decreases-loop-f
decreases-loop-f l = length (drop l.p l.s)
