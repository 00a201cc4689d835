-- `sheet_scan::tiles::tile_along` meets its contract: what was found so far, and what is left. Assumes nothing.
use mathlib.Core.Path.{◌≡◌}
use mathlib.Core.Bool.{◌&&◌}
use Prim.Native.Nat.{◌≤◌}
use lib.ListN.{length}
use Rattle.integers.specs.Lists.{every}
use Rattle.coverings.specs.Entry.{is_number}
use Rattle.text.specs.Lines.{four, lines_at, fours_at}
use Rattle.pyramid.specs.Places.{block_places}
use Rattle.places.specs.Walk.{Inside, blocks_left}
use Rattle.sheet_text.specs.Rows.{covers_of}
use Rattle.sheet_text.specs.Sheet.{is_some}
use Rattle.sheet_scan.specs.Scan.{covers_along}
use Rattle.sheet_scan.proofs.tiles.tile_along.Given as goal

abbrev pub invariant-loop-k : goal.invariant-loop-k
invariant-loop-k l =
    Inside l.height l.width l.k × (l.p ≤ length l.s) × (fours_at l.s l.p ≡ fours_at l.s l.at)
    × ((l.ordered && is_some (covers_of (blocks_left l.k) (lines_at four l.s l.p))) ≡ is_some (covers_of (block_places l.levels l.height l.width) (lines_at four l.s l.at)))
    × ((l.numbered && every is_number (covers_along (lines_at four l.s l.p))) ≡ every is_number (covers_along (lines_at four l.s l.at)))

abbrev pub decreases-loop-k : goal.decreases-loop-k
decreases-loop-k l = length (blocks_left l.k)
