-- `sheet_scan::tiles::store_covers` meets its contract: the slice is as the lines say up to the present place. Assumes nothing.
use mathlib.Core.Path.{◌≡◌}
use Prim.Native.Nat.{◌+◌}
use lib.ListN.{length, drop}
use Rattle.integers.specs.Lists.{half}
use Rattle.text.specs.Lines.{four, lines_at}
use Rattle.sheet_scan.specs.Scan.{covers_along}
use Rattle.sheet_scan.proofs.tiles.store_covers.Given as goal

abbrev pub invariant-loop-covering : goal.invariant-loop-covering
invariant-loop-covering l = (length (lines_at four l.s l.p) + l.covering-index ≡ length l.initial.coverings) × (covers_along (lines_at four l.s l.p) ≡ drop l.covering-index (covers_along (lines_at four l.s l.at))) × (l.coverings ≡ half (covers_along (lines_at four l.s l.at)) l.initial.coverings l.covering-index) × (length l.coverings ≡ length l.initial.coverings)
