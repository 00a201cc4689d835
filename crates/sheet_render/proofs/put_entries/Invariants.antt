-- `sheet_render::put_entries` meets its contract: what is left to write from the present place is all there is to write. Assumes nothing.
use mathlib.Core.Path.{◌≡◌}
use mathlib.Core.Bool.{true}
use Prim.Native.Nat.{◌+◌}
use lib.ListN.{length}
use Rattle.text.specs.Write.{stamp}
use Rattle.pyramid.specs.Slices.{image_of}
use Rattle.sheet_text.specs.Sheet.{entries_text}
use Rattle.places.specs.Walk.{Inside, entries_left}
use Rattle.sheet_render.proofs.Pieces.{entries_from, all_fit}
use Rattle.sheet_render.proofs.put_entries.Given as goal

abbrev pub invariant-loop-k : goal.invariant-loop-k
invariant-loop-k l = Inside l.height l.width l.k × (all_fit l.levels (image_of l.height l.plane) l.k ≡ true) × (length l.out ≡ length l.initial.out) × (l.p + length (entries_from (image_of l.height l.plane) l.k) ≡ l.at + length (entries_text l.levels l.height l.width l.plane)) × (stamp l.p (entries_from (image_of l.height l.plane) l.k) l.out ≡ stamp l.at (entries_text l.levels l.height l.width l.plane) l.initial.out)

abbrev pub decreases-loop-k : goal.decreases-loop-k
decreases-loop-k l = length (entries_left l.k)
