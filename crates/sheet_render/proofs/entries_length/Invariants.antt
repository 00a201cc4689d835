-- `sheet_render::entries_length` meets its contract: what is measured and what is left to measure are all. Assumes nothing.
use mathlib.Core.Path.{◌≡◌}
use mathlib.Core.Bool.{true}
use Prim.Native.Nat.{◌+◌, ◌*◌, ◌≤◌}
use lib.ListN.{length}
use Rattle.pyramid.specs.Slices.{image_of}
use Rattle.sheet_text.specs.Sheet.{entries_text}
use Rattle.places.specs.Walk.{Inside, entries_left}
use Rattle.sheet_render.proofs.Pieces.{entries_from, all_fit}
use Rattle.sheet_render.proofs.entries_length.Given as goal

abbrev pub invariant-loop-k : goal.invariant-loop-k
invariant-loop-k l = Inside l.height l.width l.k × (all_fit l.levels (image_of l.height l.plane) l.k ≡ true) × (l.n + 64 * length (entries_left l.k) ≤ 16777216) × (l.n + length (entries_from (image_of l.height l.plane) l.k) ≡ length (entries_text l.levels l.height l.width l.plane))

abbrev pub decreases-loop-k : goal.decreases-loop-k
decreases-loop-k l = length (entries_left l.k)
