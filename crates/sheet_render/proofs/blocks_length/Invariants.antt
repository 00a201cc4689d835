-- `sheet_render::blocks_length` meets its contract: what is measured and what is left to measure are all. Assumes nothing.
use mathlib.Core.Path.{◌≡◌}
use Prim.Native.Nat.{◌+◌, ◌*◌, ◌≤◌}
use lib.ListN.{length}
use Rattle.sheet_text.specs.Sheet.{blocks_text}
use Rattle.places.specs.Walk.{Inside, blocks_left}
use Rattle.sheet_render.proofs.Pieces.{blocks_from}
use Rattle.sheet_render.proofs.blocks_length.Given as goal

abbrev pub invariant-loop-covering : goal.invariant-loop-covering
invariant-loop-covering l = Inside l.height l.width l.k × (length (blocks_left l.k) + l.covering-index ≡ length l.coverings) × (l.n ≤ 64 * l.covering-index) × (l.n + length (blocks_from l.k l.coverings l.covering-index) ≡ length (blocks_text l.levels l.height l.width l.coverings))
