-- `sheet_render::put_blocks` meets its contract: what is left to write from the present place is all there is to write. Assumes nothing.
use mathlib.Core.Path.{◌≡◌}
use Prim.Native.Nat.{◌+◌}
use lib.ListN.{length}
use Rattle.text.specs.Write.{stamp}
use Rattle.sheet_text.specs.Sheet.{blocks_text}
use Rattle.places.specs.Walk.{Inside, blocks_left}
use Rattle.sheet_render.proofs.Pieces.{blocks_from}
use Rattle.sheet_render.proofs.put_blocks.Given as goal

abbrev pub invariant-loop-covering : goal.invariant-loop-covering
invariant-loop-covering l = Inside l.height l.width l.k × (length (blocks_left l.k) + l.covering-index ≡ length l.coverings) × (length l.out ≡ length l.initial.out) × (l.p + length (blocks_from l.k l.coverings l.covering-index) ≡ l.at + length (blocks_text l.levels l.height l.width l.coverings)) × (stamp l.p (blocks_from l.k l.coverings l.covering-index) l.out ≡ stamp l.at (blocks_text l.levels l.height l.width l.coverings) l.initial.out)
