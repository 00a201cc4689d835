-- `synthesis::merge_level` meets its contract. Assumes nothing.
use mathlib.Core.Path.{◌≡◌}
use Prim.Native.Nat.{◌/◌}
use lib.ListN.{length}
use Rattle.pyramid.specs.Plane.{after, listed}
use Rattle.synthesis.specs.Synthesis.{merged_block, put_columns}
use Rattle.synthesis.proofs.merge_level.Given as goal

abbrev pub invariant-loop-j : goal.invariant-loop-j
invariant-loop-j l = (length l.out ≡ length l.initial.out) × (l.out ≡ put_columns l.height (merged_block l.height l.tall l.wide l.weight (after l.first (listed l.coverings)) l.image) (l.tall / 4) l.j l.initial.out)
