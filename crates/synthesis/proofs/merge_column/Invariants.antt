-- `synthesis::merge_column` meets its contract. Assumes nothing.
use mathlib.Core.Path.{◌≡◌}
use lib.ListN.{length}
use Rattle.pyramid.specs.Plane.{after, listed}
use Rattle.synthesis.specs.Synthesis.{merged_block, put_column}
use Rattle.synthesis.proofs.merge_column.Given as goal

abbrev pub invariant-loop-i : goal.invariant-loop-i
invariant-loop-i l = (length l.out ≡ length l.initial.out) × (l.out ≡ put_column l.height (merged_block l.height l.tall l.wide l.weight (after l.first (listed l.coverings)) l.image) l.j l.i l.initial.out)
