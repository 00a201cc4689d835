-- `synthesis::synthesise` meets its contract. Assumes nothing.
use mathlib.Core.Path.{◌≡◌}
use Prim.Native.Nat.{◌*◌, ◌-◌, ◌^◌, ◌≤◌}
use lib.ListN.{length}
use Rattle.pyramid.specs.Plane.{all_blocks}
use Rattle.pyramid.specs.Slices.{image_of}
use Rattle.synthesis.proofs.Deeper.{Reached}
use Rattle.synthesis.proofs.synthesise.Given as goal

abbrev pub invariant-loop-left : goal.invariant-loop-left
invariant-loop-left l =
    (l.left ≤ l.levels) × (l.first ≡ all_blocks l.left l.height l.width) × (l.weight ≡ 4 ^ (l.levels - l.left)) × (length l.numerators ≡ l.width * l.height) × (length l.scratch ≡ l.width * l.height) × Reached l.height l.width l.left (l.levels - l.left) l.coverings (image_of l.height l.initial.numerators) (image_of l.height l.numerators) × (1 ≤ l.left)
