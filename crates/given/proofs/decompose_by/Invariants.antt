-- `given::decompose_by` meets its contract: the descent by given coverings of analysis/proofs/Descend.antt. Assumes nothing.
use mathlib.Core.Path.{◌≡◌}
use Prim.Native.Nat.{◌*◌, ◌-◌}
use lib.ListN.{length}
use Rattle.pyramid.specs.Plane.{listed}
use Rattle.pyramid.specs.Slices.{image_of}
use Rattle.given.proofs.Modest.{Given}
use Rattle.given.proofs.decompose_by.Given as goal

abbrev pub invariant-loop : goal.invariant-loop
invariant-loop l =
    (length l.image ≡ l.width * l.height) × (length l.work ≡ l.width * l.height) × Given l.levels l.height l.width (listed l.coverings) (image_of l.height l.initial.image) l.image l.tall l.wide l.first (l.levels - l.counter)
