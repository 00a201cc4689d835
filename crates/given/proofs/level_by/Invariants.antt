-- `given::level_by` meets its contract: the walk over the blocks by given coverings of analysis/proofs/Levelwise.antt. Assumes nothing.
use mathlib.Core.Path.{◌≡◌}
use Prim.Native.Nat.{◌+◌, ◌*◌, ◌/◌}
use lib.ListN.{length}
use Rattle.pyramid.specs.Plane.{after, listed}
use Rattle.pyramid.specs.Slices.{image_of}
use Rattle.analysis.proofs.Levelwise.{Stood}
use Rattle.given.proofs.level_by.Given as goal

abbrev pub invariant-loop-j : goal.invariant-loop-j
invariant-loop-j l =
    (length l.out ≡ length l.fn.out) × Stood l.height l.tall l.wide (image_of l.height l.image) (after l.first (listed l.coverings)) l.out (l.j * (l.tall / 4))

abbrev pub invariant-loop-i : goal.invariant-loop-i
invariant-loop-i l =
    (length l.out ≡ length l.fn.out) × Stood l.height l.tall l.wide (image_of l.height l.image) (after l.first (listed l.coverings)) l.out (l.j * (l.tall / 4) + l.i)
