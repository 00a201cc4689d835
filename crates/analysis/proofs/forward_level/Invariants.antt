-- `analysis::forward_level` meets its contract: the walk over the blocks of proofs/Levelwise.antt. Assumes nothing.
use mathlib.Core.Path.{◌≡◌}
use Prim.Native.Nat.{◌+◌, ◌*◌, ◌/◌}
use lib.ListN.{length}
use Rattle.terms.specs.Terms.{among, pick_terms}
use Rattle.pyramid.specs.Slices.{image_of}
use Rattle.analysis.proofs.Levelwise.{Walked}
use Rattle.analysis.proofs.forward_level.Given as goal

abbrev pub invariant-loop-j : goal.invariant-loop-j
invariant-loop-j l =
    (length l.coverings ≡ length l.fn.coverings) × (length l.out ≡ length l.fn.out) × Walked (pick_terms (among l.slack l.list)) l.height l.tall l.wide l.first (image_of l.height l.image) l.fn.coverings l.coverings l.out l.usage.counts (l.j * (l.tall / 4))

abbrev pub invariant-loop-i : goal.invariant-loop-i
invariant-loop-i l =
    (length l.coverings ≡ length l.fn.coverings) × (length l.out ≡ length l.fn.out) × Walked (pick_terms (among l.slack l.list)) l.height l.tall l.wide l.first (image_of l.height l.image) l.fn.coverings l.coverings l.out l.usage.counts (l.j * (l.tall / 4) + l.i)
