-- `synthesis::round` meets its contract. Assumes nothing.
use mathlib.Core.Path.{◌≡◌}
use mathlib.Core.List.{map}
use Prim.Native.Nat.{◌^◌}
use lib.ListN.{length}
use Rattle.integers.specs.Lists.{half}
use Rattle.pyramid.specs.Slices.{sample_of}
use Rattle.synthesis.proofs.round.Given as goal

abbrev pub invariant-loop-i : goal.invariant-loop-i
invariant-loop-i l = (l.unit ≡ 4 ^ l.levels) × (length l.samples ≡ length l.initial.samples) × (l.samples ≡ half (map (sample_of l.levels) l.numerators) l.initial.samples l.i)
