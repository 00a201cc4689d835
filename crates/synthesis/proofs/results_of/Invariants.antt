-- `synthesis::results_of` meets its contract. Assumes nothing.
use mathlib.Core.Path.{◌≡◌}
use Prim.Native.Nat.{ℕ, ◌+◌, ◌<◌}
use lib.ListN.{length, get_or}
use Rattle.integers.specs.Lists.{half}
use Rattle.grid.specs.Grid.{band_place}
use Rattle.synthesis.specs.Synthesis.{weighted}
use Rattle.synthesis.proofs.results_of.Given as goal

abbrev pub invariant-loop-k : goal.invariant-loop-k
invariant-loop-k l = ((b : ℕ) → b < 4 → get_or l.begin b 0 + l.height + 1 < length l.image) × (length l.initial.v ≡ 16) × (length l.v ≡ 16) × (l.v ≡ half (weighted l.weight (band_place l.height l.begin) l.image) l.initial.v l.k)
