-- `blockwise::results_of` meets its contract. Assumes nothing.
use mathlib.Core.Path.{◌≡◌}
use Prim.Native.Nat.{ℕ, ◌+◌, ◌<◌, ◌≤◌}
use lib.ListN.{length, get_or}
use Rattle.integers.specs.Lists.{half}
use Rattle.grid.specs.Grid.{band_place}
use Rattle.blockwise.specs.Node.{results_over}
use Rattle.blockwise.proofs.results_of.Given as goal

-- the low-pass is in its place from the start, so that the loop needs the slice v₀ alone
abbrev pub invariant-loop-k : goal.invariant-loop-k
invariant-loop-k l = (l.k ≤ 16) × (4 ≤ l.k) × ((b : ℕ) → b < 4 → get_or l.begin b 0 + l.height + 1 < length l.plane) × (length l.initial.v ≡ 16) × (length l.v ≡ 16) × (l.v ≡ half (results_over l.weight (band_place l.height l.begin) l.initial.v l.plane) l.initial.v l.k)
