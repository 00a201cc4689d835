-- The chosen coverings are near the least at their blocks, at each level within what the level allows. Assumes nothing.
use Rattle.std.specs.Prelude.{Bool, List, ℕ, ◌+◌, ◌*◌, ◌^◌, ◌≤◌}
use Rattle.coverings.specs.Block.{Shapes}
use Rattle.block.specs.Block.{cost_of}
use Rattle.terms.specs.Terms.{Terms, cost_at}
use Rattle.terms.specs.Laws.{InList}
use Rattle.pyramid.specs.Plane.{Image}
use Rattle.pyramid.specs.Settled.{EachBlock}

-- Document 02, wish 7: "a covering chosen at level r costs at most t times 2^r more than every other one in the list". In each block of each level, on the
-- block's values.
abbrev pub Near : Terms → ℕ → ℕ → ℕ → List ℕ → Image → Type 0
Near t R h w cs A = EachBlock (λ r earlier v c. (n : ℕ) → InList t n → cost_at v c ≤ cost_at v n + t.tolerance * 2 ^ r) 0 0 R h w cs A

-- Document 02, wish 6: "costs at most t times 2^r more than every other cutting at level r". The same for every cutting of the block into four shapes.
abbrev pub NearEvery : Terms → ℕ → ℕ → ℕ → List ℕ → Image → Type 0
NearEvery t R h w cs A = EachBlock (λ r earlier v c. (shape : ℕ → ℕ → Bool) → Shapes shape → cost_at v c ≤ cost_of shape v + t.tolerance * 2 ^ r) 0 0 R h w cs A
