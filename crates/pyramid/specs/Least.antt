-- The chosen coverings are the least at their blocks, at each level. Assumes nothing.
use Rattle.std.specs.Prelude.{Bool, ℕ, zero, suc, ◌/◌, ◌<◌, ◌≤◌}
use Rattle.coverings.specs.Block.{Shapes}
use Rattle.block.specs.Block.{cost_of, shapes_of}
use Rattle.pyramid.specs.Plane.{Image, blocks, block_of, word_at, after, bands_of}

-- In each block of each level, every cutting of the block into four shapes costs at least as much as the covering, on the block's values.
abbrev pub Least : ℕ → ℕ → ℕ → (ℕ → ℕ) → Image → Type 0
Least zero h w cs A = Unit {0}
Least (suc R) h w cs A =
    ((i j : ℕ) → i < h / 4 → j < w / 4 → (shape : ℕ → ℕ → Bool) → Shapes shape → cost_of (shapes_of (word_at h cs i j)) (block_of A i j) ≤ cost_of shape (block_of A i j))
    × Least R (h / 2) (w / 2) (after (blocks h w) cs) (bands_of h cs A 0)
