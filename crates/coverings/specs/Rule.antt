-- The rule of the table of coverings: what is proved of it, once and for all (`rule` of proofs/Table.antt).
-- Assumes nothing.
use Rattle.std.specs.Prelude.{◌≡◌, ◌↔◌, Bool, List, ℕ, ◌<◌, ◌≤◌, T}
use Rattle.coverings.specs.Block.{Shapes, Cutting, Same, name_of, Canonical, Before}
use Rattle.coverings.specs.Words.{word_of}

-- Document 01: "Coverings are numbered 1 to 117".
abbrev pub Number : ℕ → Type 0
Number n = (1 ≤ n) × (n ≤ 117)

-- Document 01: "The table holds 117 words of 16 digits, with every covering in it exactly once."
pub record Rule : Type 0 where
  -- each word of the table is a canonical covering
  pub valid : (n : ℕ) → Number n → Canonical (word_of n)
  -- the words rise
  pub rising : (m n : ℕ) → Number m → Number n → m < n → Before (word_of m) (word_of n)
  -- each canonical covering is in the table
  pub complete : (w : List ℕ) → Canonical w → (n : ℕ) × Number n × (word_of n ≡ w)
  -- each cutting of the block into pieces, whatever its names, has the parts of a word of the table
  pub general : (name : ℕ → ℕ) → Cutting name → (n : ℕ) × Number n × Same name (name_of (word_of n))
  -- and four shapes that fill the block are the pieces of a word of the table: the cells of a shape are those of one name
  pub filled : (shape : ℕ → ℕ → Bool) → Shapes shape → (n : ℕ) × Number n × ((k : ℕ) → k < 4 → (j : ℕ) × (j < 4) × ((a : ℕ) → a < 16 → T (shape k a) ↔ (name_of (word_of n) a ≡ j)))
  -- no two words have the same parts
  pub once : (m n : ℕ) → Number m → Number n → Same (name_of (word_of m)) (name_of (word_of n)) → m ≡ n
