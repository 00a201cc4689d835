-- Examples that the definitions are the ones meant.
-- Assumes nothing.
use mathlib.Core.Path.{◌≡◌, refl}
use mathlib.Core.Bool.{Bool}
use mathlib.Core.List.{List, [], ◌∷◌}
use Prim.Native.Nat.{ℕ}
use lib.Dec.{T}
use lib.ListN.{length}
use Rattle.coverings.specs.Block.{filter, cells, Tetromino}
use Rattle.coverings.specs.Words.{words, word_of}
use Rattle.coverings.proofs.Lists.{mem}
use Rattle.coverings.proofs.Sound.{not_split}

first : word_of 1 ≡ 0 ∷ 0 ∷ 0 ∷ 0 ∷ 1 ∷ 1 ∷ 1 ∷ 1 ∷ 2 ∷ 2 ∷ 2 ∷ 2 ∷ 3 ∷ 3 ∷ 3 ∷ 3 ∷ []
unfolding words word_of
first = refl

last : word_of 117 ≡ 0 ∷ 1 ∷ 2 ∷ 3 ∷ 0 ∷ 1 ∷ 2 ∷ 3 ∷ 0 ∷ 1 ∷ 2 ∷ 3 ∷ 0 ∷ 1 ∷ 2 ∷ 3 ∷ []
unfolding words word_of
last = refl

-- Two dominoes that have no edge in common have four cells, and are no piece.
abbrev dominoes : ℕ → Bool
dominoes a = mem a (0 ∷ 1 ∷ 10 ∷ 11 ∷ [])

four : length (filter dominoes cells) ≡ 4
four = refl

no_piece : Tetromino dominoes → ⊥
no_piece p = not_split dominoes p 0 tt (0 ∷ 1 ∷ []) tt

-- Four cells of one column and the next are no piece though their indices follow one another: 3 is at the end of a column, 4 at the start of the next.
abbrev wrapped : ℕ → Bool
wrapped a = mem a (2 ∷ 3 ∷ 4 ∷ 5 ∷ [])

no_wrap : Tetromino wrapped → ⊥
no_wrap p = not_split wrapped p 2 tt (2 ∷ 3 ∷ []) tt
