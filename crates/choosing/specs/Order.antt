-- The choice without a tolerance as the code computes it: the better of two coverings. Assumes nothing.
use Rattle.std.specs.Prelude.{Bool, ◌&&◌, ◌||◌, ℕ, eqb, ltb}

-- A covering of the cost `cost`, chosen `count` times, goes before one of `least` and `often`.
abbrev pub precedes : ℕ → ℕ → ℕ → ℕ → Bool
precedes cost count least often = ltb cost least || (eqb cost least && ltb often count)
