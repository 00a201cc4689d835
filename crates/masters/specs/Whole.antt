-- Masters: which numerators are whole, and the samples that they are. Nothing here rounds or holds to limits. Assumes nothing.
use Rattle.std.specs.Prelude.{Bool, false, ◌&&◌, List, map, ◌≡◌, ℕ, ◌*◌, ◌/◌, ◌%◌, ◌^◌, ◌≤◌, eqb, leb, ℤ, pos, negsuc, nat_abs}
use Rattle.integers.specs.Lists.{every}
use Rattle.pyramid.specs.Slices.{numerators_of}

-- Document 02, wish 13: a numerator is "4^R times a whole number from 0 to 4,095".
abbrev pub is_whole : ℕ → ℤ → Bool
is_whole R (pos n) = eqb (n % 4 ^ R) 0 && leb (n / 4 ^ R) 4095
is_whole R (negsuc n) = false

-- The same as a fact.
abbrev pub Whole : ℕ → ℤ → Type 0
Whole R y = (v : ℕ) × (v ≤ 4095) × (y ≡ pos (4 ^ R * v))

-- "20 when some numerator is not": each one is looked at.
abbrev pub are_whole : ℕ → ℕ → ℕ → List ℕ → List ℤ → Bool
are_whole R h w cs p = every (is_whole R) (numerators_of R h w cs p)

-- "whole samples, with no rounding and no holding to limits": how many times 4^R a numerator is.
abbrev pub quotient : ℕ → ℤ → ℕ
quotient R y = nat_abs y / 4 ^ R

abbrev pub masters_of : ℕ → ℕ → ℕ → List ℕ → List ℤ → List ℕ
masters_of R h w cs p = map (quotient R) (numerators_of R h w cs p)
