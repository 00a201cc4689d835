-- Whether a whole number is 0. Assumes nothing.
use Rattle.std.specs.Prelude.{Bool, eqb, ℤ, nat_abs}

abbrev pub is_zero : ℤ → Bool
is_zero z = eqb (nat_abs z) 0
