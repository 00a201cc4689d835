-- What is proved of whole numerators. Assumes nothing.
use Rattle.std.specs.Prelude.{◌≡◌, ◌↔◌, ℕ, ◌*◌, ◌^◌, T, ℤ, pos}
use Rattle.pyramid.specs.Slices.{sample_of}
use Rattle.masters.specs.Whole.{is_whole, Whole, quotient}

pub record WholeLaws : Type 0 where
  -- the test is the sentence
  pub whole : (R : ℕ) (y : ℤ) → T (is_whole R y) ↔ Whole R y
  -- a whole numerator is 4^R times its quotient
  pub quotients : (R : ℕ) (y : ℤ) → T (is_whole R y) → y ≡ pos (4 ^ R * quotient R y)
  -- and its quotient is the sample that rounding and holding give
  pub lenient : (R : ℕ) (y : ℤ) → T (is_whole R y) → sample_of R y ≡ quotient R y
