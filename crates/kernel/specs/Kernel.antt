-- What the kernel of one block computes, on lists of sixteen numbers: values in cell order, results at 4 * band + label. Assumes nothing.
use Rattle.std.specs.Prelude.{◌≡◌, List, [], ◌∷◌, ℕ, ◌+◌, ◌*◌, ◌/◌, ◌%◌, ◌≤◌, ◌<◌, ℤ, pos, nat_abs, get_or}
use Rattle.integers.specs.Lists.{tabulate}
use Rattle.coverings.specs.Words.{word_of}
use Rattle.block.specs.Block.{sign_row, forward, inverse}

-- The a-th number of a list.
abbrev pub at : List ℤ → ℕ → ℤ
at v a = get_or v a (pos 0)

-- Each of sixteen numbers is at most b, without its sign.
abbrev pub Within : ℕ → List ℤ → Type 0
Within b v = (a : ℕ) → a < 16 → nat_abs (at v a) ≤ b

-- The sixteen results of a block by covering n, at 4 * band + label.
unfoldable pub forward_of : ℕ → List ℤ → List ℤ
forward_of n v = tabulate 16 (λ k. forward (word_of n) (at v) (k / 4) (k % 4))

-- The sixteen values from results, in cell order.
unfoldable pub inverse_of : ℕ → List ℤ → List ℤ
inverse_of n t = tabulate 16 (λ a. inverse (word_of n) (λ b s. at t (b * 4 + s)) a)

-- Four numbers as a function of their place.
abbrev pub four : ℤ → ℤ → ℤ → ℤ → ℕ → ℤ
four a b c d i = at (a ∷ b ∷ c ∷ d ∷ []) i

-- Four numbers are f 0 to f 3.
pub record Bands (f : ℕ → ℤ) (low w1 w2 w3 : ℤ) : Type 0 where
  pub zeroth : low ≡ f 0
  pub first : w1 ≡ f 1
  pub second : w2 ≡ f 2
  pub third : w3 ≡ f 3

-- The values of four pieces from results: at 4 * s + i the i-th sign row applied to the low and the three W with label s.
unfoldable pub piecewise : List ℤ → List ℤ
piecewise t = tabulate 16 (λ k. sign_row (k % 4) (λ b. at t (b * 4 + k / 4)))
