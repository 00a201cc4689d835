-- Sums, and squares of whole numbers. Assumes nothing.
use Rattle.std.specs.Prelude.{Bool, true, false, ℕ, zero, suc, ◌+◌, ◌*◌, ℤ, pos, nat_abs, ◌+ℤ◌}

-- The sum of f 0 to f (n - 1), of whole numbers and of numbers from 0 on.
abbrev pub Σℤ : ℕ → (ℕ → ℤ) → ℤ
Σℤ zero f = pos 0
Σℤ (suc n) f = Σℤ n f +ℤ f n

abbrev pub Σℕ : ℕ → (ℕ → ℕ) → ℕ
Σℕ zero f = 0
Σℕ (suc n) f = Σℕ n f + f n

-- The sum of f over the rows and columns of an image of height h and width w.
abbrev pub total : ℕ → ℕ → (ℕ → ℕ → ℕ) → ℕ
total h w f = Σℕ w (λ x. Σℕ h (λ y. f y x))

-- The square of a whole number.
abbrev pub sq : ℤ → ℕ
sq z = nat_abs z * nat_abs z

-- x where the test passes, and 0 elsewhere.
abbrev pub only : Bool → ℕ → ℕ
only true x = x
only false x = 0
