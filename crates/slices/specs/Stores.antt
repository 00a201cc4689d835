-- What runs of stores leave in a list. Assumes nothing.
use Rattle.std.specs.Prelude.{List, ℕ, zero, suc, ◌+◌, ◌*◌, ◌<◌, ◌≤◌, ℤ, pos, get_or, set}

-- l after stores of f 0, f 1, .. at the places g 0, g 1, .., n of them.
unfoldable pub scatter : {A : Type 0} → (ℕ → ℕ) → (ℕ → A) → ℕ → List A → List A
scatter g f zero l = l
scatter g f (suc n) l = set (scatter g f n l) (g n) (f n)

-- `to`, with k entries from the place `at` on replaced by those of `from` from the place `first` on; z is what `from` has past its end.
unfoldable pub pasted : {A : Type 0} → A → List A → ℕ → ℕ → ℕ → List A → List A
pasted z from first at zero to = to
pasted z from first at (suc k) to = set (pasted z from first at k to) (at + k) (get_or from (first + k) z)

-- `to`, with the first m rows of c columns of height h, from the place `at` on, as they are in `from` from the place `first` on.
unfoldable pub columns : ℕ → ℕ → ℕ → List ℤ → ℕ → ℕ → List ℤ → List ℤ
columns h m zero from first at to = to
columns h m (suc c) from first at to = pasted (pos 0) from (first + c * h) (at + c * h) m (columns h m c from first at to)

-- `to`, of height h, with the first m rows of each of the first c columns from `from`.
abbrev pub rectangles : ℕ → ℕ → ℕ → List ℤ → List ℤ → List ℤ
rectangles h m c from to = columns h m c from 0 0 to

-- A slice of n entries has m rows of c columns of height h from the place `at` on.
abbrev pub Room : ℕ → ℕ → ℕ → ℕ → ℕ → Type 0
Room h m c at n = (x : ℕ) → x < c → at + (x * h + m) ≤ n
