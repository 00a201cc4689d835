-- Entries of a plane with one bound: a run of places, and a rectangle. Assumes nothing.
use Rattle.std.specs.Prelude.{◌≡◌, Bool, true, false, List, ℕ, ◌+◌, ◌*◌, ◌<◌, ◌≤◌, ℤ, pos, nat_abs, get_or}

-- A low-pass entry is from 0 to `most`, a tetrolet coefficient at most `most` away from zero.
abbrev pub Bounded : Bool → ℕ → ℤ → Type 0
Bounded true most z = (n : ℕ) × (z ≡ pos n) × (n ≤ most)
Bounded false most z = nat_abs z ≤ most

-- Each of n entries, from the place `first` on.
abbrev pub Run : Bool → ℕ → List ℤ → ℕ → ℕ → Type 0
Run low most p first n = (k : ℕ) → k < n → Bounded low most (get_or p (first + k) (pos 0))

-- Each of the first m rows of c columns of height h, from the place `first` on.
abbrev pub Rectangle : Bool → ℕ → List ℤ → ℕ → ℕ → ℕ → ℕ → Type 0
Rectangle low most p h first m c = (y x : ℕ) → y < m → x < c → Bounded low most (get_or p (first + (x * h + y)) (pos 0))
