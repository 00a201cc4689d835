-- Lists by their entries, a list that another takes the place of from the front, and a test of each entry. Assumes nothing.
use Rattle.std.specs.Prelude.{Bool, true, false, ◌&&◌, ◌||◌, List, [], ◌∷◌, ◌++◌, ℕ, zero, suc, eqb, take, drop}

-- The list of f 0 to f (n - 1).
abbrev pub tabulate : {A : Type 0} → ℕ → (ℕ → A) → List A
tabulate zero f = []
tabulate (suc n) f = f 0 ∷ tabulate n (λ k. f (suc k))

-- The first n entries of one list, then the others of another: what a loop that goes through a slice from the front has left after n turns.
abbrev pub half : {A : Type 0} → List A → List A → ℕ → List A
half new old n = take n new ++ drop n old

-- The test passes at each entry of a list.
abbrev pub every : {A : Type 0} → (A → Bool) → List A → Bool
every g [] = true
every g (x ∷ xs) = g x && every g xs

-- A number is one of a list.
abbrev pub one_of : List ℕ → ℕ → Bool
one_of [] n = false
one_of (k ∷ ks) n = eqb n k || one_of ks n
