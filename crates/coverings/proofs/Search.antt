-- The search through all cuttings of the block, as a computation. The least cell that is left is in one part with three others:
-- each choice of three is tried, and is dropped where the four are not joined. The words that have the same part go on.
-- Assumes nothing.
use mathlib.Core.Path.{◌≡◌}
use mathlib.Core.Bool.{Bool, true, false, not, ◌&&◌, ◌||◌}
use mathlib.Core.List.{List, [], ◌∷◌}
use Prim.Native.Nat.{ℕ, zero, suc}
use lib.Dec.{T, eqb}
use Rattle.coverings.specs.Block.{beside, filter, cells, part, name_of}
use Rattle.coverings.specs.Words.{words}
use Rattle.coverings.proofs.Lists.{any, all, mem}

-- the cells of p that are in r or lie beside one of r
abbrev pub grow : List ℕ → List ℕ → List ℕ
grow p r = filter (λ a. any (λ b. eqb b a || beside b a) r) p

-- the cells of p that at most three steps inside p reach from a
abbrev pub grown : List ℕ → ℕ → List ℕ
grown p a = grow p (grow p (grow p (a ∷ [])))

-- r holds c and not all of p, and a step inside p does not lead out of r
abbrev pub splits : ℕ → List ℕ → List ℕ → Bool
splits c p r = mem c r && (any (λ a. not (mem a r)) p && all (λ b. all (λ a. not (beside b a) || mem a r) p) r)

-- the cells p are not joined as a whole: a part of them around c has no edge in common with the rest
abbrev pub apart : ℕ → List ℕ → Bool
apart c p = splits c p (grown p c)

-- the test k passes at each choice of n entries of a list, and what is left of it
abbrev pub choices : List ℕ → ℕ → (List ℕ → List ℕ → Bool) → Bool
choices cs zero k = k [] cs
choices [] (suc n) k = true
choices (c ∷ cs) (suc n) k = choices cs n (λ p r. k (c ∷ p) r) && choices cs (suc n) (λ p r. k p (c ∷ r))

abbrev pub eq_list : List ℕ → List ℕ → Bool
eq_list [] [] = true
eq_list [] (y ∷ ys) = false
eq_list (x ∷ xs) [] = false
eq_list (x ∷ xs) (y ∷ ys) = eqb x y && eq_list xs ys

abbrev pub word_if : Bool → List ℕ → List (List ℕ) → List (List ℕ)
word_if true w ws = w ∷ ws
word_if false w ws = ws

-- the words whose part with c in it is p
abbrev pub narrow : ℕ → List ℕ → List (List ℕ) → List (List ℕ)
narrow c p [] = []
narrow c p (w ∷ ws) = word_if (eq_list (filter (part (name_of w) c) cells) p) w (narrow c p ws)

abbrev pub found : List (List ℕ) → Bool
found [] = false
found (w ∷ ws) = true

-- each cutting of the cells that are left, into at most n pieces, agrees with one of the words
abbrev pub search : ℕ → List ℕ → List (List ℕ) → Bool
search zero [] ws = found ws
search zero (c ∷ u) ws = false
search (suc n) [] ws = found ws
search (suc n) (c ∷ u) ws =
    choices u 3 (λ p r. elim (apart c (c ∷ p)) [ true ↦ true | false ↦ search n r (narrow c (c ∷ p) ws) ])

pub searched : T (search 4 cells words)
unfolding words
searched = tt
