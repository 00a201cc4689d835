-- Each entry of a list, and each two of its entries, by recursion along the list; from what holds by number. Assumes nothing.
use mathlib.Core.List.{List, [], ◌∷◌, ◌++◌}
use Prim.Native.Nat.{ℕ, zero, suc, ◌<◌}
use native.Mathlib.Omega.{arith}
use lib.ListN.{length, get_or}
use Rattle.integers.specs.Lists.{tabulate}

module _ {A : Type 0} where
  unfoldable pub Each : (A → Type 0) → List A → Type 0
  Each Q [] = Unit
  Each Q (p ∷ ps) = Q p × Each Q ps

  -- each entry and each later one
  unfoldable pub Pairs : (A → A → Type 0) → List A → Type 0
  Pairs Q [] = Unit
  Pairs Q (p ∷ ps) = Each (Q p) ps × Pairs Q ps

  pub each_of : (Q : A → Type 0) (d : A) (l : List A) → ((n : ℕ) → n < length l → Q (get_or l n d)) → Each Q l
  unfolding Each
  each_of Q d [] f = tt
  each_of Q d (p ∷ ps) f = (f 0 (omega arith), each_of Q d ps (λ n h. f (suc n) (omega arith)))

  pub pairs_of : (Q : A → A → Type 0) (d : A) (l : List A) → ((m n : ℕ) → m < n → n < length l → Q (get_or l m d) (get_or l n d)) → Pairs Q l
  unfolding Pairs
  pairs_of Q d [] f = tt
  pairs_of Q d (p ∷ ps) f = (each_of (Q p) d ps (λ n h. f 0 (suc n) (omega arith) (omega arith)), pairs_of Q d ps (λ m n h l. f (suc m) (suc n) (omega arith) (omega arith)))

  pub each_append : (Q : A → Type 0) (a b : List A) → Each Q a → Each Q b → Each Q (a ++ b)
  unfolding Each
  each_append Q [] b h i = i
  each_append Q (x ∷ a) b h i = (h.0, each_append Q a b h.1 i)

  pub each_tabulate : (Q : A → Type 0) (n : ℕ) (f : ℕ → A) → ((k : ℕ) → k < n → Q (f k)) → Each Q (tabulate n f)
  unfolding Each
  each_tabulate Q zero f h = tt
  each_tabulate Q (suc n) f h = (h 0 (omega arith), each_tabulate Q n (λ k. f (suc k)) (λ k l. h (suc k) (omega arith)))
