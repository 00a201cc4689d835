-- What `all` and `is_sorted_by` of the library answer, in the words of the definitions. Assumes nothing.
use Rattle.std.proofs.Common.{◌≡◌, ℕ, zero, suc, ◌<◌, Bool, true, false, ◌&&◌, List, [], ◌∷◌, length, get_or, refl, sym, ap, arith, add-one}
use Rattle.std.specs.List.{list_all, IsAllAdjacentAnswer}
use lib.Dec.{ltb}
use Rattle.integers.specs.Lists.{every}
use Rattle.integers.proofs.Tests.{and_false}
use Rattle.terms.specs.Terms.{rises}

-- the test of each entry
pub every_is : {A : Type 0} (g : A → Bool) (xs : List A) → every g xs ≡ list_all g xs
every_is g [] = refl
every_is g (x ∷ xs) = ap (λ (b : Bool). g x && b) (every_is g xs)

-- each entry against the next
rises_all : (xs : List ℕ) → ((k : ℕ) → suc k < length xs → true ≡ ltb (get_or xs k 0) (get_or xs (suc k) 0)) → true ≡ rises xs
rises_all [] f = refl
rises_all (x ∷ []) f = refl
rises_all (x ∷ y ∷ xs) f = rw (← f 0 (omega arith)) (rises_all (y ∷ xs) (λ k h. f (suc k) (omega arith)))

rises_stop : (xs : List ℕ) (k : ℕ) → suc k < length xs → false ≡ ltb (get_or xs k 0) (get_or xs (suc k) 0) → false ≡ rises xs
rises_stop [] k h e = absurd (omega arith)
rises_stop (x ∷ []) k h e = absurd (omega arith)
rises_stop (x ∷ y ∷ xs) zero h e = rw (← e) refl
rises_stop (x ∷ y ∷ xs) (suc k) h e = rw (← rises_stop (y ∷ xs) k (omega arith) e) (sym (and_false (ltb x y)))

pub rises_is : (xs : List ℕ) (r : Bool) → IsAllAdjacentAnswer (λ x y b. b ≡ ltb x y) xs r → r ≡ rises xs
rises_is xs true f = rises_all xs (λ k h. rw (add-one) at (f k 0 (rw add-one h)))
rises_is xs false f = rises_stop xs f.0 (rw add-one at f.1) (rw add-one at (f.2 0))
