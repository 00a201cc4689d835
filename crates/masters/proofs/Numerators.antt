-- Whole numerators: what the test tells, the quotient, and the sample that rounding gives; of one numerator and of a slice of them. Assumes nothing.
use mathlib.Core.Path.{◌≡◌, refl, ap, ◌∙◌, subst⁻¹}
use mathlib.Core.List.{List, [], ◌∷◌, map}
use mathlib.Core.Logic.{◌↔◌}
use Prim.Native.Nat.{ℕ, ◌*◌, ◌/◌, ◌%◌, ◌^◌, ◌<◌, ◌≤◌}
use native.Mathlib.Omega.{arith}
use native.Mathlib.Nat.{one-le-pow, div-add-mod, mul-mod_right, mul-div_right}
use lib.Dec.{T, eqb, eqb→eq, leb, leb→le, le→leb}
use lib.IntN.{ℤ, pos, negsuc}
use Rattle.integers.specs.Lists.{every}
use Rattle.integers.proofs.Tests.{both, both_left, both_right, eq→eqb}
use Rattle.pyramid.specs.Slices.{sample_of}
use Rattle.pyramid.proofs.Bounds.{sample_exact}
use Rattle.masters.specs.Whole.{is_whole, Whole, quotient}
use Rattle.masters.specs.Laws.{WholeLaws}

-- ---- one numerator
unit : (R : ℕ) → 0 < 4 ^ R
unit R = one-le-pow R 4 (omega arith)

-- it is its quotient times the unit
parts : (R n : ℕ) → T (is_whole R (pos n)) → (n ≡ 4 ^ R * (n / 4 ^ R)) × (n / 4 ^ R ≤ 4095)
parts R n t =
    let e = eqb→eq (n % 4 ^ R) 0 (both_left (eqb (n % 4 ^ R) 0) (leb (n / 4 ^ R) 4095) t) in
    (omega (arith, div-add-mod n (4 ^ R)), leb→le (n / 4 ^ R) 4095 (both_right (eqb (n % 4 ^ R) 0) (leb (n / 4 ^ R) 4095) t))

made : (R s : ℕ) → s ≤ 4095 → T (is_whole R (pos (4 ^ R * s)))
made R s l =
    both (eqb (4 ^ R * s % 4 ^ R) 0) (leb (4 ^ R * s / 4 ^ R) 4095)
    (eq→eqb (mul-mod_right (4 ^ R) s)) (le→leb (4 ^ R * s / 4 ^ R) 4095 (omega (arith, mul-div_right s (unit R))))

quotients : (R : ℕ) (y : ℤ) → T (is_whole R y) → y ≡ pos (4 ^ R * quotient R y)
quotients R (pos n) t = ap pos (parts R n t).0
quotients R (negsuc n) t = absurd t

most : (R : ℕ) (y : ℤ) → T (is_whole R y) → quotient R y ≤ 4095
most R (pos n) t = (parts R n t).1
most R (negsuc n) t = absurd t

pub whole : (R : ℕ) (y : ℤ) → T (is_whole R y) ↔ Whole R y
whole R y = ((λ t. (quotient R y, most R y t, quotients R y t)), (λ q. subst⁻¹ (λ (z : ℤ). T (is_whole R z)) q.2 (made R q.0 q.1)))

lenient : (R : ℕ) (y : ℤ) → T (is_whole R y) → sample_of R y ≡ quotient R y
lenient R (pos n) t = ap (sample_of R) (quotients R (pos n) t) ∙ sample_exact R (n / 4 ^ R) (parts R n t).1
lenient R (negsuc n) t = absurd t

pub laws : WholeLaws
laws = record { whole = whole; quotients = quotients; lenient = lenient }

-- ---- a slice of them
module _ (R : ℕ) where
  first : (y : ℤ) (l : List ℤ) → T (every (is_whole R) (y ∷ l)) → T (is_whole R y)
  first y l t = both_left (is_whole R y) (every (is_whole R) l) t

  others : (y : ℤ) (l : List ℤ) → T (every (is_whole R) (y ∷ l)) → T (every (is_whole R) l)
  others y l t = both_right (is_whole R y) (every (is_whole R) l) t

  pub all_lenient : (l : List ℤ) → T (every (is_whole R) l) → map (sample_of R) l ≡ map (quotient R) l
  all_lenient [] t = refl
  all_lenient (y ∷ l) t = λ i. lenient R y (first y l t) i ∷ all_lenient l (others y l t) i

  pub all_quotients : (l : List ℤ) → T (every (is_whole R) l) → l ≡ map (λ v. pos (4 ^ R * v)) (map (quotient R) l)
  all_quotients [] t = refl
  all_quotients (y ∷ l) t = λ i. quotients R y (first y l t) i ∷ all_quotients l (others y l t) i

  pub all_most : (l : List ℤ) → T (every (is_whole R) l) → T (every (λ (v : ℕ). leb v 4095) (map (quotient R) l))
  all_most [] t = tt
  all_most (y ∷ l) t = both (leb (quotient R y) 4095) (every (λ (v : ℕ). leb v 4095) (map (quotient R) l)) (le→leb (quotient R y) 4095 (most R y (first y l t))) (all_most l (others y l t))

  pub all_made : (s : List ℕ) → T (every (λ (v : ℕ). leb v 4095) s) → T (every (is_whole R) (map (λ v. pos (4 ^ R * v)) s))
  all_made [] t = tt
  all_made (v ∷ s) t =
      both (is_whole R (pos (4 ^ R * v))) (every (is_whole R) (map (λ v. pos (4 ^ R * v)) s)) (made R v (leb→le v 4095 (both_left (leb v 4095) (every (λ (v : ℕ). leb v 4095) s) t)))
      (all_made s (both_right (leb v 4095) (every (λ (v : ℕ). leb v 4095) s) t))
