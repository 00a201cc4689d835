-- A loop that goes through a slice from the front and leaves at each place what a list `new` has there: after i turns the slice is
-- `half new old i`.
--     half-more      a store at i makes it the same at i + 1
--     half-store     the same for a slice x that is known to be `half new old i`
--     half-here      the place i is not stored yet
--     half_length    it is as long as before
--     half-end       after all the turns it is `new`
-- Assumes nothing.
use mathlib.Core.Path.{◌≡◌, refl, sym, ap, ◌∙◌, subst}
use mathlib.Core.List.{List, [], ◌∷◌, map}
use Prim.Native.Nat.{ℕ, zero, suc, ◌+◌, ◌<◌, ◌≤◌}
use native.Mathlib.Nat.{not-suc-le-zero, le_of_suc-le-suc}
use native.Mathlib.Numerals.{add-one}
use native.Mathlib.Omega.{arith}
use lib.ListN.{length, set, get_or, get_or-map, length-map}
use Rattle.integers.specs.Lists.{half}

module _ {A : Type 0} where
  half_suc : (new old : List A) (i : ℕ) (d : A) → length new ≡ length old → i < length old → set (half new old i) i (get_or new i d) ≡ half new old (suc i)
  half_suc new [] i d e l = absurd (not-suc-le-zero l)
  half_suc [] (y ∷ old) i d e l = absurd (omega arith)
  half_suc (x ∷ new) (y ∷ old) zero d e l = refl
  half_suc (x ∷ new) (y ∷ old) (suc i) d e l = ap (λ (t : List A). x ∷ t) (half_suc new old i d (omega arith) (le_of_suc-le-suc l))

  pub half_more : (new old : List A) (i : ℕ) (d : A) → length new ≡ length old → i < length old → set (half new old i) i (get_or new i d) ≡ half new old (i + 1)
  half_more new old i d e l = subst (λ (k : ℕ). set (half new old i) i (get_or new i d) ≡ half new old k) (sym (add-one i)) (half_suc new old i d e l)

  pub half_store : (new old : List A) (i : ℕ) {x : List A} {v : A} (d : A) → x ≡ half new old i → v ≡ get_or new i d → length new ≡ length old → i < length old → set x i v ≡ half new old (i + 1)
  half_store new old i d e f n l = (λ t. set (e t) i (f t)) ∙ half_more new old i d n l

  pub half_here : (new old : List A) (i : ℕ) (d : A) → length new ≡ length old → i < length old → get_or (half new old i) i d ≡ get_or old i d
  half_here new [] i d e l = absurd (not-suc-le-zero l)
  half_here [] (y ∷ old) i d e l = absurd (omega arith)
  half_here (x ∷ new) (y ∷ old) zero d e l = refl
  half_here (x ∷ new) (y ∷ old) (suc i) d e l = half_here new old i d (omega arith) (le_of_suc-le-suc l)

  pub half_length : (new old : List A) (i : ℕ) → length new ≡ length old → length (half new old i) ≡ length old
  half_length new old zero e = refl
  half_length [] [] (suc i) e = refl
  half_length [] (y ∷ old) (suc i) e = absurd (omega arith)
  half_length (x ∷ new) [] (suc i) e = absurd (omega arith)
  half_length (x ∷ new) (y ∷ old) (suc i) e = ap suc (half_length new old i (omega arith))

  pub half_end : (new old : List A) (i : ℕ) → length new ≡ length old → length old ≤ i → half new old i ≡ new
  half_end [] [] zero e l = refl
  half_end [] [] (suc i) e l = refl
  half_end [] (y ∷ old) i e l = absurd (omega arith)
  half_end (x ∷ new) [] i e l = absurd (omega arith)
  half_end (x ∷ new) (y ∷ old) zero e l = absurd (not-suc-le-zero l)
  half_end (x ∷ new) (y ∷ old) (suc i) e l = ap (λ (t : List A). x ∷ t) (half_end new old i (omega arith) (le_of_suc-le-suc l))

-- a loop that puts f of each element in its place
pub half_map : {A : Type 0} (f : A → A) (l : List A) (i : ℕ) (d v : A) → i < length l → v ≡ f (get_or l i d) → set (half (map f l) l i) i v ≡ half (map f l) l (i + 1)
half_map f l i d v h e =
    ap (λ x. set (half (map f l) l i) i x) (e ∙ sym (get_or-map f l i d))
    ∙ half_more (map f l) l i (f d) (length-map l f) h
