-- The marks of a list, as the loop that makes them goes along it. Assumes nothing.
use mathlib.Core.Path.{◌≡◌, refl, sym, ap, ◌∙◌}
use mathlib.Core.Bool.{Bool, true, false, ◌||◌, or-true, or-false}
use mathlib.Core.List.{List, [], ◌∷◌}
use Prim.Native.Nat.{ℕ, suc, ◌+◌, ◌≤◌, ◌<◌}
use native.Mathlib.Decide.{ℕ_discrete, dec_lt}
use Rattle.std.proofs.lemmas.List.{get_or_past}
use native.Mathlib.Numerals.{add-one}
use native.Mathlib.Omega.{arith}
use borrow.Author.Tests.{eq-eqb, ne_eqb}
use lib.ListN.{length, get_or, drop, drop_of_length-le, replicate, get_or-replicate, set, length-set}
use lib.Seq.{drop-cons, get_or-set_same, get_or-set_other}
use Rattle.integers.specs.Lists.{one_of}
use Rattle.listing.specs.Standing.{Marked}

-- a number is marked, or among those still to come, just if it is in the list
abbrev pub Marking : List ℕ → ℕ → List Bool → Type 0
Marking l i marks = (length marks ≡ 256) × ((n : ℕ) → n < 256 → (get_or marks n false || one_of (drop i l) n) ≡ one_of l n)

pub marks_none : (l : List ℕ) → Marking l 0 (replicate 256 false)
marks_none l = (refl, λ n h. rw (get_or-replicate 256 n false false h) refl)

module _ (l : List ℕ) (i : ℕ) (marks : List Bool) (m : Marking l i marks) where
  pub marks_next : i < length l → get_or l i 0 < 256 → Marking l (i + 1) (set marks (get_or l i 0) true)
  marks_next h g = (length-set marks (get_or l i 0) true ∙ m.0, λ n k. go n (ℕ_discrete n (get_or l i 0)) ∙ m.1 n k)
    where
      go : (n : ℕ) → Dec (n ≡ get_or l i 0) → (get_or (set marks (get_or l i 0) true) n false || one_of (drop (i + 1) l) n) ≡ (get_or marks n false || one_of (drop i l) n)
      go n (yes e) = rw (drop-cons l i 0 h, eq-eqb n (get_or l i 0) e, or-true (get_or marks n false), e, get_or-set_same marks (get_or l i 0) true false (omega (arith, m.0))) refl
      go n (no e) = rw (drop-cons l i 0 h, add-one, ne_eqb n (get_or l i 0) e, get_or-set_other marks (get_or l i 0) n true false e) refl

  pub marks_all : length l ≤ i → Marked l marks
  marks_all h = (m.0, λ n k. sym (or-false (get_or marks n false)) ∙ ap (λ (o : List ℕ). get_or marks n false || one_of o n) (sym (drop_of_length-le l h)) ∙ m.1 n k)

-- a number of the list is below 256, so that no number past the marks is in it
beyond : (l : List ℕ) (n : ℕ) → ((k : ℕ) → k < length l → get_or l k 0 < 256) → 256 ≤ n → one_of l n ≡ false
beyond [] n f h = refl
beyond (x ∷ l) n f h = rw (ne_eqb n x (let g = f 0 (omega arith) in let e : n ≡ x → ⊥ = (λ q. omega arith) in e)) (beyond l n (λ k g. f (suc k) (omega arith)) h)

pub marks_tell : (l : List ℕ) (marks : List Bool) → Marked l marks → ((k : ℕ) → k < length l → get_or l k 0 < 256) → (n : ℕ) → get_or marks n false ≡ one_of l n
marks_tell l marks m f n = go (dec_lt n 256)
  where
    go : Dec (n < 256) → get_or marks n false ≡ one_of l n
    go (yes h) = m.1 n h
    go (no h) = get_or_past marks n false (omega (arith, m.0)) ∙ sym (beyond l n f (omega arith))
