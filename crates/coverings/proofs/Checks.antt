-- The test of a covering's number as a fact, for one and for each of a list; and the checks of the entry `word_of`, by what its tests find. Assumes nothing.
use mathlib.Core.Path.{◌≡◌, refl, sym, ap, ◌∙◌, subst, subst⁻¹}
use mathlib.Core.Bool.{Bool, true, false, not, ◌&&◌}
use mathlib.Core.List.{List}
use Prim.Native.Nat.{ℕ, suc, ◌<◌, ◌≤◌}
use native.Mathlib.Omega.{arith}
use native.Mathlib.Decide.{dec_lt}
use borrow.Author.Tests.{eq-eqb, ne_eqb, le-leb, lt-leb, leb-true}
use lib.Dec.{T, eqb, leb}
use lib.ListN.{length, get_or}
use Rattle.integers.specs.Lists.{every}
use Rattle.integers.proofs.Tests.{both_true, is_true, every_at, every_of}
use Rattle.refusals.specs.Refusal.{number_of}
use Rattle.refusals.specs.declared.Refusal.{Refusal}
use Rattle.refusals.proofs.After.{unchanged}
use Rattle.refusals.specs.declared.Refusal.TheVariants.{Frame, Covering}
use Rattle.coverings.specs.Words.{word_of}
use Rattle.coverings.specs.Rule.{Number}
use Rattle.coverings.specs.Entry.{is_number, word_refusal, WordAnswered}

pub number_yes : (n : ℕ) → Number n → is_number n ≡ true
number_yes n h = simp (le-leb 1 n h.0, le-leb n 117 h.1)

pub number_no : (n : ℕ) → (Number n → ⊥) → is_number n ≡ false
number_no n h = go (dec_lt n 1)
  where
    go : Dec (n < 1) → is_number n ≡ false
    go (yes l) = simp (lt-leb 1 n l)
    go (no l) = simp (le-leb 1 n (omega arith), lt-leb n 117 (past (dec_lt 117 n)))
      where
        past : Dec (117 < n) → 117 < n
        past (yes g) = g
        past (no g) = absurd (h (omega arith, omega arith))

pub is_number_law : (n : ℕ) → is_number n ≡ true → Number n
is_number_law n e = let q = both_true (leb 1 n) (leb n 117) e in (leb-true 1 n q.0, leb-true n 117 q.1)

pub number_at : (cs : List ℕ) (i : ℕ) → every is_number cs ≡ true → i < length cs → Number (get_or cs i 0)
number_at cs i e h = is_number_law (get_or cs i 0) (is_true (is_number (get_or cs i 0)) (every_at is_number cs 0 (subst T (sym e) tt) i h))

pub every_number : (cs : List ℕ) → ((i : ℕ) → i < length cs → Number (get_or cs i 0)) → T (every is_number cs)
every_number cs ns = every_of is_number cs 0 (λ i l. subst⁻¹ T (number_yes (get_or cs i 0) (ns i l)) tt)

-- each return of the entry
module _ (covering : ℕ) (old : List ℕ) where
  refuses : (r : Refusal) → number_of r ≡ word_refusal covering old → WordAnswered covering old old (number_of r)
  refuses r e = record { number = e; slice = unchanged r (word_of covering) old }

  pub wrong_frame : (length old ≡ 16 → ⊥) → WordAnswered covering old old 3
  wrong_frame h = refuses Frame (simp (ne_eqb (length old) 16 h))

  pub no_covering : length old ≡ 16 → (Number covering → ⊥) → WordAnswered covering old old 5
  no_covering e h = refuses Covering (simp (eq-eqb (length old) 16 e, number_no covering h))

  pub word_given : length old ≡ 16 → Number covering → (new : List ℕ) → new ≡ word_of covering → WordAnswered covering old new 0
  word_given e h new g = record { number = simp (eq-eqb (length old) 16 e, number_yes covering h); slice = g }
