-- The tests of a list, one after the other. Assumes nothing.
use Rattle.std.proofs.Common.{◌≡◌, ℕ, Bool, true, false, List, length, refl, sym, ◌∙◌, arith}
use Rattle.std.specs.Bool.{◌==◌}
use borrow.Author.Tests.{le-ltb, lt-ltb, eqb-true, eqb-false}
use lib.Dec.{ltb}
use Rattle.integers.specs.Lists.{every}
use Rattle.coverings.specs.Entry.{is_number}
use Rattle.terms.specs.Terms.{rises, is_list}

module _ (l : List ℕ) {e : Bool} (empty : e ≡ (length l == 0)) where
  pub empty_list : e ≡ true → false ≡ is_list l
  unfolding is_list
  empty_list t = rw (le-ltb 0 (length l) (omega (arith, eqb-true (length l) 0 (sym empty ∙ t)))) refl

  module _ (some : e ≡ false) {r : Bool} (sorted : r ≡ rises l) where
    not_empty : ltb 0 (length l) ≡ true
    not_empty = lt-ltb 0 (length l) (let f = eqb-false (length l) 0 (sym empty ∙ some) in omega arith)

    pub unsorted_list : r ≡ false → r ≡ is_list l
    unfolding is_list
    unsorted_list f = rw (not_empty, ← sorted, f) refl

    pub sorted_list : r ≡ true → {b : Bool} → b ≡ every is_number l → b ≡ is_list l
    unfolding is_list
    sorted_list f g = rw (not_empty, ← sorted, f) g
