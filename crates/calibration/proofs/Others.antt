-- The loop over the coverings that tests whether another one ties. Assumes nothing.
use mathlib.Core.Path.{◌≡◌, sym, ap, ◌∙◌}
use mathlib.Core.Bool.{Bool, true, false, ◌&&◌, ◌||◌}
use Prim.Native.Nat.{ℕ, suc, ◌+◌, ◌-◌, ◌<◌}
use native.Mathlib.Omega.{arith}
use borrow.Author.Tests.{ne_eqb}
use lib.Dec.{eqb, ltb}
use lib.IntN.{ℤ}
use lib.ListN.{get_or, drop}
use Rattle.integers.specs.Lists.{every}
use Rattle.integers.proofs.Tests.{every_next, every_stop, every_end}
use Rattle.coverings.specs.Rule.{Number}
use Rattle.terms.specs.Terms.{all_numbers, cost_at}
use Rattle.terms.proofs.Good.{all_length, all_at}
use Rattle.calibration.specs.Card.{only_zero}

pub number_at : (m : ℕ) → Number m → get_or all_numbers (m - 1) 0 ≡ m
number_at m h = let e : suc (m - 1) ≡ m = omega arith in all_at (m - 1) (omega arith) ∙ e

module _ (n : ℕ) (v : ℕ → ℤ) where
  -- covering m is n itself, or costs something
  abbrev pub apart : ℕ → Bool
  apart m = eqb m n || ltb 0 (cost_at v m)

  -- what is left to test from covering m on
  abbrev pub rest : ℕ → Bool
  rest m = every apart (drop (m - 1) all_numbers)

  test : (m : ℕ) (b : Bool) → Number m → apart m ≡ b → apart (get_or all_numbers (m - 1) 0) ≡ b
  test m b h e = ap apart (number_at m h) ∙ e

  pub rest_next : (m : ℕ) → Number m → apart m ≡ true → rest m ≡ rest (m + 1)
  rest_next m h e =
      let i : m - 1 + 1 ≡ m + 1 - 1 = omega arith in
      every_next apart all_numbers 0 (m - 1) (omega (arith, all_length)) (test m true h e) ∙ ap (λ (k : ℕ). every apart (drop k all_numbers)) i

  pub rest_stop : (m : ℕ) → Number m → apart m ≡ false → rest m ≡ false
  rest_stop m h e = every_stop apart all_numbers 0 (m - 1) (omega (arith, all_length)) (test m false h e)

  pub rest_end : (m : ℕ) → 117 < m → rest m ≡ true
  rest_end m h = every_end apart all_numbers (m - 1) (omega (arith, all_length))

  -- the whole, where the covering itself costs something and where it does not
  pub dear : (cost_at v n ≡ 0 → ⊥) → false ≡ only_zero n v
  unfolding only_zero
  dear h = simp (ne_eqb (cost_at v n) 0 h)

  pub whole : {b : Bool} → cost_at v n ≡ 0 → rest 1 ≡ b → b ≡ only_zero n v
  unfolding only_zero
  whole e f = sym f ∙ ap (λ (k : ℕ). eqb k 0 && rest 1) (sym e)
