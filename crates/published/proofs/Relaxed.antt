-- The relaxed choice: it is the first of the most frequent of the almost optimal. On values times 2 c, with theta = c * s, it is our choice within s.
-- Assumes nothing.
use mathlib.Core.Path.{◌≡◌, refl, ◌∙◌, subst, subst⁻¹}
use mathlib.Core.Bool.{Bool, true, false, cond, not, ◌&&◌, ◌||◌}
use mathlib.Core.List.{List}
use Prim.Native.Nat.{ℕ, zero, suc, ◌+◌, ◌*◌, ◌-◌, ◌<◌, ◌≤◌}
use native.Mathlib.Omega.{arith}
use native.Mathlib.Nat.{le_refl, mul-add, mul-le-mul_left, le_of_mul-le-mul_left}
use native.Mathlib.Decide.{dec_lt}
use borrow.Author.Tests.{ltb-true, ltb-false}
use lib.Dec.{T, ltb, leb, leb→le, le→leb}
use lib.IntN.{ℤ, pos, ◌*ℤ◌}
use Rattle.integers.specs.Lists.{tabulate}
use Rattle.integers.proofs.Tests.{every_at, every_of}
use Rattle.integers.proofs.Tabulate.{length_tabulate, get_d_tabulate}
use Rattle.coverings.specs.Words.{word_of}
use Rattle.coverings.specs.Rule.{Number}
use Rattle.block.specs.Block.{count_in, pick}
use Rattle.block.proofs.Pick.{pick_number, pick_lowest}
use Rattle.terms.specs.Terms.{within, cost_at, pick_terms}
use Rattle.terms.specs.Laws.{Competes}
use Rattle.terms.proofs.All.{only}
use Rattle.terms.proofs.Good.{all_good, all_listed}
use Rattle.published.specs.Published.{published_cost, first_of, almost, relaxed_choice}
use Rattle.published.specs.Laws.{Almost, AlmostMin}
use Rattle.published.proofs.Halves.{cost_even}

-- ---- the choice by an order, where the good ones go before the others and among them the greater counts
module _ (good : ℕ → Bool) (count : ℕ → ℕ) where
  abbrev before : ℕ → ℕ → Bool
  before n m = good n && (not (good m) || ltb (count m) (count n))

  -- c is rightly chosen where k is good
  abbrev Over : ℕ → ℕ → Type 0
  Over c k = T (good k) → T (good c) × (count k ≤ count c) × (count c ≡ count k → c ≤ k)

  -- c is one of 1 to suc n, and rightly chosen against each of them
  record Found (n c : ℕ) : Type 0 where
    number : (1 ≤ c) × (c ≤ suc n)
    over : (k : ℕ) → 1 ≤ k → k ≤ suc n → Over c k

  -- against itself
  self : (c : ℕ) → Over c c
  self c g = (g, le_refl (count c), λ e. le_refl c)

  found : (n : ℕ) → Found n (first_of before n)
  found zero = record { number = (omega arith, omega arith); over = λ k a b. let e : k ≡ 1 = omega arith in subst⁻¹ (Over 1) e (self 1) }
  found (suc n) = go (good new) (good m) (ltb (count m) (count new)) refl refl refl (found n)
    where
      new : ℕ
      new = suc (suc n)

      m : ℕ
      m = first_of before n

      -- those before, and the new one
      each : (c : ℕ) → ((k : ℕ) → 1 ≤ k → k ≤ suc n → Over c k) → Over c new → (k : ℕ) → 1 ≤ k → k ≤ new → Over c k
      each c f g k a b = on (dec_lt k new)
        where
          on : Dec (k < new) → Over c k
          on (yes l) = f k a (omega arith)
          on (no l) = let e : k ≡ new = omega arith in subst⁻¹ (Over c) e g

      go : (a b l : Bool) → good new ≡ a → good m ≡ b → ltb (count m) (count new) ≡ l → Found n m → Found (suc n) (cond (a && (not b || l)) new m)
      go false b l p q r f = record { number = (f.number.0, omega arith); over = each m f.over (λ g. absurd (subst T p g)) }
      go true false l p q r f = record { number = (omega arith, omega arith); over = each new (λ k a b g. absurd (subst T q (f.over k a b g).0)) (self new) }
      go true true true p q r f = record {
        number = (omega arith, omega arith);
        over = each new (λ k a b g. let o = f.over k a b g in let less = ltb-true (count m) (count new) r in (subst⁻¹ T p tt, omega arith, λ e. absurd (omega arith))) (self new);
      }
      go true true false p q r f = record {
        number = (f.number.0, omega arith);
        over = each m f.over (λ g. (subst⁻¹ T q tt, ltb-false (count m) (count new) r, λ e. omega arith));
      }

-- ---- the almost optimal coverings, as a fact
module _ (theta : ℕ) (v : ℕ → ℤ) (n : ℕ) where
  -- against one other
  abbrev near : ℕ → Bool
  near m = leb (published_cost (word_of n) v) (published_cost (word_of m) v + theta)

  almost_at : T (almost theta v n) → Almost theta v n
  unfolding almost
  almost_at t m h =
      let e : suc (m - 1) ≡ m = omega arith in
      let l : m - 1 < 117 = omega arith in
      leb→le (published_cost (word_of n) v) (published_cost (word_of m) v + theta)
      (subst (λ (k : ℕ). T (near k)) (get_d_tabulate 117 suc 0 (m - 1) l ∙ e) (every_at near (tabulate 117 suc) 0 t (m - 1) (omega (arith, length_tabulate 117 suc))))

  almost_of : Almost theta v n → T (almost theta v n)
  unfolding almost
  almost_of f = every_of near (tabulate 117 suc) 0 (λ i h.
      let l : i < 117 = omega (arith, length_tabulate 117 suc) in
      subst⁻¹ (λ (k : ℕ). T (near k)) (get_d_tabulate 117 suc 0 i l) (le→leb (published_cost (word_of n) v) (published_cost (word_of (suc i)) v + theta) (f (suc i) (omega arith, omega arith))))

-- ---- the relaxed choice
chosen : (theta : ℕ) (earlier : List ℕ) (v : ℕ → ℤ) → Found (almost theta v) (λ n. count_in n earlier) 116 (relaxed_choice theta earlier v)
unfolding relaxed_choice
chosen theta earlier v = found (almost theta v) (λ n. count_in n earlier) 116

-- ---- on values times 2 c
module _ (c : ℕ) (earlier : List ℕ) (v : ℕ → ℤ) where
  abbrev even : ℕ → ℤ
  even a = pos (2 * c) *ℤ v a

  -- each cost is c times ours
  cost : (n : ℕ) → published_cost (word_of n) even ≡ c * cost_at v n
  cost n = cost_even c (word_of n) v

  -- the covering of least cost is almost optimal
  least_almost : (theta : ℕ) → Almost theta even (pick earlier v)
  least_almost theta m h = omega (arith, cost (pick earlier v), cost m, mul-le-mul_left c (pick_lowest earlier v m h))

  -- so the choice is, and has won against each that is
  pub almost_min_law : (theta n : ℕ) → Number n → AlmostMin theta earlier even (relaxed_choice theta earlier even) n
  almost_min_law theta n h = record {
    near = almost_at theta even r (f.over p (pick_number earlier v).0 (pick_number earlier v).1 (almost_of theta even p (least_almost theta))).0 n h;
    often = λ a. (f.over n h.0 h.1 (almost_of theta even n a)).1;
    first = λ a. (f.over n h.0 h.1 (almost_of theta even n a)).2;
  }
    where
      r : ℕ
      r = relaxed_choice theta earlier even

      p : ℕ
      p = pick earlier v

      f : Found (almost theta even) (λ n. count_in n earlier) 116 r
      f = chosen theta earlier even

  -- one that competes within s is almost optimal within c * s
  competing : (s n : ℕ) → Competes (within s) v n → Almost (c * s) even n
  competing s n f m h = rw (cost n, cost m, ← mul-add c (cost_at v m) s) (mul-le-mul_left c (f m ((all_listed m).1 h)))

  -- so the choice wins against all by our rule, and only one does
  pub relaxed_even : 0 < c → (s : ℕ) → relaxed_choice (c * s) earlier even ≡ pick_terms (within s) earlier v
  relaxed_even some s = only (within s) all_good earlier v r ((all_listed r).1 (chosen (c * s) earlier even).number) (λ n i.
      let a = almost_min_law (c * s) n ((all_listed n).0 i) in
      record {
        near = le_of_mul-le-mul_left (rw (cost r, cost n, ← mul-add c (cost_at v n) s) at a.near) some;
        often = λ f. a.often (competing s n f);
        first = λ f. a.first (competing s n f);
      })
    where
      r : ℕ
      r = relaxed_choice (c * s) earlier even
