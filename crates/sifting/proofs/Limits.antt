-- The rank at which keep begins to drop entries, and the threshold as such a rank: a pass by them leaves what keep and threshold leave. Assumes nothing.
use mathlib.Core.Path.{◌≡◌, refl, sym, ap, ◌∙◌, subst}
use mathlib.Core.Logic.{◌⊎◌, inl, inr}
use mathlib.Core.Bool.{Bool, true, false, cond, ◌&&◌, ◌||◌}
use mathlib.Core.List.{List}
use Prim.Native.Nat.{ℕ, zero, suc, ◌+◌, ◌-◌, ◌<◌, ◌≤◌}
use native.Mathlib.Omega.{arith}
use native.Mathlib.Decide.{dec_lt}
use lib.Dec.{eqb, ltb}
use lib.ListN.{length, get_or}
use Rattle.integers.proofs.Sums.{Σℕ_cong, Σℕ_add, Σℕ_zero}
use Rattle.integers.proofs.Tests.{true_at, false_at}
use borrow.Author.Tests.{eq-eqb, ne_eqb}
use Rattle.quota.specs.Quota.{stays}
use Rattle.quota.proofs.Threshold.{stays_threshold}
use Rattle.sifting.specs.Sifting.{above, ties, Limit, sifts}

-- the ranks above t are those above t + 1 and those that are t + 1
above_next : (q : List ℕ) (t : ℕ) → above q t ≡ above q (suc t) + ties q (suc t) (length q)
above_next q t =
    Σℕ_cong (length q) (λ m. cond (ltb t (get_or q m 0)) 1 0) (λ m. cond (ltb (suc t) (get_or q m 0)) 1 0 + cond (eqb (suc t) (get_or q m 0)) 1 0) (λ m l. one (get_or q m 0))
    ∙ Σℕ_add (length q) (λ m. cond (ltb (suc t) (get_or q m 0)) 1 0) (λ m. cond (eqb (suc t) (get_or q m 0)) 1 0)
  where
    one : (r : ℕ) → cond (ltb t r) 1 0 ≡ cond (ltb (suc t) r) 1 0 + cond (eqb (suc t) r) 1 0
    one r = go (dec_lt t r) (dec_lt (suc t) r)
      where
        go : Dec (t < r) → Dec (suc t < r) → cond (ltb t r) 1 0 ≡ cond (ltb (suc t) r) 1 0 + cond (eqb (suc t) r) 1 0
        go (yes a) (yes b) = rw (true_at t r a, true_at (suc t) r b, ne_eqb (suc t) r (omega arith)) refl
        go (yes a) (no b) = rw (true_at t r a, false_at (suc t) r (omega arith), eq-eqb (suc t) r (omega arith)) refl
        go (no a) b = rw (false_at t r (omega arith), false_at (suc t) r (omega arith), ne_eqb (suc t) r (omega arith)) refl

-- a limit splits the list at K
splits : (q : List ℕ) (K t over : ℕ) → Limit q K t over → (t ≡ 0) ⊎ (K ≤ above q t + ties q t (length q))
splits q K zero over h = inl refl
splits q K (suc t) over h = go h.least
  where
    go : (suc t ≡ 0) ⊎ (K < above q (suc t - 1)) → (suc t ≡ 0) ⊎ (K ≤ above q (suc t) + ties q (suc t) (length q))
    go (inl e) = absurd (omega arith)
    go (inr l) = let e : suc t - 1 ≡ t = omega arith in inr (omega (arith, above_next q t, ap (above q) e))

-- a test of what is left
pub left_over : (a b k : ℕ) → ltb b (k - a) ≡ ltb (a + b) k
left_over a b k = go (dec_lt (a + b) k)
  where
    go : Dec (a + b < k) → ltb b (k - a) ≡ ltb (a + b) k
    go (yes l) = true_at b (k - a) (omega arith) ∙ sym (true_at (a + b) k l)
    go (no l) = false_at b (k - a) (omega arith) ∙ sym (false_at (a + b) k (omega arith))

-- keep by a limit
pub keep_by : (q : List ℕ) (K t over : ℕ) → Limit q K t over → (n : ℕ) → n < length q → sifts t (K - over) q n ≡ stays K q n
keep_by q K t over h n l =
    ap (λ (x : ℕ). sifts t (K - x) q n) h.all
    ∙ ap (λ (b : Bool). ltb 0 (get_or q n 0) && (ltb t (get_or q n 0) || (eqb t (get_or q n 0) && b))) (left_over (above q t) (ties q t n) K)
    ∙ sym (stays_threshold q t n l K (subst (λ (x : ℕ). x ≤ K) h.all h.few) (splits q K t over h))

-- no rank is above a bound
pub above_none : (q : List ℕ) (t : ℕ) → ((m : ℕ) → m < length q → get_or q m 0 ≤ t) → above q t ≡ 0
above_none q t h = Σℕ_cong (length q) (λ m. cond (ltb t (get_or q m 0)) 1 0) (λ m. 0) (λ m l. ap {B = ℕ} (λ (b : Bool). cond b 1 0) (false_at t (get_or q m 0) (omega (arith, h m l)))) ∙ Σℕ_zero (length q)

-- at most n of n ranks are t
pub ties_few : (q : List ℕ) (t n : ℕ) → ties q t n ≤ n
ties_few q t zero = omega arith
ties_few q t (suc n) = omega (arith, ties_few q t n, one (eqb t (get_or q n 0)))
  where
    one : (b : Bool) → cond b 1 0 ≤ 1
    one true = omega arith
    one false = omega arith
