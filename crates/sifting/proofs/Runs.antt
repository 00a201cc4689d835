-- Runs of ranks: in which run a rank is, and what the counts of runs say of how many ranks are above. Assumes nothing.
use mathlib.Core.Path.{◌≡◌, refl, sym, ap, ◌∙◌, subst⁻¹}
use mathlib.Core.Logic.{◌⊎◌, inl, inr}
use mathlib.Core.Bool.{Bool, true, false, cond, ◌&&◌}
use mathlib.Core.List.{List}
use Prim.Native.Nat.{ℕ, zero, suc, ◌+◌, ◌*◌, ◌-◌, ◌/◌, ◌<◌, ◌≤◌}
use native.Mathlib.Nat.{mul-le-mul_right, div-mul-le_self, lt-div-mul-add}
use native.Mathlib.Decide.{dec_lt}
use native.Mathlib.Omega.{arith}
use borrow.Author.Tests.{le-leb, lt-leb}
use lib.Dec.{leb, ltb}
use lib.ListN.{length, get_or, set, replicate, length-set, length-replicate}
use lib.Seq.{get_or-set_same, get_or-set_other}
use Rattle.integers.proofs.Sums.{Σℕ_cong, Σℕ_add}
use Rattle.integers.proofs.Tests.{true_at, false_at}
use Rattle.sifting.specs.declared.ranks.Found.{Found}
use Rattle.sifting.specs.Sifting.{in_run, run_count, from, OneMore, Zeros, RunCounts, Inside, Limit, above}

-- those from x on are those of the run at x and those behind it
pub from_run : (q : List ℕ) (base w j : ℕ) → from q (base + j * w) ≡ from q (base + j * w + w) + run_count q base w j (length q)
from_run q base w j =
    Σℕ_cong (length q) (λ m. cond (leb x (get_or q m 0)) 1 0) (λ m. cond (leb (x + w) (get_or q m 0)) 1 0 + cond (in_run base w j (get_or q m 0)) 1 0) (λ m l. one (get_or q m 0))
    ∙ Σℕ_add (length q) (λ m. cond (leb (x + w) (get_or q m 0)) 1 0) (λ m. cond (in_run base w j (get_or q m 0)) 1 0)
  where
    x : ℕ
    x = base + j * w

    one : (r : ℕ) → cond (leb x r) 1 0 ≡ cond (leb (x + w) r) 1 0 + cond (leb x r && ltb r (x + w)) 1 0
    one r = go (dec_lt r x) (dec_lt r (x + w))
      where
        go : Dec (r < x) → Dec (r < x + w) → cond (leb x r) 1 0 ≡ cond (leb (x + w) r) 1 0 + cond (leb x r && ltb r (x + w)) 1 0
        go (yes a) b = rw (lt-leb x r a, lt-leb (x + w) r (omega arith)) refl
        go (no a) (yes b) = rw (le-leb x r (omega arith), lt-leb (x + w) r b, true_at r (x + w) b) refl
        go (no a) (no b) = rw (le-leb x r (omega arith), le-leb (x + w) r (omega arith), false_at r (x + w) (omega arith)) refl

module _ (base w r : ℕ) (p : 0 < w) where
  pub below_base : r < base → (j : ℕ) → in_run base w j r ≡ false
  below_base l j = rw (lt-leb (base + j * w) r (omega arith)) refl

  module _ (l : base ≤ r) where
    abbrev b : ℕ
    b = (r - base) / w

    low : b * w ≤ r - base
    low = div-mul-le_self (r - base) w

    high : r - base < b * w + w
    high = lt-div-mul-add p

    pub same-run : in_run base w b r ≡ true
    same-run = rw (le-leb (base + b * w) r (omega (arith, low)), true_at r (base + b * w + w) (omega (arith, high))) refl

    pub other-run : (j : ℕ) → (j ≡ b → ⊥) → in_run base w j r ≡ false
    other-run j n = go (dec_lt j b)
      where
        go : Dec (j < b) → in_run base w j r ≡ false
        go (yes a) =
            let z = mul-le-mul_right w a in
            never (leb (base + j * w) r) (false_at r (base + j * w + w) (omega (arith, low)))
          where
            never : (b : Bool) {x : Bool} → x ≡ false → (b && x) ≡ false
            never true e = e
            never false e = refl
        go (no a) =
            let c : b < j = omega (arith, n) in
            let z = mul-le-mul_right w c in
            rw (lt-leb (base + j * w) r (omega (arith, high))) refl

    pub stored : (counts : List ℕ) → b < 512 → b < length counts → OneMore counts (set counts b (get_or counts b 0 + 1)) base w r
    stored counts s n = record { long = length-set counts b (get_or counts b 0 + 1); more = λ j k. go j (dec_lt j b) (dec_lt b j) }
      where
        none : (x : ℕ) → x ≡ x + 0
        none x = omega arith

        apart : (j : ℕ) → (j ≡ b → ⊥) → get_or (set counts b (get_or counts b 0 + 1)) j 0 ≡ get_or counts j 0 + cond (in_run base w j r) 1 0
        apart j e = rw (other-run j e) (get_or-set_other counts b j (get_or counts b 0 + 1) 0 e ∙ none (get_or counts j 0))

        go : (j : ℕ) → Dec (j < b) → Dec (b < j) → get_or (set counts b (get_or counts b 0 + 1)) j 0 ≡ get_or counts j 0 + cond (in_run base w j r) 1 0
        go j (no c) (no d) = let e : j ≡ b = omega arith in rw (e, same-run) (get_or-set_same counts b (get_or counts b 0 + 1) 0 n)
        go j (yes c) d = apart j (omega arith)
        go j (no c) (yes d) = apart j (omega arith)

-- a rank that no run has
pub unchanged : (counts : List ℕ) (base w r : ℕ) → ((j : ℕ) → j < 512 → in_run base w j r ≡ false) → OneMore counts counts base w r
unchanged counts base w r f = record { long = refl; more = λ j k. none (get_or counts j 0) ∙ ap (λ (b : Bool). get_or counts j 0 + cond b 1 0) (sym (f j k)) }
  where
    none : (x : ℕ) → x ≡ x + 0
    none x = omega arith

-- the count with one run more
pub more_is : (q : List ℕ) (base w j total c : ℕ) → total ≡ from q (base + j * w + w) → c ≡ run_count q base w j (length q) → total + c ≡ from q (base + j * w)
more_is q base w j total c a b = (λ i. a i + b i) ∙ sym (from_run q base w j)

pub run_before : (base w j : ℕ) → 0 < j → base + j * w ≡ base + (j - 1) * w + w
run_before base w zero l = absurd (omega arith)
run_before base w (suc i) l = let e : suc i - 1 ≡ i = omega arith in rw e (omega arith)

pub one_run : (base w j : ℕ) → j ≡ 1 → base + j * w ≡ base + w
one_run base w j e = rw e (omega arith)

pub run_inside : (base w j : ℕ) → j ≤ 511 → base + j * w + w ≤ base + 512 * w
run_inside base w j l = let z = mul-le-mul_right w l in omega arith

pub run_width : {q counts : List ℕ} {base w w' : ℕ} → w ≡ w' → RunCounts q base w' counts → RunCounts q base w counts
run_width {q} {counts} {base} e h = subst⁻¹ (λ (x : ℕ). RunCounts q base x counts) e h

-- counts at the start
pub zeros_512 : Zeros (replicate 512 0)
zeros_512 = record { long = length-replicate {A = ℕ} 512 0; zeros = λ j l. zero-at 512 j }
  where
    zero-at : (n j : ℕ) → ◌≡◌ {A = ℕ} (get_or (replicate n 0) j 0) 0
    zero-at zero j = refl
    zero-at (suc n) zero = refl
    zero-at (suc n) (suc j) = zero-at n j

-- a run of one rank is a limit
pub one_left : (q : List ℕ) (K : ℕ) (at : Found) → Inside q K 1 at → Limit q K at.base at.over
one_left q K at i = record { all = i.over ∙ ap (from q) (next at.base); few = i.few; least = go at.base i.least }
  where
    next : (b : ℕ) → b + 1 ≡ suc b
    next b = omega arith

    go : (b : ℕ) → (b ≡ 0) ⊎ (K < from q b) → (b ≡ 0) ⊎ (K < above q (b - 1))
    go zero h = inl refl
    go (suc b) (inl z) = absurd (omega arith)
    go (suc b) (inr l) = let s : suc b - 1 ≡ b = omega arith in inr (omega (arith, ap (above q) s))
