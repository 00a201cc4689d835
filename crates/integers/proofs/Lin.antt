-- Order and linear arithmetic on ℤ by `omega`. z is pp z − nn z, so an order or an equation of integers is one of naturals.
-- `P e ρ` and `N e ρ` are two natural numbers whose difference is `ev e ρ`: they compute to sums and products of pp and nn of the variables, which `omega` reads.
--     le-by ρ l r (omega arith)  :  ev l ρ ≤ℤ ev r ρ            le-pn h : pp a + nn b ≤ pp b + nn a, a rule for `omega`'s list
-- Assumes nothing.
use mathlib.Core.Path.{◌≡◌, refl, sym, ap, ◌∙◌, subst}
use mathlib.Core.Bool.{Bool, true, false, not, true≢false}
use mathlib.Core.List.{List, [], ◌∷◌}
use Prim.Native.Nat.{ℕ, zero, suc, ◌+◌, ◌*◌, ◌≤◌, ◌<◌}
use native.Mathlib.Omega.{arith}
use lib.Dec.{T, ltb, ltb→lt, lt→ltb, leb, le→leb, leb→le, nleb→lt}
use lib.IntN.{ℤ, pos, negsuc, neg_ℤ, nat_abs, ◌+ℤ◌, ◌-ℤ◌, ◌*ℤ◌}
use lib.Signed.{◌≤ℤ◌, ◌<ℤ◌, le_z, lt_z, lt_z_no}
use Rattle.integers.proofs.Laws.{pp, nn, Rep, rep, rep_eq, rep_neg, rep_add, rep_dif, rep_mul, pn_eq}
use Rattle.integers.proofs.Ring.{E, v, k, ◌⊕◌, ◌⊖◌, ◌⊗◌, ⊝◌, val, ev}

le→ : (a b : ℤ) → T (le_z a b) → pp a + nn b ≤ pp b + nn a
le→ (pos m) (pos n) t = omega (arith, leb→le m n t)
le→ (pos m) (negsuc n) t = absurd t
le→ (negsuc m) (pos n) t = omega arith
le→ (negsuc m) (negsuc n) t = omega (arith, leb→le n m t)

→le : (a b : ℤ) → pp a + nn b ≤ pp b + nn a → T (le_z a b)
→le (pos m) (pos n) h = le→leb m n (omega arith)
→le (pos m) (negsuc n) h = omega arith
→le (negsuc m) (pos n) h = tt
→le (negsuc m) (negsuc n) h = le→leb n m (omega arith)

lt→ : (a b : ℤ) → T (lt_z a b) → pp a + nn b < pp b + nn a
lt→ (pos m) (pos n) t = omega (arith, ltb→lt m n t)
lt→ (pos m) (negsuc n) t = absurd t
lt→ (negsuc m) (pos n) t = omega arith
lt→ (negsuc m) (negsuc n) t = omega (arith, ltb→lt n m t)

→lt : (a b : ℤ) → pp a + nn b < pp b + nn a → T (lt_z a b)
→lt (pos m) (pos n) h = lt→ltb m n (omega arith)
→lt (pos m) (negsuc n) h = omega arith
→lt (negsuc m) (pos n) h = tt
→lt (negsuc m) (negsuc n) h = lt→ltb n m (omega arith)

-- rules for `omega`: what a hypothesis says, and what shows a goal
pub le_pn : {a b : ℤ} → a ≤ℤ b → pp a + nn b ≤ pp b + nn a
le_pn {a} {b} h = le→ a b h.le

pub lt_pn : {a b : ℤ} → a <ℤ b → pp a + nn b < pp b + nn a
lt_pn {a} {b} h = lt→ a b h.lt

pub eq_pn : {a b : ℤ} → a ≡ b → pp a + nn b ≡ pp b + nn a
eq_pn {a} {b} e = subst (λ (x : ℤ). pp a + nn x ≡ pp x + nn a) e refl

pub pn_le : (a b : ℤ) → pp a + nn b ≤ pp b + nn a → a ≤ℤ b
pn_le a b h = record { le = →le a b h }

pub pn_lt : (a b : ℤ) → pp a + nn b < pp b + nn a → a <ℤ b
pn_lt a b h = record { lt = →lt a b h }

-- what a condition's flag says
pub lt_yes : (a b : ℤ) → lt_z a b ≡ true → pp a + nn b < pp b + nn a
lt_yes a b e = lt→ a b (subst T (sym e) tt)

pub lt_no : (a b : ℤ) → lt_z a b ≡ false → pp b + nn a ≤ pp a + nn b
lt_no a b e = le_pn (lt_z_no {a = a} {b = b} (subst (λ (t : Bool). T (not t)) (sym e) tt))

pub le_yes : (a b : ℤ) → le_z a b ≡ true → pp a + nn b ≤ pp b + nn a
le_yes a b e = le→ a b (subst T (sym e) tt)

pub le_no : (a b : ℤ) → le_z a b ≡ false → pp b + nn a < pp a + nn b
le_no (pos m) (pos n) e = omega (arith, nleb→lt m n (subst (λ (t : Bool). T (not t)) (sym e) tt))
le_no (pos m) (negsuc n) e = omega arith
le_no (negsuc m) (pos n) e = absurd (true≢false e)
le_no (negsuc m) (negsuc n) e = omega (arith, nleb→lt n m (subst (λ (t : Bool). T (not t)) (sym e) tt))

pub ruleset zlin = (arith, le_pn, lt_pn, eq_pn, pn_le, pn_lt, pn_eq, lt_yes, lt_no, le_yes, le_no)

-- ---- the same at expressions
abbrev mutual
  pub P : E → List ℤ → ℕ
  P (v i) ρ = pp (val ρ i)
  P (k z) ρ = pp z
  P (a ⊕ b) ρ = P a ρ + P b ρ
  P (a ⊖ b) ρ = P a ρ + N b ρ
  P (a ⊗ b) ρ = P a ρ * P b ρ + N a ρ * N b ρ
  P (⊝ a) ρ = N a ρ

  pub N : E → List ℤ → ℕ
  N (v i) ρ = nn (val ρ i)
  N (k z) ρ = nn z
  N (a ⊕ b) ρ = N a ρ + N b ρ
  N (a ⊖ b) ρ = N a ρ + P b ρ
  N (a ⊗ b) ρ = P a ρ * N b ρ + N a ρ * P b ρ
  N (⊝ a) ρ = P a ρ

pub rep_ev : (ρ : List ℤ) (e : E) → Rep (ev e ρ) (P e ρ) (N e ρ)
rep_ev ρ (v i) = rep (val ρ i)
rep_ev ρ (k z) = rep z
rep_ev ρ (a ⊕ b) = rep_add (rep_ev ρ a) (rep_ev ρ b)
rep_ev ρ (a ⊖ b) = rep_dif (rep_ev ρ a) (rep_ev ρ b)
rep_ev ρ (a ⊗ b) = rep_mul (rep_ev ρ a) (rep_ev ρ b)
rep_ev ρ (⊝ a) = rep_neg (rep_ev ρ a)

rep_le : {a b : ℤ} {m n m' n' : ℕ} → Rep a m n → Rep b m' n' → m + n' ≤ m' + n → a ≤ℤ b
rep_le {a} {b} r s h = pn_le a b (omega arith)

rep_lt : {a b : ℤ} {m n m' n' : ℕ} → Rep a m n → Rep b m' n' → m + n' < m' + n → a <ℤ b
rep_lt {a} {b} r s h = pn_lt a b (omega arith)

module _ (ρ : List ℤ) (l r : E) where
  pub eq_by : P l ρ + N r ρ ≡ P r ρ + N l ρ → ev l ρ ≡ ev r ρ
  eq_by h = rep_eq (rep_ev ρ l) (rep_ev ρ r) h

  pub le_by : P l ρ + N r ρ ≤ P r ρ + N l ρ → ev l ρ ≤ℤ ev r ρ
  le_by h = rep_le (rep_ev ρ l) (rep_ev ρ r) h

  pub lt_by : P l ρ + N r ρ < P r ρ + N l ρ → ev l ρ <ℤ ev r ρ
  lt_by h = rep_lt (rep_ev ρ l) (rep_ev ρ r) h

  pub of_le : ev l ρ ≤ℤ ev r ρ → P l ρ + N r ρ ≤ P r ρ + N l ρ
  of_le h = let x = rep_ev ρ l in let y = rep_ev ρ r in omega (arith, le_pn h)

  pub of_lt : ev l ρ <ℤ ev r ρ → P l ρ + N r ρ < P r ρ + N l ρ
  of_lt h = let x = rep_ev ρ l in let y = rep_ev ρ r in omega (arith, lt_pn h)

  pub of_eq : ev l ρ ≡ ev r ρ → P l ρ + N r ρ ≡ P r ρ + N l ρ
  of_eq h = let x = rep_ev ρ l in let y = rep_ev ρ r in omega (arith, eq_pn h)

-- ---- laws of the order
pub ≤ℤ_trans : {a b c : ℤ} → a ≤ℤ b → b ≤ℤ c → a ≤ℤ c
≤ℤ_trans {a} {b} {c} h g = omega zlin

pub ≤ℤ_antisym : {a b : ℤ} → a ≤ℤ b → b ≤ℤ a → a ≡ b
≤ℤ_antisym {a} {b} h g = omega zlin

pub ≤ℤ_of_< : {a b : ℤ} → a <ℤ b → a ≤ℤ b
≤ℤ_of_< {a} {b} h = omega zlin

pub +ℤ_mono : {a b c d : ℤ} → a ≤ℤ b → c ≤ℤ d → (a +ℤ c) ≤ℤ (b +ℤ d)
+ℤ_mono {a} {b} {c} {d} h g = le_by (a ∷ b ∷ c ∷ d ∷ []) (v 0 ⊕ v 2) (v 1 ⊕ v 3) (omega zlin)

pub negℤ_anti : {a b : ℤ} → a ≤ℤ b → neg_ℤ b ≤ℤ neg_ℤ a
negℤ_anti {a} {b} h = le_by (a ∷ b ∷ []) (⊝ v 1) (⊝ v 0) (omega zlin)

pub ≤ℤ_sub : {a b : ℤ} → a ≤ℤ b → pos 0 ≤ℤ (b -ℤ a)
≤ℤ_sub {a} {b} h = le_by (a ∷ b ∷ []) (k (pos 0)) (v 1 ⊖ v 0) (omega zlin)

pub sub_≤ℤ : {a b : ℤ} → pos 0 ≤ℤ (b -ℤ a) → a ≤ℤ b
sub_≤ℤ {a} {b} h = omega (zlin, of_le (a ∷ b ∷ []) (k (pos 0)) (v 1 ⊖ v 0) h)

-- ---- squares
pub sq_pos : (z : ℤ) → z *ℤ z ≡ pos (nat_abs z * nat_abs z)
sq_pos (pos n) = refl
sq_pos (negsuc n) = refl

pub pos_nonneg : (n : ℕ) → pos 0 ≤ℤ pos n
pos_nonneg n = omega zlin

pub sq_nonneg : (z : ℤ) → pos 0 ≤ℤ (z *ℤ z)
sq_nonneg z = subst (λ (x : ℤ). pos 0 ≤ℤ x) (sym (sq_pos z)) (pos_nonneg (nat_abs z * nat_abs z))

pub pos_mono : {m n : ℕ} → m ≤ n → pos m ≤ℤ pos n
pos_mono h = omega zlin

pub pos_inj : {m n : ℕ} → pos m ≡ pos n → m ≡ n
pos_inj e = omega zlin

pub pos_le : {m n : ℕ} → pos m ≤ℤ pos n → m ≤ n
pos_le h = omega zlin
