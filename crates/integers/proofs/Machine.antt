-- What signed code asks and computes, for a whole expression at once. A signed local holds bits, so the machine reads each operand back from them,
-- `to_z w (of_z w x)`, at every step. `raw w e ρ` is what the last operation of e computes so, `rd w e ρ` what is read of its result, over the list ρ of what is read of the variables.
-- `Vars ρ xs bs` says that what is read are the integers xs, and that each is at most its number of bs. `Ok w e bs` is a bound for each operation of e, which `omega arith` proves.
--     fits w e vs (omega arith) : SFits w (raw w e ρ)        reads w e vs (omega arith) : rd w e ρ ≡ ev e xs
-- Assumes nothing.
use mathlib.Core.Path.{◌≡◌, refl, sym, ap, ◌∙◌, subst}
use mathlib.Core.Bool.{Bool, true, false, ◌&&◌}
use mathlib.Core.List.{List, [], ◌∷◌}
use Prim.Native.Nat.{ℕ, zero, suc, ◌+◌, ◌*◌, ◌^◌, ◌≤◌, ◌<◌}
use native.Mathlib.Omega.{arith}
use native.Mathlib.Nat.{le_trans, le_refl, lt_of_le_of_lt, mul-le-mul}
use lib.IntN.{ℤ, pos, negsuc, neg_ℤ, nat_abs, ◌+ℤ◌, ◌-ℤ◌, ◌*ℤ◌, +ℤ_idl}
use lib.Dec.{T, ltb, ltb→lt}
use mir.Syntax.{Width}
use mir.Val.{SFits, hbits, to_z, of_z}
use mir.Facts.{to_z-of_z}
use Rattle.integers.proofs.Ring.{E, v, k, ◌⊕◌, ◌⊖◌, ◌⊗◌, ⊝◌, val, ev}
use Rattle.integers.proofs.Bound.{abs_add, abs_sub, abs_mul, abs_neg, sfits_abs, read}

abbrev mutual
  pub raw : Width → E → List ℤ → ℤ
  raw w (v i) ρ = val ρ i
  raw w (k z) ρ = z
  raw w (a ⊕ b) ρ = rd w a ρ +ℤ rd w b ρ
  raw w (a ⊖ b) ρ = rd w a ρ -ℤ rd w b ρ
  raw w (a ⊗ b) ρ = rd w a ρ *ℤ rd w b ρ
  raw w (⊝ a) ρ = pos 0 -ℤ rd w a ρ

  pub rd : Width → E → List ℤ → ℤ
  rd w (v i) ρ = val ρ i
  rd w (k z) ρ = z
  rd w (a ⊕ b) ρ = to_z w (of_z w (rd w a ρ +ℤ rd w b ρ))
  rd w (a ⊖ b) ρ = to_z w (of_z w (rd w a ρ -ℤ rd w b ρ))
  rd w (a ⊗ b) ρ = to_z w (of_z w (rd w a ρ *ℤ rd w b ρ))
  rd w (⊝ a) ρ = to_z w (of_z w (pos 0 -ℤ rd w a ρ))

-- the i-th bound
abbrev pub bd : List ℕ → ℕ → ℕ
bd [] i = 0
bd (b ∷ bs) zero = b
bd (b ∷ bs) (suc i) = bd bs i

abbrev pub most : E → List ℕ → ℕ
most (v i) bs = bd bs i
most (k z) bs = nat_abs z
most (a ⊕ b) bs = most a bs + most b bs
most (a ⊖ b) bs = most a bs + most b bs
most (a ⊗ b) bs = most a bs * most b bs
most (⊝ a) bs = most a bs

abbrev pub Ok : Width → E → List ℕ → Type 0
Ok w (v i) bs = Unit {0}
Ok w (k z) bs = Unit {0}
Ok w (a ⊕ b) bs = Ok w a bs × Ok w b bs × (most a bs + most b bs < 2 ^ hbits w)
Ok w (a ⊖ b) bs = Ok w a bs × Ok w b bs × (most a bs + most b bs < 2 ^ hbits w)
Ok w (a ⊗ b) bs = Ok w a bs × Ok w b bs × (most a bs * most b bs < 2 ^ hbits w)
Ok w (⊝ a) bs = Ok w a bs × (most a bs < 2 ^ hbits w)

-- the same with the whole's bound as a test, which computes where the bounds are numerals
abbrev okb : Width → E → List ℕ → Bool
okb w (v i) bs = true
okb w (k z) bs = true
okb w (a ⊕ b) bs = okb w a bs && (okb w b bs && ltb (most a bs + most b bs) (2 ^ hbits w))
okb w (a ⊖ b) bs = okb w a bs && (okb w b bs && ltb (most a bs + most b bs) (2 ^ hbits w))
okb w (a ⊗ b) bs = okb w a bs && (okb w b bs && ltb (most a bs * most b bs) (2 ^ hbits w))
okb w (⊝ a) bs = okb w a bs && ltb (most a bs) (2 ^ hbits w)

abbrev pub ok? : Width → E → List ℕ → Bool
ok? w e bs = okb w e bs && ltb (most e bs) (2 ^ hbits w)

both : (p q : Bool) → T (p && q) → T p × T q
both true q t = (tt, t)
both false q t = absurd t

okb_is : (w : Width) (e : E) (bs : List ℕ) → T (okb w e bs) → Ok w e bs
okb_is w (v i) bs t = tt
okb_is w (k z) bs t = tt
okb_is w (a ⊕ b) bs t = let p = both (okb w a bs) _ t in let q = both (okb w b bs) _ p.1 in (okb_is w a bs p.0, okb_is w b bs q.0, ltb→lt _ _ q.1)
okb_is w (a ⊖ b) bs t = let p = both (okb w a bs) _ t in let q = both (okb w b bs) _ p.1 in (okb_is w a bs p.0, okb_is w b bs q.0, ltb→lt _ _ q.1)
okb_is w (a ⊗ b) bs t = let p = both (okb w a bs) _ t in let q = both (okb w b bs) _ p.1 in (okb_is w a bs p.0, okb_is w b bs q.0, ltb→lt _ _ q.1)
okb_is w (⊝ a) bs t = let p = both (okb w a bs) _ t in (okb_is w a bs p.0, ltb→lt _ _ p.1)

ok_is : (w : Width) (e : E) (bs : List ℕ) → T (ok? w e bs) → Ok w e bs × (most e bs < 2 ^ hbits w)
ok_is w e bs t = let p = both (okb w e bs) _ t in (okb_is w e bs p.0, ltb→lt _ _ p.1)

pub data Vars : List ℤ → List ℤ → List ℕ → Type 0 where
  none : Vars [] [] []
  known : {x' x : ℤ} {b : ℕ} {ρ xs : List ℤ} {bs : List ℕ} → x' ≡ x → nat_abs x ≤ b → Vars ρ xs bs → Vars (x' ∷ ρ) (x ∷ xs) (b ∷ bs)

-- a variable with its number and its bound (a function, since at a constructor `omega` does not see the bound), as a loop's local with the invariant's equation
pub var : {x' x : ℤ} {b : ℕ} {ρ xs : List ℤ} {bs : List ℕ} → x' ≡ x → nat_abs x ≤ b → Vars ρ xs bs → Vars (x' ∷ ρ) (x ∷ xs) (b ∷ bs)
var e h vs = known e h vs

-- a signed parameter, or a number that was read through a reference: one that fits
pub arg : {w : Width} {x : ℤ} {b : ℕ} {ρ xs : List ℤ} {bs : List ℕ} → SFits w x → nat_abs x ≤ b → Vars ρ xs bs → Vars (to_z w (of_z w x) ∷ ρ) (x ∷ xs) (b ∷ bs)
arg f h vs = known (to_z-of_z f) h vs

val_is : {ρ xs : List ℤ} {bs : List ℕ} → Vars ρ xs bs → (i : ℕ) → (val ρ i ≡ val xs i) × (nat_abs (val xs i) ≤ bd bs i)
val_is none i = (refl, le_refl 0)
val_is (known e h vs) zero = (e, h)
val_is (known e h vs) (suc i) = val_is vs i

-- an expression of what is read is that of the integers: what a callee's clause says of arguments that it was passed as bits
pub plain : {ρ xs : List ℤ} {bs : List ℕ} (e : E) → Vars ρ xs bs → ev e ρ ≡ ev e xs
plain (v i) vs = (val_is vs i).0
plain (k z) vs = refl
plain (a ⊕ b) vs = λ i. plain a vs i +ℤ plain b vs i
plain (a ⊖ b) vs = λ i. plain a vs i -ℤ plain b vs i
plain (a ⊗ b) vs = λ i. plain a vs i *ℤ plain b vs i
plain (⊝ a) vs = ap neg_ℤ (plain a vs)

module _ (w : Width) where
  back : {z y : ℤ} {n : ℕ} → z ≡ y → nat_abs y ≤ n → n < 2 ^ hbits w → (to_z w (of_z w z) ≡ y) × (nat_abs y ≤ n)
  back {y} e h l = (to_z-of_z (subst (λ (x : ℤ). SFits w x) (sym e) (sfits_abs y (lt_of_le_of_lt h l))) ∙ e, h)

  is : {ρ xs : List ℤ} {bs : List ℕ} (e : E) → Vars ρ xs bs → Ok w e bs → (rd w e ρ ≡ ev e xs) × (nat_abs (ev e xs) ≤ most e bs)
  is (v i) vs o = val_is vs i
  is (k z) vs o = (refl, le_refl (nat_abs z))
  is {xs} (a ⊕ b) vs o = let p = is a vs o.0 in let q = is b vs o.1 in back (λ i. p.0 i +ℤ q.0 i) (omega (arith, abs_add (ev a xs) (ev b xs))) o.2
  is {xs} (a ⊖ b) vs o = let p = is a vs o.0 in let q = is b vs o.1 in back (λ i. p.0 i -ℤ q.0 i) (omega (arith, abs_sub (ev a xs) (ev b xs))) o.2
  is {xs} (a ⊗ b) vs o = let p = is a vs o.0 in let q = is b vs o.1 in back (λ i. p.0 i *ℤ q.0 i) (rw abs_mul (mul-le-mul p.1 q.1)) o.2
  is {xs} (⊝ a) vs o = let p = is a vs o.0 in back (ap (λ (x : ℤ). pos 0 -ℤ x) p.0 ∙ +ℤ_idl (neg_ℤ (ev a xs))) (rw abs_neg p.1) o.1

  raw_is : {ρ xs : List ℤ} {bs : List ℕ} (e : E) → Vars ρ xs bs → Ok w e bs → raw w e ρ ≡ ev e xs
  raw_is (v i) vs o = (val_is vs i).0
  raw_is (k z) vs o = refl
  raw_is (a ⊕ b) vs o = λ i. (is a vs o.0).0 i +ℤ (is b vs o.1).0 i
  raw_is (a ⊖ b) vs o = λ i. (is a vs o.0).0 i -ℤ (is b vs o.1).0 i
  raw_is (a ⊗ b) vs o = λ i. (is a vs o.0).0 i *ℤ (is b vs o.1).0 i
  raw_is {xs} (⊝ a) vs o = ap (λ (x : ℤ). pos 0 -ℤ x) (is a vs o.0).0 ∙ +ℤ_idl (neg_ℤ (ev a xs))

  -- what an operation asks
  pub fits : {ρ xs : List ℤ} {bs : List ℕ} (e : E) → Vars ρ xs bs → Ok w e bs × (most e bs < 2 ^ hbits w) → SFits w (raw w e ρ)
  fits {xs} e vs o = subst (λ (x : ℤ). SFits w x) (sym (raw_is e vs o.0)) (sfits_abs (ev e xs) (lt_of_le_of_lt (is e vs o.0).1 o.1))

  -- what is read of its result, and how large that is
  pub reads : {ρ xs : List ℤ} {bs : List ℕ} (e : E) → Vars ρ xs bs → Ok w e bs → rd w e ρ ≡ ev e xs
  reads e vs o = (is e vs o).0

  pub small : {ρ xs : List ℤ} {bs : List ℕ} (e : E) → Vars ρ xs bs → Ok w e bs → nat_abs (ev e xs) ≤ most e bs
  small e vs o = (is e vs o).1

  -- one more variable: a number z that a callee returned, which is e of what it was passed
  pub from : {ρ xs ρ' xs' : List ℤ} {bs bs' : List ℕ} {z : ℤ} (e : E) → Vars ρ xs bs → z ≡ ev e ρ → Ok w e bs × (most e bs < 2 ^ hbits w) → Vars ρ' xs' bs' → Vars (to_z w (of_z w z) ∷ ρ') (ev e xs ∷ xs') (most e bs ∷ bs')
  from {xs} e vs h o r = var (read w (h ∙ plain e vs) (sfits_abs (ev e xs) (lt_of_le_of_lt (small e vs o.0) o.1))) (small e vs o.0) r

  -- by computation, at bounds that are numerals:  fits! w e vs tt
  pub fits! : {ρ xs : List ℤ} {bs : List ℕ} (e : E) → Vars ρ xs bs → T (ok? w e bs) → SFits w (raw w e ρ)
  fits! {bs} e vs t = fits e vs (ok_is w e bs t)

  pub reads! : {ρ xs : List ℤ} {bs : List ℕ} (e : E) → Vars ρ xs bs → T (ok? w e bs) → rd w e ρ ≡ ev e xs
  reads! {bs} e vs t = reads e vs (ok_is w e bs t).0
