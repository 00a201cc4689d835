-- A pass by keep's limit leaves what keep leaves, and a pass by 2 ^ R times the threshold what threshold leaves. Assumes nothing.
use mathlib.Core.Path.{◌≡◌, refl, sym, ap, ◌∙◌, subst⁻¹}
use mathlib.Core.Bool.{Bool, true, false, cond, ◌&&◌, ◌||◌}
use mathlib.Core.List.{List}
use Prim.Native.Nat.{ℕ, ◌+◌, ◌*◌, ◌-◌, ◌^◌, ◌<◌, ◌≤◌}
use native.Mathlib.Nat.{mul-le-mul_right, one-le-pow}
use native.Mathlib.Decide.{dec_lt}
use native.Mathlib.Omega.{arith}
use lib.Dec.{eqb, ltb, leb}
use lib.IntN.{ℤ, pos, nat_abs}
use lib.ListN.{length, get_or}
use lib.Pow.{pow-add}
use borrow.Author.Tests.{eq-eqb, ne_eqb, le-leb, lt-leb}
use Rattle.integers.proofs.Tests.{true_at, false_at}
use Rattle.integers.proofs.Zero.{abs_zero}
use Rattle.pyramid.specs.Plane.{Image, Fits}
use Rattle.pyramid.specs.Places.{tetrolet_places, at}
use Rattle.pyramid.specs.Slices.{image_of}
use Rattle.pyramid.proofs.Places.{none, places_levels}
use Rattle.pyramid.proofs.Number.{places_count}
use Rattle.quota.specs.Quota.{ranks, stays, passes, kept_of, cut_of}
use Rattle.quota.proofs.Demand.{q_at, q_length}
use Rattle.quota.proofs.Select.{same_selected}
use Rattle.sifting.specs.Sifting.{ties, Limit, sifts, sifted_of}
use Rattle.sifting.proofs.Limits.{keep_by, ties_few}

pub kept_is : (R h w : ℕ) → Fits R h w → (p : List ℤ) (K t over : ℕ) → Limit (ranks R h w (image_of h p)) K t over → sifted_of R h w t (K - over) p ≡ kept_of R h w K p
kept_is R h w f p K t over g =
    same_selected R h w f (sifts t (K - over) q) (stays K q) P
    (λ m l. ap (λ (b : Bool). cond b (at P (get_or (tetrolet_places R h w) m none)) (pos 0)) (keep_by q K t over g m (subst⁻¹ (λ (x : ℕ). m < x) (q_length R h w f 0 P) l)))
  where
    P : Image
    P = image_of h p

    q : List ℕ
    q = ranks R h w P

-- ---- the threshold

-- a comparison of multiples
times : (x a y : ℕ) → 1 ≤ y → x < a → x * y < a * y
times x a y l h = let z = mul-le-mul_right y h in omega arith

module _ (x a y c d : ℕ) (l : 1 ≤ y) (h : c < d) where
  abbrev rank : ℕ
  rank = a * y

  abbrev stay : Bool
  stay = ltb 0 rank && (ltb (x * y) rank || (eqb (x * y) rank && ltb c d))

  one_test : 0 < a → stay ≡ leb x a
  one_test p = go (dec_lt x a) (dec_lt a x)
    where
      some : 0 < rank
      some = let z = times 0 a y l p in omega arith

      go : Dec (x < a) → Dec (a < x) → stay ≡ leb x a
      go (yes q) r = rw (true_at 0 rank some, true_at (x * y) rank (times x a y l q), le-leb x a (omega arith)) refl
      go (no q) (yes r) = let z = times a x y l r in rw (true_at 0 rank some, false_at (x * y) rank (omega arith), ne_eqb (x * y) rank (omega arith), lt-leb x a r) refl
      go (no q) (no r) =
          let e : x ≡ a = omega arith in
          let g : x * y ≡ a * y = ap (λ (z : ℕ). z * y) e in
          rw (true_at 0 rank some, false_at (x * y) rank (omega arith), eq-eqb (x * y) rank g, true_at c d h, le-leb x a (omega arith)) refl

pub cut_is : (R h w : ℕ) → Fits R h w → (p : List ℤ) (T t left : ℕ) → t ≡ T * 2 ^ R → left ≡ w * h → sifted_of R h w t left p ≡ cut_of R h w T p
cut_is R h w f p T t left e g =
    (λ i. sifted_of R h w (e i) (g i) p)
    ∙ same_selected R h w f (sifts (T * 2 ^ R) (w * h) q) (λ m. passes T P (get_or (tetrolet_places R h w) m none)) P one
  where
    P : Image
    P = image_of h p

    q : List ℕ
    q = ranks R h w P

    same : (z : ℤ) (a b : Bool) → (0 < nat_abs z → a ≡ b) → cond a z (pos 0) ≡ cond b z (pos 0)
    same z a b k = go (dec_lt 0 (nat_abs z))
      where
        both : (a b : Bool) → z ≡ pos 0 → cond a z (pos 0) ≡ cond b z (pos 0)
        both true true e = refl
        both true false e = e
        both false true e = sym e
        both false false e = refl

        go : Dec (0 < nat_abs z) → cond a z (pos 0) ≡ cond b z (pos 0)
        go (yes l) = ap (λ (b : Bool). cond b z (pos 0)) (k l)
        go (no l) = both a b (abs_zero z (omega arith))

    one : (m : ℕ) → m < length (tetrolet_places R h w)
        → cond (sifts (T * 2 ^ R) (w * h) q m) (at P (get_or (tetrolet_places R h w) m none)) (pos 0) ≡ cond (passes T P (get_or (tetrolet_places R h w) m none)) (at P (get_or (tetrolet_places R h w) m none)) (pos 0)
    one m l = same z (sifts (T * 2 ^ R) (w * h) q m) (leb (T * 2 ^ v) (nat_abs z)) (λ k.
        (λ i. ltb 0 (r i) && (ltb (level i) (r i) || (eqb (level i) (r i) && ltb (ties q (T * 2 ^ R) m) (w * h))))
        ∙ one_test (T * 2 ^ v) (nat_abs z) (2 ^ (R - v)) (ties q (T * 2 ^ R) m) (w * h) (one-le-pow (R - v) 2 (omega arith)) few k)
      where
        z : ℤ
        z = at P (get_or (tetrolet_places R h w) m none)

        v : ℕ
        v = (get_or (tetrolet_places R h w) m none).level

        r : get_or q m 0 ≡ nat_abs z * 2 ^ (R - v)
        r = q_at R h w f 0 P m l

        few : ties q (T * 2 ^ R) m < w * h
        few = omega (arith, ties_few q (T * 2 ^ R) m, places_count 0 R h w f)

        level : T * 2 ^ R ≡ T * 2 ^ v * 2 ^ (R - v)
        level = let b = places_levels 0 R R h w (omega arith) m l in go (2 ^ v) (2 ^ (R - v)) (ap (λ (x : ℕ). 2 ^ x) (whole v b.1) ∙ pow-add 2 v (R - v))
          where
            whole : (v : ℕ) → v ≤ R → R ≡ v + (R - v)
            whole v k = omega arith

            go : (a b : ℕ) → 2 ^ R ≡ a * b → T * 2 ^ R ≡ T * a * b
            go a b e = rw e (omega arith)
