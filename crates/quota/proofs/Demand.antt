-- The third demand on images, field by field. Assumes nothing.
use mathlib.Core.Path.{◌≡◌, refl, sym, ap, ◌∙◌, subst, subst⁻¹}
use mathlib.Core.Bool.{Bool, true, false, not, cond, ◌&&◌}
use mathlib.Core.List.{List, [], ◌∷◌, map}
use Prim.Native.Nat.{ℕ, zero, suc, ◌+◌, ◌*◌, ◌-◌, ◌^◌, ◌≤◌, ◌<◌}
use native.Mathlib.Omega.{arith}
use native.Mathlib.Nat.{le_refl, le_trans, pow-succ', pow-zero, mul-le-mul_left, one-mul, zero-mul, not-suc-le-zero}
use lib.Dec.{T, eqb→eq}
use lib.IntN.{ℤ, pos, negsuc, nat_abs, neg_ℤ, ◌-ℤ◌, ◌*ℤ◌, +ℤ_idl, +ℤ_invr}
use lib.ListN.{length, get_or, length-map}
use Rattle.integers.proofs.Bound.{abs_neg}
use Rattle.integers.specs.Sum.{Σℕ, only, sq, total}
use Rattle.integers.proofs.Sums.{Σℕ_cong}
use Rattle.integers.proofs.Tests.{is_false}
use Rattle.pyramid.specs.Plane.{Image, Fits, analyse, numerators, Numbers, all_blocks}
use Rattle.pyramid.specs.Places.{Place, tetrolet_places, at, sum_over}
use Rattle.integers.specs.Zero.{is_zero}
use Rattle.integers.proofs.Zero.{abs_zero}
use Rattle.quota.specs.Quota.{rank_of, ranks, stays, kept, entries}
use Rattle.quota.proofs.Distance.{distance}
use Rattle.pyramid.proofs.Pyramid.{numerators_sub, numerators_analyse}
use Rattle.pyramid.proofs.Places.{none, sum_numbers, sum_cong, sum_mono}
use Rattle.quota.proofs.Select.{select_places, low_selected}
use Rattle.pyramid.proofs.Energy.{low_total, total_cong, energy, factor}
use Rattle.quota.proofs.Keep.{stay-rank, stay-count, stay-best}

pub get_d_map : (f : Place → ℕ) (l : List Place) (n : ℕ) → n < length l → get_or (map f l) n 0 ≡ f (get_or l n none)
get_d_map f [] n h = absurd (omega arith)
get_d_map f (p ∷ l) zero h = refl
get_d_map f (p ∷ l) (suc n) h = get_d_map f l n (omega arith)

-- the distance of a plane from a picture, by the differences from the picture's own plane
module _ (R h w : ℕ) (f : Fits R h w) (cs : ℕ → ℕ) (ns : Numbers (all_blocks R h w) cs) (A : Image) where
  abbrev own : Image
  own = analyse R h w cs A

  pub distance_is : (Q : Image)
      → distance R h w cs A Q
      ≡ 4 ^ R * low_total R h w (λ y x. sq (Q y x -ℤ own y x)) + sum_over (tetrolet_places R h w) (λ p. 4 ^ (2 * R - p.level) * sq (at Q p -ℤ at own p))
  distance_is Q =
      total_cong h w (λ y x. sq (numerators R h w cs Q y x -ℤ pos (4 ^ R) *ℤ A y x)) (λ y x. sq (numerators R h w cs (λ y x. Q y x -ℤ own y x) y x))
      (λ y x k l. ap sq (sym (numerators_sub R h w cs Q own y x ∙ ap (λ (z : ℤ). numerators R h w cs Q y x -ℤ z) (numerators_analyse R h w f cs ns A y x k l))))
      ∙ sym (one-mul (total h w (λ y x. sq (numerators R h w cs (λ y x. Q y x -ℤ own y x) y x))))
      ∙ energy 0 R R h w (omega arith) f cs ns (λ y x. Q y x -ℤ own y x)

-- zero or not
zero_sq : (z : ℤ) → T (is_zero z) → sq z ≡ 0
zero_sq (pos n) t = rw (eqb→eq n 0 t) refl
zero_sq (negsuc n) t = rw (eqb→eq (suc n) 0 t) refl

pow_square : (e : ℕ) → 2 ^ e * 2 ^ e ≡ 4 ^ e
pow_square zero = (λ i. pow-zero 2 i * pow-zero 2 i) ∙ sym (pow-zero 4)
pow_square (suc e) = (λ i. pow-succ' 2 e i * pow-succ' 2 e i) ∙ move (2 ^ e) ∙ ap (λ (x : ℕ). 4 * x) (pow_square e) ∙ sym (pow-succ' 4 e)
  where
    move : (x : ℕ) → 2 * x * (2 * x) ≡ 4 * (x * x)
    move x = omega arith

rank_square : (R : ℕ) (P : Image) (p : Place) → rank_of R P p * rank_of R P p ≡ 4 ^ (R - p.level) * sq (at P p)
rank_square R P p = move (nat_abs (at P p)) (2 ^ (R - p.level)) ∙ ap (λ (x : ℕ). x * sq (at P p)) (pow_square (R - p.level))
  where
    move : (a b : ℕ) → a * b * (a * b) ≡ b * b * (a * a)
    move a b = omega arith

sub_zero : (z y : ℤ) → only (is_zero z) (sq y) ≤ sq (z -ℤ y)
sub_zero z y = go (is_zero z) (λ t. eqb→eq (nat_abs z) 0 t)
  where
    go : (b : Bool) → (T b → nat_abs z ≡ 0) → only b (sq y) ≤ sq (z -ℤ y)
    go false e = omega arith
    go true e = rw (abs_zero z (e tt)) (subst⁻¹ (λ (n : ℕ). sq y ≤ n) (ap sq (+ℤ_idl (neg_ℤ y)) ∙ (λ i. abs_neg y i * abs_neg y i)) (le_refl (sq y)))

only_mul : (b : Bool) (c x : ℕ) → c * only b x ≡ only b (c * x)
only_mul true c x = refl
only_mul false c x = omega arith

module _ (R h w : ℕ) (f : Fits R h w) (K : ℕ) (P : Image) where
  abbrev ps : List Place
  ps = tetrolet_places R h w

  abbrev q : List ℕ
  q = ranks R h w P

  abbrev pub S : Image
  S = kept R h w K P

  pub q_length : length q ≡ length ps
  q_length = length-map ps (rank_of R P)

  pub q_at : (n : ℕ) → n < length ps → get_or q n 0 ≡ rank_of R P (get_or ps n none)
  q_at n l = get_d_map (rank_of R P) ps n l

  S-at : (n : ℕ) → n < length ps → at S (get_or ps n none) ≡ cond (stays K q n) (at P (get_or ps n none)) (pos 0)
  S-at n l = select_places 0 R h w f (stays K q) P n l

  -- an entry that stays is not zero
  stay_not_zero : (n : ℕ) → n < length ps → T (stays K q n) → 0 < nat_abs (at P (get_or ps n none))
  stay_not_zero n l t = go (nat_abs (at P (get_or ps n none))) (2 ^ (R - (get_or ps n none).level)) (subst (λ (x : ℕ). 0 < x) (q_at n l) (stay-rank q K n t))
    where
      go : (a b : ℕ) → 0 < a * b → 0 < a
      go zero b e = absurd (not-suc-le-zero (subst (λ (x : ℕ). 0 < x) (zero-mul b) e))
      go (suc a) b e = omega arith

  pub S-zero : (n : ℕ) → n < length ps → is_zero (at S (get_or ps n none)) ≡ not (stays K q n)
  S-zero n l = go (stays K q n) refl
    where
      go : (b : Bool) → stays K q n ≡ b → is_zero (at S (get_or ps n none)) ≡ not b
      go true e =
          ap is_zero (S-at n l ∙ ap (λ (b : Bool). cond b (at P (get_or ps n none)) (pos 0)) e)
          ∙ is_false (is_zero (at P (get_or ps n none))) (λ t. let x = eqb→eq (nat_abs (at P (get_or ps n none))) 0 t in let y = stay_not_zero n l (subst T (sym e) tt) in omega arith)
      go false e = ap is_zero (S-at n l ∙ ap (λ (b : Bool). cond b (at P (get_or ps n none)) (pos 0)) e)

  pub kept_entries : entries R h w S ≤ K
  kept_entries =
      subst (λ (m : ℕ). m ≤ K)
      (sym (sum_numbers ps (λ p. cond (is_zero (at S p)) 0 1)
      ∙ Σℕ_cong (length ps) (λ n. cond (is_zero (at S (get_or ps n none))) 0 1) (λ n. cond (stays K q n) 1 0) (λ n l. ap {B = ℕ} (λ (b : Bool). cond b 0 1) (S-zero n l) ∙ turn (stays K q n))))
      (subst (λ (m : ℕ). Σℕ m (λ n. cond (stays K q n) 1 0) ≤ K) q_length (stay-count q K))
    where
      turn : (b : Bool) → ◌≡◌ {A = ℕ} (cond (not b) 0 1) (cond b 1 0)
      turn true = refl
      turn false = refl

  -- the sum of the ranks' squares that a choice z leaves out, as a sum over places
  by_rank : (g : Place → Bool) (z : ℕ → Bool) → ((n : ℕ) → n < length ps → g (get_or ps n none) ≡ not (z n))
      → sum_over ps (λ p. 4 ^ (2 * R - p.level) * only (g p) (sq (at P p))) ≡ 4 ^ R * Σℕ (length q) (λ n. only (not (z n)) (get_or q n 0 * get_or q n 0))
  by_rank g z e =
      factor 0 R R h w (omega arith) (λ p. only (g p) (sq (at P p)))
      ∙ ap (λ (x : ℕ). 4 ^ R * x)
      (sum_numbers ps (λ p. 4 ^ (R - p.level) * only (g p) (sq (at P p)))
      ∙ Σℕ_cong (length ps) (λ n. 4 ^ (R - (get_or ps n none).level) * only (g (get_or ps n none)) (sq (at P (get_or ps n none)))) (λ n. only (not (z n)) (get_or q n 0 * get_or q n 0))
      (λ n l.
      only_mul (g (get_or ps n none)) (4 ^ (R - (get_or ps n none).level)) (sq (at P (get_or ps n none)))
      ∙ ap (λ (x : ℕ). only (g (get_or ps n none)) x) (sym (rank_square R P (get_or ps n none)))
      ∙ λ i. only (e n l i) (sym (q_at n l) i * sym (q_at n l) i))
      ∙ ap {B = ℕ} (λ (m : ℕ). Σℕ m (λ n. only (not (z n)) (get_or q n 0 * get_or q n 0))) (sym q_length))

  -- what is left out
  abbrev out : Place → ℕ
  out p = only (is_zero (at S p)) (sq (at P p))

  out_is : (n : ℕ) → n < length ps → sq (at S (get_or ps n none) -ℤ at P (get_or ps n none)) ≡ out (get_or ps n none)
  out_is n l = go (stays K q n) refl
    where
      p : Place
      p = get_or ps n none

      go : (b : Bool) → stays K q n ≡ b → sq (at S p -ℤ at P p) ≡ out p
      go true e =
          ap (λ (z : ℤ). sq (z -ℤ at P p)) (S-at n l ∙ ap (λ (b : Bool). cond b (at P p) (pos 0)) e) ∙ ap sq (+ℤ_invr (at P p))
          ∙ ap (λ (b : Bool). only b (sq (at P p))) (sym (S-zero n l ∙ ap not e))
      go false e =
          ap (λ (z : ℤ). sq (z -ℤ at P p)) (S-at n l ∙ ap (λ (b : Bool). cond b (at P p) (pos 0)) e) ∙ ap sq (+ℤ_idl (neg_ℤ (at P p))) ∙ (λ i. abs_neg (at P p) i * abs_neg (at P p) i)
          ∙ ap (λ (b : Bool). only b (sq (at P p))) (sym (S-zero n l ∙ ap not e))

  -- the dropped entries are those not zero before and 0 after
  dropped_is : (p : Place) → 4 ^ (2 * R - p.level) * out p ≡ only (not (is_zero (at P p)) && is_zero (at S p)) (4 ^ (2 * R - p.level) * sq (at P p))
  dropped_is p = only_mul (is_zero (at S p)) (4 ^ (2 * R - p.level)) (sq (at P p)) ∙ go (is_zero (at P p)) (is_zero (at S p)) (zero_sq (at P p))
    where
      go : (a b : Bool) → (T a → sq (at P p) ≡ 0) → only b (4 ^ (2 * R - p.level) * sq (at P p)) ≡ only (not a && b) (4 ^ (2 * R - p.level) * sq (at P p))
      go true true e = rw (e tt) (omega arith)
      go true false e = refl
      go false b e = refl

module _ (R h w : ℕ) (f : Fits R h w) (cs : ℕ → ℕ) (ns : Numbers (all_blocks R h w) cs) (K : ℕ) (A : Image) where
  abbrev P₀ : Image
  P₀ = analyse R h w cs A

  abbrev S₀ : Image
  S₀ = kept R h w K P₀

  kept_distance : distance R h w cs A S₀ ≡ sum_over (tetrolet_places R h w) (λ p. 4 ^ (2 * R - p.level) * only (is_zero (at S₀ p)) (sq (at P₀ p)))
  kept_distance =
      distance_is R h w f cs ns A S₀
      ∙ ap (λ (x : ℕ). 4 ^ R * x + sum_over (tetrolet_places R h w) (λ p. 4 ^ (2 * R - p.level) * sq (at S₀ p -ℤ at P₀ p))) (low_selected R h w (stays K (ranks R h w P₀)) P₀ S₀ (λ y x k l. refl))
      ∙ no-low (sum_over (tetrolet_places R h w) (λ p. 4 ^ (2 * R - p.level) * sq (at S₀ p -ℤ at P₀ p)))
      ∙ sum_cong (tetrolet_places R h w) (λ p. 4 ^ (2 * R - p.level) * sq (at S₀ p -ℤ at P₀ p)) (λ p. 4 ^ (2 * R - p.level) * only (is_zero (at S₀ p)) (sq (at P₀ p)))
      (λ n l. ap (λ (x : ℕ). 4 ^ (2 * R - (get_or (tetrolet_places R h w) n none).level) * x) (out_is R h w f K P₀ n l))
    where
      no-low : (x : ℕ) → 4 ^ R * 0 + x ≡ x
      no-low x = omega arith

  pub kept_exact : distance R h w cs A S₀ ≡ sum_over (tetrolet_places R h w) (λ p. only (not (is_zero (at P₀ p)) && is_zero (at S₀ p)) (4 ^ (2 * R - p.level) * sq (at P₀ p)))
  kept_exact = kept_distance ∙ sum_cong (tetrolet_places R h w) (λ p. 4 ^ (2 * R - p.level) * only (is_zero (at S₀ p)) (sq (at P₀ p))) (λ p. only (not (is_zero (at P₀ p)) && is_zero (at S₀ p)) (4 ^ (2 * R - p.level) * sq (at P₀ p))) (λ n l. dropped_is R h w f K P₀ (get_or (tetrolet_places R h w) n none))

  pub kept_nearest : (Q : Image) → entries R h w Q ≤ K → distance R h w cs A S₀ ≤ distance R h w cs A Q
  kept_nearest Q e =
      subst⁻¹ (λ (x : ℕ). x ≤ distance R h w cs A Q) (kept_distance ∙ by_rank R h w f K P₀ (λ p. is_zero (at S₀ p)) (stays K qs) (λ n l. S-zero R h w f K P₀ n l))
      (le_trans (mul-le-mul_left (4 ^ R) (stay-best qs K z few))
      (subst (λ (x : ℕ). x ≤ distance R h w cs A Q) (by_rank R h w f K P₀ (λ p. is_zero (at Q p)) z (λ n l. twice-not (is_zero (at Q (get_or ps₀ n none)))))
      (subst⁻¹ (λ (x : ℕ). sum_over ps₀ (λ p. 4 ^ (2 * R - p.level) * only (is_zero (at Q p)) (sq (at P₀ p))) ≤ x) (distance_is R h w f cs ns A Q)
      (more (4 ^ R * low_total R h w (λ y x. sq (Q y x -ℤ P₀ y x)))
      (sum_mono ps₀ (λ p. 4 ^ (2 * R - p.level) * only (is_zero (at Q p)) (sq (at P₀ p))) (λ p. 4 ^ (2 * R - p.level) * sq (at Q p -ℤ at P₀ p)) (λ p. mul-le-mul_left (4 ^ (2 * R - p.level)) (sub_zero (at Q p) (at P₀ p))))))))
    where
      ps₀ : List Place
      ps₀ = tetrolet_places R h w

      qs : List ℕ
      qs = ranks R h w P₀

      z : ℕ → Bool
      z n = not (is_zero (at Q (get_or ps₀ n none)))

      twice-not : (b : Bool) → b ≡ not (not b)
      twice-not true = refl
      twice-not false = refl

      turn : (b : Bool) → ◌≡◌ {A = ℕ} (cond b 0 1) (cond (not b) 1 0)
      turn true = refl
      turn false = refl

      few : Σℕ (length qs) (λ n. cond (z n) 1 0) ≤ K
      few =
          subst⁻¹ (λ (m : ℕ). Σℕ m (λ n. cond (z n) 1 0) ≤ K) (q_length R h w f K P₀)
          (subst (λ (m : ℕ). m ≤ K) (sum_numbers ps₀ (λ p. cond (is_zero (at Q p)) 0 1) ∙ Σℕ_cong (length ps₀) (λ n. cond (is_zero (at Q (get_or ps₀ n none))) 0 1) (λ n. cond (z n) 1 0) (λ n l. turn (is_zero (at Q (get_or ps₀ n none))))) e)

      more : {a b : ℕ} (c : ℕ) → a ≤ b → a ≤ c + b
      more c h = omega arith
