-- Ranks, Keep and Cut read off a plane that is ours times 2 ^ (R - r) at each level r. Assumes nothing.
use mathlib.Core.Path.{◌≡◌, sym, ap, ◌∙◌, subst}
use mathlib.Core.Bool.{Bool, true, false, cond}
use mathlib.Core.List.{List}
use Prim.Native.Nat.{ℕ, ◌+◌, ◌*◌, ◌-◌, ◌^◌, ◌≤◌}
use native.Mathlib.Omega.{arith}
use native.Mathlib.Nat.{one-le-pow, zero-add}
use lib.Dec.{leb}
use lib.IntN.{ℤ, pos, nat_abs, ◌*ℤ◌, *ℤ_comm}
use lib.ListN.{get_or}
use Rattle.integers.proofs.Laws.{*ℤ_assoc}
use Rattle.integers.proofs.Ring.{k, ◌⊗◌, ring4}
use Rattle.integers.proofs.Bound.{abs_mul}
use Rattle.pyramid.specs.Plane.{Image, Fits}
use Rattle.pyramid.specs.Places.{Place, no_place, plane_places, tetrolet_places, at}
use Rattle.pyramid.proofs.Energy.{pow_add}
use Rattle.quota.specs.Quota.{rank_of, ranks, stays, passes, kept, cut}
use Rattle.quota.proofs.Flat.{map_cong}
use Rattle.quota.proofs.Select.{select_places}
use Rattle.published.specs.Published.{sizes}
use Rattle.published.specs.Laws.{Each, Planes}
use Rattle.published.proofs.Choices.{most_times}
use Rattle.published.proofs.Scaled.{each_level}

-- 2 ^ R is 2 ^ (R - r) times 2 ^ r
powers : (R r : ℕ) → r ≤ R → 2 ^ R ≡ 2 ^ (R - r) * 2 ^ r
powers R r h = let e : R ≡ R - r + r = omega arith in ap (λ (n : ℕ). 2 ^ n) e ∙ pow_add 2 (R - r) r

module _ (R h w : ℕ) (f : Fits R h w) (P : Image) (Q : Place → ℤ) where
  abbrev Scaled : Place → Type 0
  Scaled p = Q p ≡ pos (2 ^ (R - p.level)) *ℤ at P p

  rank_of_law : (p : Place) → Scaled p → rank_of R P p ≡ nat_abs (Q p)
  rank_of_law p e = turn (nat_abs (at P p)) (2 ^ (R - p.level)) ∙ sym (ap nat_abs e ∙ abs_mul (pos (2 ^ (R - p.level))) (at P p))
    where
      turn : (a b : ℕ) → a * b ≡ b * a
      turn a b = omega arith

  to_level : (p : Place) → p.level ≤ R → Scaled p → pos (2 ^ R) *ℤ at P p ≡ pos (2 ^ p.level) *ℤ Q p
  to_level p l e =
      ap (λ (n : ℕ). pos n *ℤ at P p) (powers R p.level l)
      ∙ ap (λ (z : ℤ). z *ℤ at P p) (*ℤ_comm (pos (2 ^ (R - p.level))) (pos (2 ^ p.level)))
      ∙ *ℤ_assoc (pos (2 ^ p.level)) (pos (2 ^ (R - p.level))) (at P p)
      ∙ ap (λ (z : ℤ). pos (2 ^ p.level) *ℤ z) (sym e)

  passes_of : (T : ℕ) (p : Place) → p.level ≤ R → Scaled p → passes T P p ≡ leb (T * 2 ^ R) (nat_abs (Q p))
  passes_of T p l e =
      sym (most_times (2 ^ (R - p.level)) (T * 2 ^ p.level) (nat_abs (at P p)) (one-le-pow (R - p.level) 2 (omega arith)))
      ∙ λ t. leb (units t) (sym (ap nat_abs e ∙ abs_mul (pos (2 ^ (R - p.level))) (at P p)) t)
    where
      units : 2 ^ (R - p.level) * (T * 2 ^ p.level) ≡ T * 2 ^ R
      units = turn (2 ^ (R - p.level)) (2 ^ p.level) ∙ ap (λ (n : ℕ). T * n) (sym (powers R p.level l))
        where
          turn : (a b : ℕ) → a * (T * b) ≡ T * (a * b)
          turn a b = omega arith

  -- an entry that stays or is dropped, in the published units
  dropped : (b : Bool) (p : Place) (z : ℤ) → Scaled p → z ≡ cond b (at P p) (pos 0) → pos (2 ^ (R - p.level)) *ℤ z ≡ cond b (Q p) (pos 0)
  dropped true p z e g = ap (λ (y : ℤ). pos (2 ^ (R - p.level)) *ℤ y) g ∙ sym e
  dropped false p z e g = ap (λ (y : ℤ). pos (2 ^ (R - p.level)) *ℤ y) g ∙ zero_right (pos (2 ^ (R - p.level)))
    where
      zero_right : (c : ℤ) → c *ℤ pos 0 ≡ pos 0
      zero_right c = ring4 (λ a b c d. a ⊗ k (pos 0)) (λ a b c d. k (pos 0)) c c c c tt

  pub planes : Each (plane_places R h w) Scaled → Each (tetrolet_places R h w) Scaled → Planes R h w P Q
  planes all tet = record {
    scaled = all;
    to_the_level = λ n l. to_level (get_or (plane_places R h w) n no_place) (each_level true 0 R R h w (zero-add R) n l) (all n l);
    rank = λ n l. rank_of_law (get_or (tetrolet_places R h w) n no_place) (tet n l);
    ranked = ranked;
    keeps = λ K n l.
        let p = get_or (tetrolet_places R h w) n no_place in
        dropped (stays K (sizes R h w Q) n) p (at (kept R h w K P) p) (tet n l)
        (subst (λ (q : List ℕ). at (kept R h w K P) p ≡ cond (stays K q n) (at P p) (pos 0)) ranked (select_places 0 R h w f (stays K (ranks R h w P)) P n l));
    threshold = passed;
    cuts = λ T n l.
        let p = get_or (tetrolet_places R h w) n no_place in
        dropped (leb (T * 2 ^ R) (nat_abs (Q p))) p (at (cut R h w T P) p) (tet n l)
        (select_places 0 R h w f (λ n. passes T P (get_or (tetrolet_places R h w) n no_place)) P n l ∙ ap (λ (b : Bool). cond b (at P p) (pos 0)) (passed T n l));
  }
    where
      ranked : ranks R h w P ≡ sizes R h w Q
      ranked = map_cong (rank_of R P) (λ p. nat_abs (Q p)) (tetrolet_places R h w) (λ n l. rank_of_law (get_or (tetrolet_places R h w) n no_place) (tet n l))

      passed : (T : ℕ) → Each (tetrolet_places R h w) (λ p. passes T P p ≡ leb (T * 2 ^ R) (nat_abs (Q p)))
      passed T n l = passes_of T (get_or (tetrolet_places R h w) n no_place) (each_level false 0 R R h w (zero-add R) n l) (tet n l)
