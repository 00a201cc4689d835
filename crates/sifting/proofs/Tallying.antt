-- The tally after one entry more, by the tests of its rank. Assumes nothing.
use mathlib.Core.Path.{◌≡◌, refl, sym, ap, ◌∙◌}
use mathlib.Core.Bool.{Bool, true, false, cond, ◌&&◌}
use Prim.Native.Nat.{ℕ, ◌+◌, ◌-◌, ◌<◌}
use native.Mathlib.Omega.{arith}
use lib.Dec.{eqb, ltb}
use borrow.Author.Tests.{eq-eqb, ne_eqb}
use Rattle.integers.proofs.Tests.{true_at, false_at}
use Rattle.sifting.specs.declared.tally.Tally.{Tally}
use Rattle.sifting.specs.Tallies.{stays_now, Tallied}

never : (b : Bool) → (b && false) ≡ false
never true = refl
never false = refl

module _ (t : Tally) (rank left : ℕ) where
  abbrev pub kept_now : Tally
  kept_now = record { limit = t.limit; left = left; count = t.count + 1; stays = true }

  abbrev pub dropped_now : Tally
  dropped_now = record { limit = t.limit; left = left; count = t.count; stays = false }

  kept : left ≡ t.left - cond (eqb t.limit rank) 1 0 → stays_now t rank ≡ true → Tallied t rank kept_now
  kept l s = record { limit = refl; left = l; count = ap (λ (b : Bool). t.count + cond b 1 0) (sym s); stays = sym s }

  dropped : left ≡ t.left - cond (eqb t.limit rank) 1 0 → stays_now t rank ≡ false → Tallied t rank dropped_now
  dropped l s = record { limit = refl; left = l; count = none t.count ∙ ap (λ (b : Bool). t.count + cond b 1 0) (sym s); stays = sym s }
    where
      none : (x : ℕ) → x ≡ x + 0
      none x = omega arith

module _ (t : Tally) (rank : ℕ) where
  pub over : t.limit < rank → Tallied t rank (kept_now t rank t.left)
  over h = kept t rank t.left (rw (ne_eqb t.limit rank (omega arith)) (omega arith)) (rw (true_at 0 rank (omega arith), true_at t.limit rank h) refl)

  pub below : rank < t.limit → Tallied t rank (dropped_now t rank t.left)
  below h =
      dropped t rank t.left (rw (ne_eqb t.limit rank (omega arith)) (omega arith))
      (rw (false_at t.limit rank (omega arith), ne_eqb t.limit rank (omega arith)) (never (ltb 0 rank)))

  -- an entry of the limiting rank
  module _ (e : t.limit ≡ rank) where
    pub no_more : t.left ≡ 0 → Tallied t rank (dropped_now t rank 0)
    no_more z =
        dropped t rank 0 (rw (eq-eqb t.limit rank e) (omega arith))
        (rw (false_at t.limit rank (omega arith), eq-eqb t.limit rank e, false_at 0 t.left (omega arith)) (never (ltb 0 rank)))

    pub zero_rank : rank ≡ 0 → Tallied t rank (dropped_now t rank (t.left - 1))
    zero_rank z = dropped t rank (t.left - 1) (rw (eq-eqb t.limit rank e) refl) (rw (false_at 0 rank (omega arith)) refl)

    pub one_more : 0 < t.left → 0 < rank → Tallied t rank (kept_now t rank (t.left - 1))
    one_more l z =
        kept t rank (t.left - 1) (rw (eq-eqb t.limit rank e) refl)
        (rw (true_at 0 rank z, false_at t.limit rank (omega arith), eq-eqb t.limit rank e, true_at 0 t.left l) refl)
