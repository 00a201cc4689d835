-- What `array::from_fn` makes of a closure that stays as it is: a list by its entries. Assumes nothing.
use Rattle.std.proofs.Common.{◌≡◌, refl, sym, ◌∙◌, subst, ℕ, zero, suc, ◌+◌, ◌<◌, ◌≤◌, List, get_or, arith}
use Rattle.std.proofs.lemmas.List.{ext_get_or}
use Rattle.std.specs.Array.{IsFromFnResult, IsFromFnResultFrom}
use native.Mathlib.Decide.{ℕ_discrete}
use mathlib.Core.Path.{subst⁻¹}
use denote.Param.Members.{Mut, Called}
use Rattle.integers.specs.Lists.{tabulate}
use Rattle.integers.proofs.Tabulate.{length_tabulate, get_d_tabulate}

module _ {F B : Type 0} (g : Mut F (ℕ × Unit {0}) B) (f : ℕ → B) (h : F) (n : ℕ) (step : (i : ℕ) (y : B) (p : F) → i < n → Called g h (i, tt) y p → (y ≡ f i) × (p ≡ h)) (d : B) (ys : List B) where
  each : (p : F) (i m : ℕ) → p ≡ h → i + m ≤ n → IsFromFnResultFrom g p ys i m → (k : ℕ) → i ≤ k → k < i + m → get_or ys k d ≡ f k
  each p i zero e l r k a b = absurd (omega arith)
  each p i (suc m) e l r k a b = go (λ w. each r.0 (i + 1) m called.1 (omega arith) r.4 k (omega arith) (omega arith)) (ℕ_discrete k i)
    where
      called : (r.1 ≡ f i) × (r.0 ≡ h)
      called = step i r.1 r.0 (omega arith) (subst (λ (x : F). Called g x (i, tt) r.1 r.0) e r.3)

      go : ((k ≡ i → ⊥) → get_or ys k d ≡ f k) → Dec (k ≡ i) → get_or ys k d ≡ f k
      go rest (yes w) = subst⁻¹ (λ (j : ℕ). get_or ys j d ≡ f j) w (r.2.1 d ∙ called.0)
      go rest (no w) = rest w

  pub made : IsFromFnResult g h ys n → ys ≡ tabulate n f
  made r =
      ext_get_or d ys (tabulate n f) (r.long ∙ sym (length_tabulate n f))
      (λ k l. let b : k < n = omega (arith, r.long) in each h 0 n refl (omega arith) r.each k (omega arith) (omega arith) ∙ sym (get_d_tabulate n f d k b))
