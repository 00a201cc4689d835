-- An answer taken apart: its number, and its values told through references. P is a contract over the number and the values. Assumes nothing.
use Rattle.std.specs.Prelude.{Result, Ok, Err}
use mathlib.Core.Path.{◌≡◌, refl, subst, subst⁻¹}
use Prim.Native.Nat.{ℕ}
use Rattle.refusals.specs.Refusal.{number_of, after_call}
use Rattle.refusals.specs.declared.Refusal.{Refusal}
use Rattle.refusals.proofs.After.{unchanged}
use Rattle.sheet.specs.Read.{reading_of, height_of, width_of, levels_of}
use Rattle.sheet.specs.declared.Sheet.{Sheet}
use Rattle.c_api.specs.Told.{Told}

-- a contract over the number and the value that an answer has, by what is told of them
pub told_by : (P : ℕ → ℕ → Type 0) {n k m l : ℕ} → P n k → m ≡ n → l ≡ k → P m l
told_by P {n} {k} {m} {l} p e f = subst⁻¹ (λ (x : ℕ). P x l) e (subst⁻¹ (λ (x : ℕ). P n x) f p)

module _ (P : ℕ → ℕ → ℕ → ℕ → Type 0) (a : Result Sheet Refusal) (q : P (reading_of a) (height_of a) (width_of a) (levels_of a)) where
  pub found : (s : Sheet) → a ≡ Ok s → P 0 s.height s.width s.levels × Told 0 s.height s.height × Told 0 s.width s.width × Told 0 s.levels s.levels
  found s e = (subst (λ (b : Result Sheet Refusal). P (reading_of b) (height_of b) (width_of b) (levels_of b)) e q, refl, refl, refl)

  pub unfound : (r : Refusal) (n h w k : ℕ) → a ≡ Err r → n ≡ number_of r → P n (after_call n h 0) (after_call n w 0) (after_call n k 0) × Told n h h × Told n w w × Told n k k
  unfound r n h w k e g =
      subst⁻¹ (λ (m : ℕ). P m (after_call m h 0) (after_call m w 0) (after_call m k 0) × Told m h h × Told m w w × Told m k k) g (
        subst (λ (z : ℕ). P (number_of r) z (after_call (number_of r) w 0) (after_call (number_of r) k 0)) (unchanged r h 0)
            (subst (λ (z : ℕ). P (number_of r) 0 z (after_call (number_of r) k 0)) (unchanged r w 0)
            (subst (λ (z : ℕ). P (number_of r) 0 0 z) (unchanged r k 0) (subst (λ (b : Result Sheet Refusal). P (reading_of b) (height_of b) (width_of b) (levels_of b)) e q))),
        unchanged r h h,
        unchanged r w w,
        unchanged r k k,
      )
