-- The four sign rows: they are their own inverse, four times over; they filter the squares, four times over; they are linear. Assumes nothing.
use mathlib.Core.Path.{◌≡◌, sym, ap, ◌∙◌}
use mathlib.Core.List.{List, [], ◌∷◌}
use Prim.Native.Nat.{ℕ, zero, suc, ◌*◌, ◌<◌}
use native.Mathlib.Omega.{arith}
use lib.IntN.{ℤ, pos, ◌+ℤ◌, ◌-ℤ◌, ◌*ℤ◌}
use Rattle.integers.proofs.Ring.{E, v, k, ◌⊕◌, ◌⊖◌, ◌⊗◌, ring, ring4}
use Rattle.integers.proofs.Lin.{sq_pos, pos_inj}
use Rattle.integers.specs.Sum.{Σℕ, sq}
use Rattle.block.specs.Block.{sign_row}

abbrev rows : ℕ → E → E → E → E → E
rows zero a b c d = a ⊕ b ⊕ c ⊕ d
rows (suc zero) a b c d = a ⊕ b ⊖ c ⊖ d
rows (suc (suc zero)) a b c d = a ⊖ b ⊕ c ⊖ d
rows (suc (suc (suc i))) a b c d = a ⊖ b ⊖ c ⊕ d

abbrev twice : ℕ → E → E → E → E → E
twice i a b c d = rows i (rows 0 a b c d) (rows 1 a b c d) (rows 2 a b c d) (rows 3 a b c d)

pub rows_twice : (i : ℕ) (x : ℕ → ℤ) → i < 4 → sign_row i (λ b. sign_row b x) ≡ pos 4 *ℤ x i
rows_twice zero x h = ring4 (twice 0) (λ a b c d. k (pos 4) ⊗ a) (x 0) (x 1) (x 2) (x 3) tt
rows_twice (suc zero) x h = ring4 (twice 1) (λ a b c d. k (pos 4) ⊗ b) (x 0) (x 1) (x 2) (x 3) tt
rows_twice (suc (suc zero)) x h = ring4 (twice 2) (λ a b c d. k (pos 4) ⊗ c) (x 0) (x 1) (x 2) (x 3) tt
rows_twice (suc (suc (suc zero))) x h = ring4 (twice 3) (λ a b c d. k (pos 4) ⊗ d) (x 0) (x 1) (x 2) (x 3) tt
rows_twice (suc (suc (suc (suc i)))) x h = absurd (omega arith)

abbrev sq_e : E → E
sq_e e = e ⊗ e

squares : (x : ℕ → ℤ) → pos (Σℕ 4 (λ i. sq (x i))) ≡ pos 0 +ℤ x 0 *ℤ x 0 +ℤ x 1 *ℤ x 1 +ℤ x 2 *ℤ x 2 +ℤ x 3 *ℤ x 3
squares x = λ t. pos 0 +ℤ sym (sq_pos (x 0)) t +ℤ sym (sq_pos (x 1)) t +ℤ sym (sq_pos (x 2)) t +ℤ sym (sq_pos (x 3)) t

pub rows_squares : (x : ℕ → ℤ) → Σℕ 4 (λ i. sq (sign_row i x)) ≡ 4 * Σℕ 4 (λ b. sq (x b))
rows_squares x =
    pos_inj
    (squares (λ i. sign_row i x)
    ∙ ring4
    (λ a b c d. k (pos 0) ⊕ sq_e (rows 0 a b c d) ⊕ sq_e (rows 1 a b c d) ⊕ sq_e (rows 2 a b c d) ⊕ sq_e (rows 3 a b c d))
    (λ a b c d. k (pos 4) ⊗ (k (pos 0) ⊕ sq_e a ⊕ sq_e b ⊕ sq_e c ⊕ sq_e d))
    (x 0) (x 1) (x 2) (x 3) tt
    ∙ ap (λ (y : ℤ). pos 4 *ℤ y) (sym (squares x)))

abbrev eight : (ℕ → ℤ) → (ℕ → ℤ) → List ℤ
eight x y = x 0 ∷ x 1 ∷ x 2 ∷ x 3 ∷ y 0 ∷ y 1 ∷ y 2 ∷ y 3 ∷ []

abbrev apart : ℕ → E
apart i = rows i (v 0 ⊖ v 4) (v 1 ⊖ v 5) (v 2 ⊖ v 6) (v 3 ⊖ v 7)

abbrev each : ℕ → E
each i = rows i (v 0) (v 1) (v 2) (v 3) ⊖ rows i (v 4) (v 5) (v 6) (v 7)

pub rows_sub : (i : ℕ) (x y : ℕ → ℤ) → sign_row i (λ b. x b -ℤ y b) ≡ sign_row i x -ℤ sign_row i y
rows_sub zero x y = ring (eight x y) (apart 0) (each 0) tt
rows_sub (suc zero) x y = ring (eight x y) (apart 1) (each 1) tt
rows_sub (suc (suc zero)) x y = ring (eight x y) (apart 2) (each 2) tt
rows_sub (suc (suc (suc i))) x y = ring (eight x y) (apart 3) (each 3) tt

abbrev five : ℤ → (ℕ → ℤ) → List ℤ
five c x = x 0 ∷ x 1 ∷ x 2 ∷ x 3 ∷ c ∷ []

abbrev scaled : ℕ → E
scaled i = rows i (v 4 ⊗ v 0) (v 4 ⊗ v 1) (v 4 ⊗ v 2) (v 4 ⊗ v 3)

abbrev scale : ℕ → E
scale i = v 4 ⊗ rows i (v 0) (v 1) (v 2) (v 3)

pub rows_scale : (i : ℕ) (c : ℤ) (x : ℕ → ℤ) → sign_row i (λ b. c *ℤ x b) ≡ c *ℤ sign_row i x
rows_scale zero c x = ring (five c x) (scaled 0) (scale 0) tt
rows_scale (suc zero) c x = ring (five c x) (scaled 1) (scale 1) tt
rows_scale (suc (suc zero)) c x = ring (five c x) (scaled 2) (scale 2) tt
rows_scale (suc (suc (suc i))) c x = ring (five c x) (scaled 3) (scale 3) tt

-- a row reads four values
pub rows_cong : (i : ℕ) (x y : ℕ → ℤ) → ((b : ℕ) → b < 4 → x b ≡ y b) → sign_row i x ≡ sign_row i y
rows_cong zero x y h = λ t. h 0 (omega arith) t +ℤ h 1 (omega arith) t +ℤ h 2 (omega arith) t +ℤ h 3 (omega arith) t
rows_cong (suc zero) x y h = λ t. h 0 (omega arith) t +ℤ h 1 (omega arith) t -ℤ h 2 (omega arith) t -ℤ h 3 (omega arith) t
rows_cong (suc (suc zero)) x y h = λ t. h 0 (omega arith) t -ℤ h 1 (omega arith) t +ℤ h 2 (omega arith) t -ℤ h 3 (omega arith) t
rows_cong (suc (suc (suc i))) x y h = λ t. h 0 (omega arith) t -ℤ h 1 (omega arith) t -ℤ h 2 (omega arith) t +ℤ h 3 (omega arith) t
