-- The values of a block stored by pieces are those stored by cells: each cell is the cell of one piece and place; so a test of all of them may go by pieces.
-- Assumes nothing.
use mathlib.Core.Path.{◌≡◌, refl, sym, ap, ◌∙◌, subst, subst⁻¹}
use mathlib.Core.List.{List}
use mathlib.Core.Bool.{Bool}
use mathlib.Core.Logic.{◌⊎◌, inl, inr, ◌↔◌}
use Prim.Native.Nat.{ℕ, zero, suc, ◌+◌, ◌*◌, ◌/◌, ◌%◌, ◌<◌, ◌≤◌}
use native.Mathlib.Nat.{not-suc-le-zero}
use native.Mathlib.Omega.{arith}
use native.Mathlib.Decide.{ℕ_discrete}
use lib.Dec.{T}
use lib.IntN.{ℤ, pos}
use lib.ListN.{length, get_or}
use lib.Seq.{ext_get_or}
use Rattle.integers.specs.Lists.{tabulate, every}
use Rattle.integers.proofs.Tabulate.{length_tabulate, get_d_tabulate}
use Rattle.integers.proofs.Index.{same_place}
use Rattle.integers.proofs.Tests.{every_at, every_of}
use Rattle.slices.specs.Stores.{scatter}
use Rattle.slices.proofs.Stores.{scatter_in, scatter_out, scatter_length}
use Rattle.coverings.specs.Rule.{Number}
use Rattle.tables.specs.Tables.{cell_at}
use Rattle.tables.proofs.Entries.{number_of, number_cell, cell_number, number_below, cell_below}
use Rattle.kernel.specs.Kernel.{at, inverse_of, piecewise}
use Rattle.kernel.proofs.Kernel.{put_all}
use Rattle.grid.specs.Grid.{cell_place}
use Rattle.grid.proofs.Near.{column_near}

-- one of the first n places, or none of them
found : (g : ℕ → ℕ) (x n : ℕ) → ((a : ℕ) × (a < n) × (x ≡ g a)) ⊎ ((a : ℕ) → a < n → x ≡ g a → ⊥)
found g x zero = inr (λ a l. absurd (not-suc-le-zero l))
found g x (suc n) = go (ℕ_discrete x (g n)) (found g x n)
  where
    go : Dec (x ≡ g n) → ((a : ℕ) × (a < n) × (x ≡ g a)) ⊎ ((a : ℕ) → a < n → x ≡ g a → ⊥) → ((a : ℕ) × (a < suc n) × (x ≡ g a)) ⊎ ((a : ℕ) → a < suc n → x ≡ g a → ⊥)
    go (yes e) o = inl (n, omega arith, e)
    go (no e) (inl (a, l, q)) = inl (a, omega arith, q)
    go (no e) (inr f) = inr (λ a l q. by (ℕ_discrete a n) l q)
      where
        by : {a : ℕ} → Dec (a ≡ n) → a < suc n → x ≡ g a → ⊥
        by (yes i) l q = e (q ∙ ap g i)
        by {a} (no i) l q = f a (omega arith) q

-- a value of the inverse, by its number
inverse_at : (n : ℕ) (t : List ℤ) → Number n → (a : ℕ) → a < 16 → at (inverse_of n t) a ≡ at (piecewise t) (number_of n a)
inverse_at n t m a l =
    ap (λ (v : List ℤ). at v a) (sym (put_all n t (tabulate 16 (λ a. at (piecewise t) (number_of n a))) m (length_tabulate 16 (λ a. at (piecewise t) (number_of n a))) each))
    ∙ each a l
  where
    each : (a : ℕ) → a < 16 → at (tabulate 16 (λ a. at (piecewise t) (number_of n a))) a ≡ at (piecewise t) (number_of n a)
    each a l = get_d_tabulate 16 (λ a. at (piecewise t) (number_of n a)) (pos 0) a l

-- a test of each value does not look at their order
sixteen_cells : (n : ℕ) (t : List ℤ) → length (inverse_of n t) ≡ 16
unfolding inverse_of
sixteen_cells n t = refl

pub sixteen_pieces : (t : List ℤ) → length (piecewise t) ≡ 16
unfolding piecewise
sixteen_pieces t = refl

pub every_piece : (f : ℤ → Bool) (n : ℕ) (t : List ℤ) → Number n → T (every f (piecewise t)) ↔ T (every f (inverse_of n t))
every_piece f n t m = (
  (λ p. every_of f (inverse_of n t) (pos 0) (λ a l. let k : a < 16 = omega (arith, sixteen_cells n t) in subst⁻¹ (λ (z : ℤ). T (f z)) (inverse_at n t m a k) (every_at f (piecewise t) (pos 0) p (number_of n a) (omega (arith, sixteen_pieces t, number_below n a m k))))),
  (λ p. every_of f (piecewise t) (pos 0)
      (λ k l.
      let here : k < 16 = omega (arith, sixteen_pieces t) in
      let e : at (inverse_of n t) (cell_at n k) ≡ at (piecewise t) k = inverse_at n t m (cell_at n k) (cell_below n k) ∙ ap (at (piecewise t)) (number_cell n k m here) in
      subst (λ (z : ℤ). T (f z)) e (every_at f (inverse_of n t) (pos 0) p (cell_at n k) (omega (arith, sixteen_cells n t, cell_below n k))))),
)

module _ (h start n : ℕ) (t l : List ℤ) (m : Number n) (tall : 4 ≤ h) (room : start + 3 * h + 3 < length l) where
  abbrev cell : ℕ → ℕ
  cell a = cell_place h start a

  -- no two cells are at one place
  once : (a b : ℕ) → a < 16 → b < 16 → cell a ≡ cell b → a ≡ b
  once a b k j e =
      let q : a / 4 * h + a % 4 ≡ b / 4 * h + b % 4 = omega arith in
      let s = same_place h (a % 4) (a / 4) (b % 4) (b / 4) (omega arith) (omega arith) q in
      omega (arith, s.0, s.1)

  inside : (a : ℕ) → a < 16 → cell a < length l
  inside a k = omega (arith, column_near a h k)

  pub pieces_cells : scatter (λ k. cell (cell_at n k)) (at (piecewise t)) 16 l ≡ scatter cell (at (inverse_of n t)) 16 l
  pieces_cells = ext_get_or (pos 0) _ _ (scatter_length _ _ l 16 ∙ sym (scatter_length _ _ l 16)) (λ x i. go x (found cell x 16))
    where
      by-pieces : List ℤ
      by-pieces = scatter (λ k. cell (cell_at n k)) (at (piecewise t)) 16 l

      by-cells : List ℤ
      by-cells = scatter cell (at (inverse_of n t)) 16 l

      here : (a : ℕ) → a < 16 → get_or by-pieces (cell a) (pos 0) ≡ at (piecewise t) (number_of n a)
      here a k =
          subst (λ (b : ℕ). get_or by-pieces (cell b) (pos 0) ≡ at (piecewise t) (number_of n a)) (cell_number n a m k)
          (scatter_in (λ k. cell (cell_at n k)) (at (piecewise t)) l 16 (number_of n a) (pos 0) (number_below n a m k) (inside (cell_at n (number_of n a)) (cell_below n (number_of n a)))
          (λ j p q e.
          let same = once (cell_at n (number_of n a)) (cell_at n j) (cell_below n (number_of n a)) (cell_below n j) e in
          let number : number_of n a ≡ j = sym (number_cell n (number_of n a) m (number_below n a m k)) ∙ ap (number_of n) same ∙ number_cell n j m q in
          omega arith))

      there : (a : ℕ) → a < 16 → get_or by-cells (cell a) (pos 0) ≡ at (inverse_of n t) a
      there a k = scatter_in cell (at (inverse_of n t)) l 16 a (pos 0) k (inside a k) (λ j p q e. let s = once a j k q e in omega arith)

      go : (x : ℕ) → ((a : ℕ) × (a < 16) × (x ≡ cell a)) ⊎ ((a : ℕ) → a < 16 → x ≡ cell a → ⊥) → get_or by-pieces x (pos 0) ≡ get_or by-cells x (pos 0)
      go x (inl (a, k, e)) = ap (λ (y : ℕ). get_or by-pieces y (pos 0)) e ∙ here a k ∙ sym (inverse_at n t m a k) ∙ sym (there a k) ∙ ap (λ (y : ℕ). get_or by-cells y (pos 0)) (sym e)
      go x (inr f) =
          scatter_out (λ k. cell (cell_at n k)) (at (piecewise t)) l 16 x (pos 0) (λ j q e. f (cell_at n j) (cell_below n j) e)
          ∙ sym (scatter_out cell (at (inverse_of n t)) l 16 x (pos 0) (λ j q e. f j q e))
