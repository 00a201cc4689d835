-- Four shapes that fill the block are a cutting: a cell's name is the number of its shape.
-- Assumes nothing.
use mathlib.Core.Path.{◌≡◌, refl, sym, ap, subst, subst⁻¹, ◌∙◌}
use mathlib.Core.Logic.{◌⊎◌, inl, inr, ◌↔◌}
use mathlib.Core.Bool.{Bool, true, false, not, ◌&&◌, ◌||◌}
use mathlib.Core.List.{List, [], ◌∷◌}
use Prim.Native.Nat.{ℕ, zero, suc, ◌<◌}
use native.Mathlib.Omega.{arith}
use lib.Dec.{T, eqb, eqb→eq, eqb_refl}
use lib.ListN.{length}
use Rattle.coverings.specs.Block.{filter, with_if, cells, Walk, stay, step, Tetromino, part, Cutting, Shapes}
use Rattle.integers.proofs.Tests.{is_true, is_false, or_left, or_right, eq→eqb}
use Rattle.coverings.proofs.Lists.{mem, filter_in, cell_below}

-- Two sets with the same cells are pieces alike.

agree : (a b : Bool) → (T a → T b) → (T b → T a) → a ≡ b
agree true b f g = sym (is_true b (f tt))
agree false b f g = sym (is_false b g)

filter_agree : (s t : ℕ → Bool) (xs : List ℕ) → ((a : ℕ) → T (mem a xs) → s a ≡ t a) → filter s xs ≡ filter t xs
filter_agree s t [] h = refl
filter_agree s t (x ∷ xs) h =
    let e : s x ≡ t x = h x (or_left (eqb x x) (mem x xs) (eqb_refl x)) in
    let es = filter_agree s t xs (λ a m. h a (or_right (eqb a x) (mem a xs) m)) in
    λ i. with_if (e i) x (es i)

walk_agree : (s t : ℕ → Bool) → ((a : ℕ) → a < 16 → T (s a) → T (t a)) → {a b : ℕ} → Walk s a b → Walk t a b
walk_agree s t h stay = stay
walk_agree s t h (step c w l i e) = step c (walk_agree s t h w) l (h c l i) e

piece_agree : (s t : ℕ → Bool) → ((a : ℕ) → a < 16 → T (s a) ↔ T (t a)) → Tetromino s → Tetromino t
piece_agree s t h p =
    record {
      four = ap length (sym (filter_agree s t cells (λ a m. agree (s a) (t a) (h a (cell_below a m)).0 (h a (cell_below a m)).1))) ∙ p.four;
      joined = λ a b ha hb ia ib. walk_agree s t (λ c l. (h c l).0) (p.joined a b ha hb ((h a ha).1 ia) ((h b hb).1 ib));
    }

-- The number of the shape that a cell is in.

abbrev pub choose : Bool → ℕ → ℕ → ℕ
choose true j k = j
choose false j k = k

abbrev pub number_in : (ℕ → ℕ → Bool) → ℕ → ℕ
number_in shape a = choose (shape 0 a) 0 (choose (shape 1 a) 1 (choose (shape 2 a) 2 3))

module _ (shape : ℕ → ℕ → Bool) (f : Shapes shape) where
  -- the cell's own shape has that number
  its : (a : ℕ) → a < 16 → (number_in shape a < 4) × T (shape (number_in shape a) a)
  its a h = go (shape 0 a) (shape 1 a) (shape 2 a) refl refl refl
    where
      other : (j : ℕ) → shape j a ≡ false → T (shape j a) → T (shape 3 a)
      other j e t = absurd (subst T e t)

      third : shape 0 a ≡ false → shape 1 a ≡ false → shape 2 a ≡ false → (k : ℕ) → k < 4 → T (shape k a) → T (shape 3 a)
      third e₀ e₁ e₂ zero l t = other 0 e₀ t
      third e₀ e₁ e₂ (suc zero) l t = other 1 e₁ t
      third e₀ e₁ e₂ (suc (suc zero)) l t = other 2 e₂ t
      third e₀ e₁ e₂ (suc (suc (suc zero))) l t = t
      third e₀ e₁ e₂ (suc (suc (suc (suc k)))) l t = absurd (omega arith)

      go : (b₀ b₁ b₂ : Bool) → shape 0 a ≡ b₀ → shape 1 a ≡ b₁ → shape 2 a ≡ b₂ → (choose b₀ 0 (choose b₁ 1 (choose b₂ 2 3)) < 4) × T (shape (choose b₀ 0 (choose b₁ 1 (choose b₂ 2 3))) a)
      go true b₁ b₂ e₀ e₁ e₂ = (omega arith, subst⁻¹ T e₀ tt)
      go false true b₂ e₀ e₁ e₂ = (omega arith, subst⁻¹ T e₁ tt)
      go false false true e₀ e₁ e₂ = (omega arith, subst⁻¹ T e₂ tt)
      go false false false e₀ e₁ e₂ = let r = f.covered a h in (omega arith, third e₀ e₁ e₂ r.0 r.1 r.2)

  pub iff : (a k : ℕ) → a < 16 → k < 4 → T (shape k a) ↔ (number_in shape a ≡ k)
  iff a k h l = (
    (λ t. f.disjoint a (number_in shape a) k h (its a h).0 l (its a h).1 t),
    (λ e. subst (λ (j : ℕ). T (shape j a)) e (its a h).1),
  )

  pub cutting : Cutting (number_in shape)
  cutting c h =
      let k = number_in shape c in
      let l = (its c h).0 in
      piece_agree (shape k) (part (number_in shape) c)
      (λ a ha. ((λ t. eq→eqb ((iff a k ha l).0 t)), (λ t. (iff a k ha l).1 (eqb→eq (number_in shape a) k t))))
      (f.pieces k l)

  -- a shape has a cell
  pub cell_in : (k : ℕ) → k < 4 → (a : ℕ) × (a < 16) × T (shape k a)
  cell_in k l = go (filter (shape k) cells) refl
    where
      go : (xs : List ℕ) → filter (shape k) cells ≡ xs → (a : ℕ) × (a < 16) × T (shape k a)
      go [] e = absurd (omega (arith, sym (f.pieces k l).four ∙ ap length e))
      go (x ∷ xs) e =
          let m = filter_in (shape k) cells x (subst⁻¹ (λ (l : List ℕ). T (mem x l)) e (or_left (eqb x x) (mem x xs) (eqb_refl x))) in
          (x, cell_below x m.1, m.0)
