-- The transform of one block on lists: bounds of its results, the signed sums of a piece, and the order of the labelled cells. Assumes nothing.
use mathlib.Core.Path.{◌≡◌, refl, sym, ap, ◌∙◌}
use mathlib.Core.List.{List, [], ◌∷◌}
use Prim.Native.Nat.{ℕ, zero, suc, ◌+◌, ◌*◌, ◌/◌, ◌%◌, ◌^◌, ◌≤◌, ◌<◌}
use native.Mathlib.Omega.{arith}
use native.Mathlib.Decide.{ℕ_discrete}
use lib.Dec.{T, ltb, ltb→lt}
use lib.IntN.{ℤ, pos, nat_abs}
use lib.ListN.{length, get_or, set}
use lib.Seq.{ext_get_or, get_or-set_same, get_or-set_other}
use mir.Syntax.{w64}
use mir.Val.{to_z, of_z}
use Rattle.integers.proofs.Bound.{sfits64, read}
use Rattle.integers.proofs.Tests.{up_to, up_to_at}
use Rattle.integers.proofs.Tabulate.{get_d_tabulate}
use Rattle.integers.proofs.Index.{column_row, column_col}
use Rattle.coverings.specs.Block.{cells, filter, name_of}
use Rattle.coverings.specs.Words.{word_of}
use Rattle.coverings.specs.Rule.{Number}
use Rattle.block.specs.Block.{sign_row, values_of, shapes_of, place_in, place_of, labels_of, forward, inverse}
use Rattle.tables.specs.Tables.{piece_of, cell_at}
use Rattle.kernel.specs.Kernel.{at, Within, forward_of, inverse_of, four, Bands, piecewise}
use Rattle.block.proofs.Rows.{rows_cong}
use Rattle.block.proofs.Blocks.{row_abs}
use Rattle.block.proofs.Pick.{shape_below}
use Rattle.block.proofs.Words.{label_in, good}
use Rattle.tables.proofs.Entries.{cell_of_law, number_of, number_cell, cell_number, number_below}

-- ---- bounds
-- a caller's block of known numbers, by computation
pub within_test : (b : ℕ) (v : List ℤ) → T (up_to 16 (λ a. ltb (nat_abs (at v a)) b)) → Within b v
within_test b v t a h = let l = ltb→lt (nat_abs (at v a)) b (up_to_at 16 (λ a. ltb (nat_abs (at v a)) b) t a h) in omega arith

pub row_bound : (i : ℕ) (x : ℕ → ℤ) (b : ℕ) → ((k : ℕ) → k < 4 → nat_abs (x k) ≤ b) → nat_abs (sign_row i x) ≤ 4 * b
row_bound i x b h = omega (arith, row_abs i x, h 0 (omega arith), h 1 (omega arith), h 2 (omega arith), h 3 (omega arith))

pub forward_bound : (n b : ℕ) (v : List ℤ) → Within b v → (k s : ℕ) → nat_abs (forward (word_of n) (at v) k s) ≤ 4 * b
unfolding forward
forward_bound n b v h k s =
    let shape = shapes_of (word_of n) (place_in s (labels_of (word_of n))) in
    row_bound k (values_of shape (at v)) b (λ i l. h (get_or (filter shape cells) i 0) (shape_below shape i))

-- a piece's values from results
back_bound : (b : ℕ) (t : List ℤ) → Within b t → (i s : ℕ) → s < 4 → nat_abs (sign_row i (λ k. at t (k * 4 + s))) ≤ 4 * b
back_bound b t h i s l = row_bound i (λ k. at t (k * 4 + s)) b (λ k g. h (k * 4 + s) (omega arith))

pub forward_within : (n b : ℕ) (v : List ℤ) → Within b v → Within (4 * b) (forward_of n v)
unfolding forward_of
forward_within n b v h k l = rw (get_d_tabulate 16 (λ k. forward (word_of n) (at v) (k / 4) (k % 4)) (pos 0) k l) (forward_bound n b v h (k / 4) (k % 4))

pub inverse_within : (n b : ℕ) (t : List ℤ) → Number n → Within b t → Within (4 * b) (inverse_of n t)
unfolding inverse_of inverse
inverse_within n b t m h a l =
    let s = label_in (labels_of (word_of n)) (name_of (word_of n) a) in
    let g = good n m in
    let below : s < 4 = g.labels.below (name_of (word_of n) a) (g.cells.named a l) in
    rw (get_d_tabulate 16 (λ a. inverse (word_of n) (λ b s. at t (b * 4 + s)) a) (pos 0) a l) (back_bound b t h (place_of (word_of n) a) s below)

-- ---- the signed sums of four numbers
pub four_is : (x : ℕ → ℤ) {a b c d : ℤ} → a ≡ x 0 → b ≡ x 1 → c ≡ x 2 → d ≡ x 3 → (i : ℕ) → i < 4 → four a b c d i ≡ x i
four_is x e f g h zero l = e
four_is x e f g h (suc zero) l = f
four_is x e f g h (suc (suc zero)) l = g
four_is x e f g h (suc (suc (suc zero))) l = h
four_is x e f g h (suc (suc (suc (suc i)))) l = absurd (omega arith)

pub four_small : (b : ℕ) (p q s t : ℤ) → nat_abs p ≤ b → nat_abs q ≤ b → nat_abs s ≤ b → nat_abs t ≤ b → (i : ℕ) → i < 4 → nat_abs (four p q s t i) ≤ b
four_small b p q s t e f g h zero l = e
four_small b p q s t e f g h (suc zero) l = f
four_small b p q s t e f g h (suc (suc zero)) l = g
four_small b p q s t e f g h (suc (suc (suc zero))) l = h
four_small b p q s t e f g h (suc (suc (suc (suc i)))) l = absurd (omega arith)

pub summed : (x : ℕ → ℤ) {a b c d low w1 w2 w3 : ℤ} → a ≡ x 0 → b ≡ x 1 → c ≡ x 2 → d ≡ x 3 → Bands (λ k. sign_row k (four a b c d)) low w1 w2 w3 → Bands (λ k. sign_row k x) low w1 w2 w3
summed x {a} {b} {c} {d} e f g h r = record {
  zeroth = r.zeroth ∙ rows_cong 0 (four a b c d) x (four_is x e f g h);
  first = r.first ∙ rows_cong 1 (four a b c d) x (four_is x e f g h);
  second = r.second ∙ rows_cong 2 (four a b c d) x (four_is x e f g h);
  third = r.third ∙ rows_cong 3 (four a b c d) x (four_is x e f g h);
}

-- what is read of a number's bits
abbrev pub r : ℤ → ℤ
r x = to_z w64 (of_z w64 x)

pub kept_within : (v : List ℤ) → Within (2 ^ 40) v → (a : ℕ) → a < 16 → to_z w64 (of_z w64 (at v a)) ≡ at v a
kept_within v h a l = read w64 refl (sfits64 (at v a) (omega (arith, h a l)))

pub small_within : (v : List ℤ) → Within (2 ^ 40) v → (a : ℕ) → a < 16 → nat_abs (to_z w64 (of_z w64 (at v a))) ≤ 2 ^ 40
small_within v h a l = rw (kept_within v h a l) (h a l)

kept_bands : (f : ℕ → ℤ) → ((k : ℕ) → nat_abs (f k) ≤ 4 * 2 ^ 40) → {a b c d : ℤ} → Bands f a b c d → Bands f (to_z w64 (of_z w64 a)) (to_z w64 (of_z w64 b)) (to_z w64 (of_z w64 c)) (to_z w64 (of_z w64 d))
kept_bands f h q = record {
  zeroth = read w64 q.zeroth (sfits64 (f 0) (omega (arith, h 0)));
  first = read w64 q.first (sfits64 (f 1) (omega (arith, h 1)));
  second = read w64 q.second (sfits64 (f 2) (omega (arith, h 2)));
  third = read w64 q.third (sfits64 (f 3) (omega (arith, h 3)));
}

-- an absolute signed sum, as its bits give it
pub read_row : (x : ℕ → ℤ) → ((i : ℕ) → i < 4 → nat_abs (x i) ≤ 2 ^ 40) → (k : ℕ) {w : ℤ} → w ≡ sign_row k x → (nat_abs (r w) ≡ nat_abs (sign_row k x)) × (nat_abs (sign_row k x) ≤ 4 * 2 ^ 40)
read_row x h k e =
    let bound = row_bound k x (2 ^ 40) h in
    (ap nat_abs (read w64 e (sfits64 (sign_row k x) (omega arith))), bound)

-- ---- forward: the cells of a piece, and the four pieces
pub piece_value : (n s i k a : ℕ) (v : List ℤ) → Within (2 ^ 40) v → k ≡ s * 4 + i → i < 4 → (a ≡ cell_at n k) × (a < 16)
    → to_z w64 (of_z w64 (at v a)) ≡ at v (get_or (piece_of (word_of n) (place_in s (labels_of (word_of n)))) i 0)
piece_value n s i k a v h e l p = kept_within v h a p.1 ∙ ap (at v) (p.0 ∙ ap (cell_at n) e ∙ cell_of_law n s i l)

module _ (n : ℕ) (v : List ℤ) (h : Within (2 ^ 40) v) where
  abbrev Band : ℕ → ℤ → ℤ → ℤ → ℤ → Type 0
  Band s = Bands (λ b. forward (word_of n) (at v) b s)

  kept_forward : (s : ℕ) {a b c d : ℤ} → Band s a b c d → Band s (to_z w64 (of_z w64 a)) (to_z w64 (of_z w64 b)) (to_z w64 (of_z w64 c)) (to_z w64 (of_z w64 d))
  kept_forward s q = kept_bands (λ b. forward (word_of n) (at v) b s) (λ k. forward_bound n (2 ^ 40) v h k s) q

  pub four_pieces : {a0 a1 a2 a3 b0 b1 b2 b3 c0 c1 c2 c3 d0 d1 d2 d3 : ℤ} → Band 0 a0 a1 a2 a3 → Band 1 b0 b1 b2 b3 → Band 2 c0 c1 c2 c3 → Band 3 d0 d1 d2 d3 →
      (r a0 ∷ r b0 ∷ r c0 ∷ r d0 ∷ r a1 ∷ r b1 ∷ r c1 ∷ r d1 ∷ r a2 ∷ r b2 ∷ r c2 ∷ r d2 ∷ r a3 ∷ r b3 ∷ r c3 ∷ r d3 ∷ []) ≡ forward_of n v
  unfolding forward_of
  four_pieces a b c d =
      let p = kept_forward 0 a in
      let q = kept_forward 1 b in
      let m = kept_forward 2 c in
      let s = kept_forward 3 d in
      λ t. p.zeroth t ∷ q.zeroth t ∷ m.zeroth t ∷ s.zeroth t ∷ p.first t ∷ q.first t ∷ m.first t ∷ s.first t
      ∷ p.second t ∷ q.second t ∷ m.second t ∷ s.second t ∷ p.third t ∷ q.third t ∷ m.third t ∷ s.third t ∷ []

-- ---- inverse: the four pieces, and the cells in their order
module _ (t : List ℤ) (h : Within (2 ^ 40) t) where
  abbrev Back : ℕ → ℤ → ℤ → ℤ → ℤ → Type 0
  Back s = Bands (λ i. sign_row i (λ b. at t (b * 4 + s)))

  kept_back : (s : ℕ) → s < 4 → {a b c d : ℤ} → Back s a b c d → Back s (to_z w64 (of_z w64 a)) (to_z w64 (of_z w64 b)) (to_z w64 (of_z w64 c)) (to_z w64 (of_z w64 d))
  kept_back s l q = kept_bands (λ i. sign_row i (λ b. at t (b * 4 + s))) (λ k. back_bound (2 ^ 40) t h k s l) q

  pub four_backs : {a0 a1 a2 a3 b0 b1 b2 b3 c0 c1 c2 c3 d0 d1 d2 d3 : ℤ} → Back 0 a0 a1 a2 a3 → Back 1 b0 b1 b2 b3 → Back 2 c0 c1 c2 c3 → Back 3 d0 d1 d2 d3 →
      (r a0 ∷ r a1 ∷ r a2 ∷ r a3 ∷ r b0 ∷ r b1 ∷ r b2 ∷ r b3 ∷ r c0 ∷ r c1 ∷ r c2 ∷ r c3 ∷ r d0 ∷ r d1 ∷ r d2 ∷ r d3 ∷ []) ≡ piecewise t
  unfolding piecewise
  four_backs a b c d =
      let p = kept_back 0 (omega arith) a in
      let q = kept_back 1 (omega arith) b in
      let m = kept_back 2 (omega arith) c in
      let s = kept_back 3 (omega arith) d in
      λ i. p.zeroth i ∷ p.first i ∷ p.second i ∷ p.third i ∷ q.zeroth i ∷ q.first i ∷ q.second i ∷ q.third i
      ∷ m.zeroth i ∷ m.first i ∷ m.second i ∷ m.third i ∷ s.zeroth i ∷ s.first i ∷ s.second i ∷ s.third i ∷ []

-- one more cell has its value
pub put_more : (n k : ℕ) (labelled values : List ℤ) (cell : ℕ) (x : ℤ) → Number n → k < 16 → length values ≡ 16 → (cell ≡ cell_at n k) × (cell < 16) → x ≡ at labelled k
    → ((a : ℕ) → a < 16 → number_of n a < k → at values a ≡ at labelled (number_of n a))
    → (a : ℕ) → a < 16 → number_of n a < k + 1 → at (set values cell x) a ≡ at labelled (number_of n a)
put_more n k labelled values cell x m l len c e inv a h g = by (ℕ_discrete a cell)
  where
    by : Dec (a ≡ cell) → at (set values cell x) a ≡ at labelled (number_of n a)
    by (yes q) =
        let here : number_of n a ≡ k = ap (number_of n) (q ∙ c.0) ∙ number_cell n k m l in
        ap (λ (b : ℕ). at (set values cell x) b) q ∙ get_or-set_same values cell x (pos 0) (omega arith) ∙ e ∙ ap (at labelled) (sym here)
    by (no q) =
        let other : number_of n a ≡ k → ⊥ = (λ w. q (sym (cell_number n a m h) ∙ ap (cell_at n) w ∙ sym c.0)) in
        get_or-set_other values cell a x (pos 0) q ∙ inv a h (omega (arith, other))

-- all have
pub put_all : (n : ℕ) (t values : List ℤ) → Number n → length values ≡ 16 → ((a : ℕ) → a < 16 → at values a ≡ at (piecewise t) (number_of n a)) → values ≡ inverse_of n t
unfolding inverse_of piecewise inverse number_of
put_all n t values m len h =
    ext_get_or (pos 0) values (inverse_of n t) len (λ a l.
    let below : a < 16 = omega arith in
    h a below
    ∙ get_d_tabulate 16 (λ k. sign_row (k % 4) (λ b. at t (b * 4 + k / 4))) (pos 0) (number_of n a) (number_below n a m below)
    ∙ rw (column_col (label_in (labels_of (word_of n)) (name_of (word_of n) a)) (place_of (word_of n) a) 4 ((good n m).cells.placed a below), column_row (label_in (labels_of (word_of n)) (name_of (word_of n) a)) (place_of (word_of n) a) 4 ((good n m).cells.placed a below)) refl
    ∙ sym (get_d_tabulate 16 (λ a. inverse (word_of n) (λ b s. at t (b * 4 + s)) a) (pos 0) a below))
