-- One cell: the sign of a difference by two tests, sums as the machine computes them, and the gradient by the entries of a slice. Assumes nothing.
use mathlib.Core.Path.{◌≡◌, refl, sym, ap, ◌∙◌}
use mathlib.Core.List.{List, [], ◌∷◌}
use Prim.Native.Nat.{ℕ, zero, suc, ◌+◌, ◌*◌, ◌-◌, ◌^◌, ◌<◌, ◌≤◌}
use native.Mathlib.Nat.{add-mul, zero-mul, le_refl, mul-le-mul}
use native.Mathlib.Numerals.{add-one}
use native.Mathlib.Decide.{dec_lt}
use native.Mathlib.Omega.{arith}
use mathlib.Core.Bool.{Bool, true, false, not, cond, ◌||◌}
use lib.Dec.{ltb}
use lib.IntN.{ℤ, pos, negsuc, nat_abs, ◌+ℤ◌, ◌-ℤ◌, ◌*ℤ◌}
use lib.ListN.{length, get_or, set}
use lib.Signed.{mag, lt_z}
use mir.Syntax.{w64}
use mir.Val.{SFits, to_z, of_z}
use Rattle.integers.specs.Zero.{is_zero}
use Rattle.integers.proofs.Bound.{sfits64, read, abs_sub, abs_mul}
use Rattle.integers.proofs.Signs.{kept}
use Rattle.integers.proofs.Laws.{pp, nn, Rep, rep, rep_dif}
use Rattle.integers.proofs.Lin.{lt_yes, lt_no}
use Rattle.integers.proofs.Machine.{raw, rd, Vars, none, var, arg, fits!, reads! }
use Rattle.integers.proofs.Ring.{v, k, ◌⊕◌, ◌⊖◌, ◌⊗◌}
use Rattle.integers.proofs.Tests.{false_at}
use Rattle.integers.specs.Lists.{half}
use Rattle.integers.proofs.Half.{half_store, half_end}
use Rattle.integers.proofs.Index.{index_bound}
use Rattle.pyramid.specs.Plane.{Image}
use Rattle.pyramid.specs.Slices.{image_of, slice_of}
use Rattle.pyramid.proofs.Slices.{image_slice, slice_length}
use Rattle.synthesis.proofs.Counted.{cast_pos}
use Rattle.variation.specs.Smooth.{sign_of, against, gradient}
use Rattle.variation.proofs.Sizes.{sign_abs}
use Rattle.smoothing.specs.Mixed.{mixed_entry}

-- ---- the sign of a difference
negative : (z : ℤ) {a b : ℕ} → Rep z a b → a < b → negsuc 0 ≡ sign_of z
unfolding sign_of
negative (pos n) r l = absurd (omega arith)
negative (negsuc n) r l = refl

positive : (z : ℤ) {a b : ℕ} → Rep z a b → b < a → pos 1 ≡ sign_of z
unfolding sign_of
positive (pos zero) r l = absurd (omega arith)
positive (pos (suc n)) r l = refl
positive (negsuc n) r l = absurd (omega arith)

neither : (z : ℤ) {a b : ℕ} → Rep z a b → a ≡ b → pos 0 ≡ sign_of z
unfolding sign_of
neither (pos zero) r e = refl
neither (pos (suc n)) r e = absurd (omega arith)
neither (negsuc n) r e = absurd (omega arith)

module _ (a b : ℤ) where
  difference : Rep (a -ℤ b) (pp a + nn b) (nn a + pp b)
  difference = rep_dif (rep a) (rep b)

  pub less : lt_z a b ≡ true → negsuc 0 ≡ sign_of (a -ℤ b)
  less t = negative (a -ℤ b) difference (omega (arith, lt_yes a b t))

  pub more : lt_z b a ≡ true → pos 1 ≡ sign_of (a -ℤ b)
  more t = positive (a -ℤ b) difference (omega (arith, lt_yes b a t))

  pub same : lt_z a b ≡ false → lt_z b a ≡ false → pos 0 ≡ sign_of (a -ℤ b)
  same s t = neither (a -ℤ b) difference (omega (arith, lt_no a b s, lt_no b a t))

-- what `sign` gives of two entries that were read from a slice
pub read_sign : (x y : ℤ) {r : ℤ} → mag x < 2 ^ 63 → mag y < 2 ^ 63 → r ≡ sign_of (to_z w64 (of_z w64 x) -ℤ to_z w64 (of_z w64 y)) → to_z w64 (of_z w64 r) ≡ sign_of (x -ℤ y)
read_sign x y f g e = read w64 (e ∙ λ i. sign_of (kept {x = x} f i -ℤ kept {x = y} g i)) (sfits64 (sign_of (x -ℤ y)) (omega (arith, sign_abs (x -ℤ y))))

-- twice the sum of four such numbers, as the machine computes it: p to s, which were given back as a to d
module _ {a b c d : ℤ} (p q r s : ℤ) (a-is : a ≡ p) (b-is : b ≡ q) (c-is : c ≡ r) (d-is : d ≡ s) (i : nat_abs p ≤ 1) (j : nat_abs q ≤ 1) (m : nat_abs r ≤ 1) (n : nat_abs s ≤ 1) where
  given : {z y : ℤ} → z ≡ y → nat_abs y ≤ 1 → to_z w64 (of_z w64 z) ≡ y
  given {z} {y} e l = read w64 e (sfits64 y (omega arith))

  vars : Vars (to_z w64 (of_z w64 a) ∷ to_z w64 (of_z w64 b) ∷ to_z w64 (of_z w64 c) ∷ to_z w64 (of_z w64 d) ∷ []) (p ∷ q ∷ r ∷ s ∷ []) (1 ∷ 1 ∷ 1 ∷ 1 ∷ [])
  vars = var (given a-is i) i (var (given b-is j) j (var (given c-is m) m (var (given d-is n) n none)))

  pub two_fit : SFits w64 (raw w64 (v 0 ⊕ v 1) (to_z w64 (of_z w64 a) ∷ to_z w64 (of_z w64 b) ∷ to_z w64 (of_z w64 c) ∷ to_z w64 (of_z w64 d) ∷ []))
  two_fit = fits! w64 (v 0 ⊕ v 1) vars tt

  pub three_fit : SFits w64 (raw w64 (v 0 ⊕ v 1 ⊕ v 2) (to_z w64 (of_z w64 a) ∷ to_z w64 (of_z w64 b) ∷ to_z w64 (of_z w64 c) ∷ to_z w64 (of_z w64 d) ∷ []))
  three_fit = fits! w64 (v 0 ⊕ v 1 ⊕ v 2) vars tt

  pub four_fit : SFits w64 (raw w64 (v 0 ⊕ v 1 ⊕ v 2 ⊕ v 3) (to_z w64 (of_z w64 a) ∷ to_z w64 (of_z w64 b) ∷ to_z w64 (of_z w64 c) ∷ to_z w64 (of_z w64 d) ∷ []))
  four_fit = fits! w64 (v 0 ⊕ v 1 ⊕ v 2 ⊕ v 3) vars tt

  pub twice_fit : SFits w64 (raw w64 (k (pos 2) ⊗ (v 0 ⊕ v 1 ⊕ v 2 ⊕ v 3)) (to_z w64 (of_z w64 a) ∷ to_z w64 (of_z w64 b) ∷ to_z w64 (of_z w64 c) ∷ to_z w64 (of_z w64 d) ∷ []))
  twice_fit = fits! w64 (k (pos 2) ⊗ (v 0 ⊕ v 1 ⊕ v 2 ⊕ v 3)) vars tt

  pub twice_is : rd w64 (k (pos 2) ⊗ (v 0 ⊕ v 1 ⊕ v 2 ⊕ v 3)) (to_z w64 (of_z w64 a) ∷ to_z w64 (of_z w64 b) ∷ to_z w64 (of_z w64 c) ∷ to_z w64 (of_z w64 d) ∷ []) ≡ pos 2 *ℤ (p +ℤ q +ℤ r +ℤ s)
  twice_is = reads! w64 (k (pos 2) ⊗ (v 0 ⊕ v 1 ⊕ v 2 ⊕ v 3)) vars tt

-- 16 z less n times d, where d was given back as m
module _ (z : ℤ) (n : ℕ) {m : ℤ} (d : ℤ) (f : SFits w64 z) (i : nat_abs z ≤ 2 ^ 40) (l : n ≤ 255) (m_is : m ≡ d) (j : nat_abs d ≤ 2 ^ 40) where
  abbrev read_of : List ℤ
  read_of = to_z w64 (of_z w64 z) ∷ to_z w64 n ∷ to_z w64 (of_z w64 m) ∷ []

  entry_vars : Vars read_of (z ∷ pos n ∷ d ∷ []) (1099511627776 ∷ 255 ∷ 1099511627776 ∷ [])
  entry_vars = arg f i (var (cast_pos n (omega arith)) l (var (read w64 m_is (sfits64 d (omega arith))) j none))

  pub entry_first : SFits w64 (raw w64 (k (pos 16) ⊗ v 0) read_of)
  entry_first = fits! w64 (k (pos 16) ⊗ v 0) entry_vars tt

  pub entry_second : SFits w64 (raw w64 (v 1 ⊗ v 2) read_of)
  entry_second = fits! w64 (v 1 ⊗ v 2) entry_vars tt

  pub entry_fit : SFits w64 (raw w64 (k (pos 16) ⊗ v 0 ⊖ v 1 ⊗ v 2) read_of)
  entry_fit = fits! w64 (k (pos 16) ⊗ v 0 ⊖ v 1 ⊗ v 2) entry_vars tt

  pub entry_is : rd w64 (k (pos 16) ⊗ v 0 ⊖ v 1 ⊗ v 2) read_of ≡ pos 16 *ℤ z -ℤ pos n *ℤ d
  entry_is = reads! w64 (k (pos 16) ⊗ v 0 ⊖ v 1 ⊗ v 2) entry_vars tt

pub entry_small : (p : ℕ) (low : Bool) (z d : ℤ) → p ≤ 255 → nat_abs z ≤ 2 ^ 40 → nat_abs d ≤ 2 ^ 40 → SFits w64 (mixed_entry p low z d)
entry_small p low z d l i j = go (low || not (is_zero z))
  where
    go : (b : Bool) → SFits w64 (pos 16 *ℤ z -ℤ pos p *ℤ cond b (pos 0) d)
    go b =
        let m : nat_abs (cond b (pos 0) d) ≤ 2 ^ 40 = most b in
        sfits64 (pos 16 *ℤ z -ℤ pos p *ℤ cond b (pos 0) d)
        (omega (arith, abs_sub (pos 16 *ℤ z) (pos p *ℤ cond b (pos 0) d), abs_mul (pos 16) z, abs_mul (pos p) (cond b (pos 0) d), mul-le-mul l m))
      where
        most : (b : Bool) → nat_abs (cond b (pos 0) d) ≤ 2 ^ 40
        most true = omega arith
        most false = j

-- ---- a column that is stored entry by entry, of the image A
pub column_store : (h w : ℕ) (A : Image) (col row : ℕ) → col < w → row < h → {v : ℤ} → v ≡ A row col → (old : List ℤ) → length old ≡ w * h → {out : List ℤ} → out ≡ half (slice_of h w A) old (col * h + row)
    → set out (col * h + row) v ≡ half (slice_of h w A) old (col * h + (row + 1))
column_store h w A col row i j e old n f =
    let q : col * h + row + 1 ≡ col * h + (row + 1) = omega arith in
    half_store (slice_of h w A) old (col * h + row) (pos 0) f (e ∙ sym (image_slice h w A row col j i)) (slice_length h w A ∙ sym n) (omega (arith, index_bound col row w h i j))
    ∙ ap (half (slice_of h w A) old) q

-- column by column: none, one more, and all of them
pub columns_none : (h : ℕ) (new old : List ℤ) → old ≡ half new old (0 * h)
columns_none h new old = ap (half new old) (sym (zero-mul h))

pub columns_next : (h col : ℕ) (new old : List ℤ) {out : List ℤ} → out ≡ half new old (col * h + h) → out ≡ half new old ((col + 1) * h)
columns_next h col new old e =
    let q : col * h + h ≡ (col + 1) * h = rw (add-mul col 1 h) (omega arith) in
    e ∙ ap (half new old) q

pub columns_all : (h w col : ℕ) (A : Image) (old : List ℤ) → length old ≡ w * h → {out : List ℤ} → col ≡ w → out ≡ half (slice_of h w A) old (col * h) → out ≡ slice_of h w A
columns_all h w col A old n i e = e ∙ half_end (slice_of h w A) old (col * h) (slice_length h w A ∙ sym n) (rw (i, n) (le_refl (w * h)))

-- ---- a cell and its four neighbours, in a slice of height h
module _ (h w : ℕ) (l : List ℤ) (y x : ℕ) where
  abbrev toward : ℕ → ℤ
  toward n = get_or l n (pos 0)

  above : against (ltb 0 y) (toward (x * h + y)) (toward (x * h + y - 1)) ≡ against (ltb 0 y) (image_of h l y x) (image_of h l (y - 1) x)
  above = go (dec_lt 0 y)
    where
      go : Dec (0 < y) → against (ltb 0 y) (toward (x * h + y)) (toward (x * h + y - 1)) ≡ against (ltb 0 y) (image_of h l y x) (image_of h l (y - 1) x)
      go (yes i) =
          let e : x * h + y - 1 ≡ x * h + (y - 1) = omega arith in
          ap (λ (n : ℕ). against (ltb 0 y) (toward (x * h + y)) (toward n)) e
      go (no i) = rw (false_at 0 y (omega arith)) refl

  below : against (ltb (y + 1) h) (toward (x * h + y)) (toward (x * h + y + 1)) ≡ against (ltb (suc y) h) (image_of h l y x) (image_of h l (suc y) x)
  below =
      let e : x * h + y + 1 ≡ x * h + suc y = omega arith in
      λ i. against (ltb (add-one y i) h) (toward (x * h + y)) (toward (e i))

  before : against (ltb 0 x) (toward (x * h + y)) (toward (x * h + y - h)) ≡ against (ltb 0 x) (image_of h l y x) (image_of h l y (x - 1))
  before = go x
    where
      go : (x : ℕ) → against (ltb 0 x) (toward (x * h + y)) (toward (x * h + y - h)) ≡ against (ltb 0 x) (image_of h l y x) (image_of h l y (x - 1))
      go zero = refl
      go (suc x) = ap (λ (n : ℕ). against (ltb 0 (suc x)) (toward (suc x * h + y)) (toward n)) (less_one (suc x) x (suc x - 1) (omega arith) (omega arith))
        where
          less_one : (a b c : ℕ) → a ≡ b + 1 → c ≡ b → a * h + y - h ≡ c * h + y
          less_one a b c e f = rw (e, f, add-mul b 1 h) (omega arith)

  behind : against (ltb (x + 1) w) (toward (x * h + y)) (toward (x * h + y + h)) ≡ against (ltb (suc x) w) (image_of h l y x) (image_of h l y (suc x))
  behind = λ i. against (ltb (add-one x i) w) (toward (x * h + y)) (toward (one_more (suc x) (omega arith) i))
    where
      one_more : (a : ℕ) → a ≡ x + 1 → x * h + y + h ≡ a * h + y
      one_more a e = rw (e, add-mul x 1 h) (omega arith)

  pub slope_is : {a b c d : ℤ}
      → a ≡ against (ltb 0 y) (toward (x * h + y)) (toward (x * h + y - 1)) → b ≡ against (ltb (y + 1) h) (toward (x * h + y)) (toward (x * h + y + 1))
      → c ≡ against (ltb 0 x) (toward (x * h + y)) (toward (x * h + y - h)) → d ≡ against (ltb (x + 1) w) (toward (x * h + y)) (toward (x * h + y + h))
      → pos 2 *ℤ (a +ℤ b +ℤ c +ℤ d) ≡ gradient h w (image_of h l) y x
  unfolding gradient
  slope_is p q r s = λ i. pos 2 *ℤ ((p ∙ above) i +ℤ (q ∙ below) i +ℤ (r ∙ before) i +ℤ (s ∙ behind) i)
