-- What runs of stores leave, entry by entry. Assumes nothing.
use mathlib.Core.Path.{◌≡◌, refl, sym, ap, ◌∙◌, subst, subst⁻¹}
use mathlib.Core.List.{List, ◌++◌}
use mathlib.Core.Logic.{⊎_elim}
use Prim.Native.Nat.{ℕ, zero, suc, ◌+◌, ◌*◌, ◌-◌, ◌<◌, ◌≤◌}
use native.Mathlib.Nat.{not-suc-le-zero, eq-or-lt_of_le, le_of_suc-le-suc, mul-le-mul_right, suc-mul}
use native.Mathlib.Omega.{arith}
use lib.Arith.{digits_lt}
use lib.IntN.{ℤ, pos}
use lib.ListN.{length, get_or, take, drop, set, length-set, length-drop}
use lib.Seq.{get_or-set_same, get_or-set_other, paste, paste-zero, paste-suc, get_or-drop}
use Rattle.std.specs.Prelude.{slice_range}
use Rattle.std.proofs.lemmas.List.{length-take-le, take_all}
use Rattle.std.proofs.lemmas.Slice.{put_mid-paste}
use borrow.Rule.Slice.PartMut.{put_mid}
use Rattle.integers.proofs.Index.{same_place}
use Rattle.slices.specs.Stores.{scatter, pasted, columns, rectangles, Room}

module _ {A : Type 0} (g : ℕ → ℕ) (f : ℕ → A) (l : List A) where
  pub scatter_length : (n : ℕ) → length (scatter g f n l) ≡ length l
  unfolding scatter
  scatter_length zero = refl
  scatter_length (suc n) = length-set (scatter g f n l) (g n) (f n) ∙ scatter_length n

  -- a place that is none of them
  pub scatter_out : (n k : ℕ) (d : A) → ((j : ℕ) → j < n → k ≡ g j → ⊥) → get_or (scatter g f n l) k d ≡ get_or l k d
  unfolding scatter
  scatter_out zero k d h = refl
  scatter_out (suc n) k d h = get_or-set_other (scatter g f n l) (g n) k (f n) d (h n (omega arith)) ∙ scatter_out n k d (λ j lt. h j (omega arith))

  -- the place i, where no later one is the same
  pub scatter_in : (n i : ℕ) (d : A) → i < n → g i < length l → ((j : ℕ) → i < j → j < n → g i ≡ g j → ⊥) → get_or (scatter g f n l) (g i) d ≡ f i
  unfolding scatter
  scatter_in zero i d lt r h = absurd (not-suc-le-zero lt)
  scatter_in (suc n) i d lt r h =
      ⊎_elim
      (λ (e : i ≡ n). subst (λ (x : ℕ). get_or (set (scatter g f n l) (g n) (f n)) (g x) d ≡ f x) (sym e)
      (get_or-set_same (scatter g f n l) (g n) (f n) d (omega (arith, scatter_length n, ap g e))))
      (λ (m : i < n). get_or-set_other (scatter g f n l) (g n) (g i) (f n) d (h n m (omega arith)) ∙ scatter_in n i d m r (λ j a b. h j a (omega arith)))
      (eq-or-lt_of_le (le_of_suc-le-suc lt))

-- stores of the same numbers
pub scatter_cong : {A : Type 0} (g : ℕ → ℕ) (f k : ℕ → A) (n : ℕ) (l : List A) → ((i : ℕ) → i < n → f i ≡ k i) → scatter g f n l ≡ scatter g k n l
unfolding scatter
scatter_cong g f k zero l e = refl
scatter_cong g f k (suc n) l e = λ t. set (scatter_cong g f k n l (λ i h. e i (omega arith)) t) (g n) (e n (omega arith) t)

module _ {A : Type 0} (z : A) (from : List A) (first at : ℕ) (to : List A) where
  pub length_pasted : (k : ℕ) → length (pasted z from first at k to) ≡ length to
  unfolding pasted
  length_pasted zero = refl
  length_pasted (suc k) = length-set (pasted z from first at k to) (at + k) (get_or from (first + k) z) ∙ length_pasted k

  pub pasted_out : (k i : ℕ) → (at ≤ i → i < at + k → ⊥) → get_or (pasted z from first at k to) i z ≡ get_or to i z
  unfolding pasted
  pasted_out zero i h = refl
  pasted_out (suc k) i h =
      get_or-set_other (pasted z from first at k to) (at + k) i (get_or from (first + k) z) z (λ e. h (omega arith) (omega arith))
      ∙ pasted_out k i (λ a b. h a (omega arith))

  pub pasted_in : (k i : ℕ) → at + k ≤ length to → i < k → get_or (pasted z from first at k to) (at + i) z ≡ get_or from (first + i) z
  unfolding pasted
  pasted_in zero i f b = absurd (not-suc-le-zero b)
  pasted_in (suc k) i f b =
      let l = pasted z from first at k to in
      ⊎_elim
      (λ (e : i ≡ k).
      subst (λ (x : ℕ). get_or (set l (at + k) (get_or from (first + k) z)) (at + x) z ≡ get_or from (first + x) z) (sym e)
      (get_or-set_same l (at + k) (get_or from (first + k) z) z (omega (arith, length_pasted k))))
      (λ (lt : i < k).
      get_or-set_other l (at + k) (at + i) (get_or from (first + k) z) z (λ e. omega arith) ∙ pasted_in k i (omega arith) lt)
      (eq-or-lt_of_le (le_of_suc-le-suc b))

  -- where there is room it is the library's paste
  pub pasted_paste : (k : ℕ) → at + k ≤ length to → first + k ≤ length from → pasted z from first at k to ≡ paste to at (drop first from) k
  unfolding pasted
  pasted_paste zero f g = paste-zero to at (drop first from)
  pasted_paste (suc k) f g =
      (λ i. set (pasted_paste k (omega arith) (omega arith) i) (at + k) (sym (get_or-drop first from k z) i))
      ∙ paste-suc to at (drop first from) k z (omega arith) (omega (arith, length-drop first from))

-- what a copy of a part of one slice into a part of another leaves
pub pasted_part : {A : Type 0} (z : A) (from : List A) (first at n : ℕ) (to part : List A) → first + n ≤ length from → at + n ≤ length to → part ≡ slice_range from first (first + n)
    → put_mid at (at + n - at) to part ≡ pasted z from first at n to
pasted_part {A = A} z from first at n to part f g e =
    let behind = drop first from in
    let h : first + n - first ≡ n = omega arith in
    let lengths : length (take n behind) ≡ n = length-take-le n behind (omega (arith, length-drop first from)) in
    put_mid-paste at (at + n - at) to part (take n behind) n (e ∙ ap (λ (k : ℕ). take k behind) h) (omega arith) (sym lengths)
    ∙ ap (λ (l : List A). take at to ++ l ++ drop (at + n) to) (take_all n (take n behind) (omega arith))
    ∙ sym (pasted_paste z from first at to n g f)

-- the first m rows of c columns of height h; an entry in row y, column x is x * h + y places further
module _ (from : List ℤ) (h m : ℕ) (small : m ≤ h) (first at : ℕ) (to : List ℤ) where
  pub length_columns : (c : ℕ) → length (columns h m c from first at to) ≡ length to
  unfolding columns
  length_columns zero = refl
  length_columns (suc c) = length_pasted (pos 0) from _ _ (columns h m c from first at to) m ∙ length_columns c

  pub columns_out : (c k : ℕ) → ((y x : ℕ) → y < m → x < c → k ≡ at + (x * h + y) → ⊥) → get_or (columns h m c from first at to) k (pos 0) ≡ get_or to k (pos 0)
  unfolding columns
  columns_out zero k outside = refl
  columns_out (suc c) k outside =
      pasted_out (pos 0) from (first + c * h) (at + c * h) (columns h m c from first at to) m k (λ g l. outside (k - (at + c * h)) c (omega arith) (omega arith) (omega arith))
      ∙ columns_out c k (λ y x g l. outside y x g (omega arith))

  pub columns_in : (c y x : ℕ) → Room h m c at (length to) → y < m → x < c → get_or (columns h m c from first at to) (at + (x * h + y)) (pos 0) ≡ get_or from (first + (x * h + y)) (pos 0)
  unfolding columns
  columns_in zero y x room k l = absurd (not-suc-le-zero l)
  columns_in (suc c) y x room k l =
      let old = columns h m c from first at to in
      ⊎_elim
      (λ (q : x ≡ c).
      subst (λ (x : ℕ). get_or (pasted (pos 0) from (first + c * h) (at + c * h) m old) (at + (x * h + y)) (pos 0) ≡ get_or from (first + (x * h + y)) (pos 0)) (sym q)
      (ap (λ (i : ℕ). get_or (pasted (pos 0) from (first + c * h) (at + c * h) m old) i (pos 0)) (there at (c * h))
      ∙ pasted_in (pos 0) from (first + c * h) (at + c * h) old m y (omega (arith, room c (omega arith), length_columns c)) k
      ∙ ap (λ (i : ℕ). get_or from i (pos 0)) (sym (there first (c * h)))))
      (λ (lt : x < c).
      let d : x * h + y < c * h = digits_lt lt (omega arith) in
      pasted_out (pos 0) from (first + c * h) (at + c * h) old m (at + (x * h + y)) (λ i j. omega arith) ∙ columns_in c y x (λ x g. room x (omega arith)) k lt)
      (eq-or-lt_of_le (le_of_suc-le-suc l))
    where
      there : (i j : ℕ) → i + (j + y) ≡ i + j + y
      there i j = omega arith

-- rows t to t + m of columns c to c + n, where so many columns are there
pub room_at : (h t c m n o : ℕ) → t + m ≤ h → (c + n) * h ≤ o → Room h m n (c * h + t) o
room_at h t c m n o a b x l = omega (arith, mul-le-mul_right h (further l), suc-mul (c + x) h, two c x, two c n)
  where
    further : x < n → c + x < c + n
    further l = omega arith

    two : (i j : ℕ) → (i + j) * h ≡ i * h + j * h
    two i j = omega arith

-- from the front
pub room_front : (h m c n : ℕ) → m ≤ h → c * h ≤ n → Room h m c 0 n
room_front h m c n small room x l = omega (arith, room_at h 0 0 m c n (omega arith) (omega arith) x l)

module _ (from : List ℤ) (h m : ℕ) (small : m ≤ h) (to : List ℤ) where
  pub length_rectangles : (c : ℕ) → length (rectangles h m c from to) ≡ length to
  length_rectangles c = length_columns from h m small 0 0 to c

  pub rectangles_in : (c y x : ℕ) → c * h ≤ length to → x < c → y < m → get_or (rectangles h m c from to) (x * h + y) (pos 0) ≡ get_or from (x * h + y) (pos 0)
  rectangles_in c y x f hx hy =
      let e : x * h + y ≡ 0 + (x * h + y) = omega arith in
      subst⁻¹ (λ (k : ℕ). get_or (rectangles h m c from to) k (pos 0) ≡ get_or from k (pos 0)) e (columns_in from h m small 0 0 to c y x (room_front h m c (length to) small f) hy hx)

  pub rectangles_out : (c y x : ℕ) → y < h → (x < c → y < m → ⊥) → get_or (rectangles h m c from to) (x * h + y) (pos 0) ≡ get_or to (x * h + y) (pos 0)
  rectangles_out c y x hy k =
      columns_out from h m small 0 0 to c (x * h + y)
      (λ v u i j e. let s = same_place h y x v u hy (omega arith) (omega arith) in k (omega (arith, s.1)) (omega (arith, s.0)))
