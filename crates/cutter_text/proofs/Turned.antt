-- Rows stored in turn are the picture, down columns. Assumes nothing.
use mathlib.Core.Path.{◌≡◌, refl, sym, ap, ◌∙◌}
use mathlib.Core.List.{List, [], ◌∷◌, map}
use Prim.Native.Nat.{ℕ, zero, suc, ◌+◌, ◌*◌, ◌/◌, ◌%◌, ◌<◌, ◌≤◌}
use native.Mathlib.Omega.{arith}
use native.Mathlib.Nat.{div-add-mod'}
use lib.IntN.{ℤ, pos, nat_abs}
use lib.ListN.{length, get_or, set, length-set, length-map, get_or-map}
use lib.Seq.{ext_get_or, get_or-set_same, get_or-set_other}
use Rattle.integers.proofs.Index.{index_bound, index_place, column_row, column_col}
use Rattle.integers.proofs.Tabulate.{length_tabulate, get_d_tabulate}
use Rattle.text.specs.Text.{FitsRow, FitsRows}
use Rattle.cutter_text.specs.Forms.{plains}
use Rattle.cutter_text.specs.Picture.{sample_at, picture_in}
use Rattle.cutter_text.specs.Rows.{held_to, row_in, rows_in}

-- rows of w values
pub fits_length : (w : ℕ) (r : List ℤ) → FitsRow (plains w) r → length r ≡ w
unfolding FitsRow
fits_length zero [] f = refl
fits_length zero (v ∷ vs) f = absurd f
fits_length (suc w) [] f = absurd f
fits_length (suc w) (v ∷ vs) f = ap suc (fits_length w vs f.1)

pub fits_at : (w : ℕ) (rs : List (List ℤ)) → FitsRows (plains w) rs → (i : ℕ) → i < length rs → length (get_or rs i []) ≡ w
unfolding FitsRows
fits_at w [] f i l = absurd (omega arith)
fits_at w (r ∷ rs) f zero l = fits_length w r f.0
fits_at w (r ∷ rs) f (suc i) l = fits_at w rs f.1 i (omega arith)

pub length_row : (h y x : ℕ) (vs : List ℤ) (out : List ℕ) → length (row_in h y x vs out) ≡ length out
unfolding row_in
length_row h y x [] out = refl
length_row h y x (v ∷ vs) out = length_row h y (suc x) vs (set out (x * h + y) (held_to (nat_abs v))) ∙ length-set out (x * h + y) (held_to (nat_abs v))

pub length_rows : (h y : ℕ) (rs : List (List ℤ)) (out : List ℕ) → length (rows_in h y rs out) ≡ length out
unfolding rows_in
length_rows h y [] out = refl
length_rows h y (r ∷ rs) out = length_rows h (suc y) rs (row_in h y 0 r out) ∙ length_row h y 0 r out

-- a place of another row
row_other : (h y x : ℕ) (vs : List ℤ) (out : List ℕ) (k : ℕ) → ((z : ℕ) → k ≡ z * h + y → ⊥) → get_or (row_in h y x vs out) k 0 ≡ get_or out k 0
unfolding row_in
row_other h y x [] out k a = refl
row_other h y x (v ∷ vs) out k a =
    row_other h y (suc x) vs (set out (x * h + y) (held_to (nat_abs v))) k a ∙ get_or-set_other out (x * h + y) k (held_to (nat_abs v)) 0 (a x)

-- an earlier column
row_before : (h y x : ℕ) (vs : List ℤ) (out : List ℕ) (c : ℕ) → y < h → c < x → get_or (row_in h y x vs out) (c * h + y) 0 ≡ get_or out (c * h + y) 0
unfolding row_in
row_before h y x [] out c l b = refl
row_before h y x (v ∷ vs) out c l b =
    row_before h y (suc x) vs (set out (x * h + y) (held_to (nat_abs v))) c l (omega arith)
    ∙ get_or-set_other out (x * h + y) (c * h + y) (held_to (nat_abs v)) 0
    (λ e. let z : c ≡ x = sym (column_col c y h l) ∙ ap (λ (k : ℕ). k / h) e ∙ column_col x y h l in omega arith)

row_at : (h w y x d : ℕ) (vs : List ℤ) (out : List ℕ) → y < h → x + length vs ≤ w → length out ≡ w * h → d < length vs
    → get_or (row_in h y x vs out) ((x + d) * h + y) 0 ≡ held_to (nat_abs (get_or vs d (pos 0)))
unfolding row_in
row_at h w y x d [] out l b k a = absurd (omega arith)
row_at h w y x zero (v ∷ vs) out l b k a =
    let e : x + 0 ≡ x = omega arith in
    ap (λ (z : ℕ). get_or (row_in h y (suc x) vs (set out (x * h + y) (held_to (nat_abs v)))) (z * h + y) 0) e
    ∙ row_before h y (suc x) vs (set out (x * h + y) (held_to (nat_abs v))) x l (omega arith)
    ∙ get_or-set_same out (x * h + y) (held_to (nat_abs v)) 0 (omega (arith, index_bound x y w h (omega arith) l))
row_at h w y x (suc d) (v ∷ vs) out l b k a =
    let e : x + suc d ≡ suc x + d = omega arith in
    ap (λ (z : ℕ). get_or (row_in h y (suc x) vs (set out (x * h + y) (held_to (nat_abs v)))) (z * h + y) 0) e
    ∙ row_at h w y (suc x) d vs (set out (x * h + y) (held_to (nat_abs v))) l (omega arith) (length-set out (x * h + y) (held_to (nat_abs v)) ∙ k) (omega arith)

rows_before : (h y : ℕ) (rs : List (List ℤ)) (out : List ℕ) (c d : ℕ) → y + length rs ≤ h → d < y → get_or (rows_in h y rs out) (c * h + d) 0 ≡ get_or out (c * h + d) 0
unfolding rows_in
rows_before h y [] out c d b l = refl
rows_before h y (r ∷ rs) out c d b l =
    rows_before h (suc y) rs (row_in h y 0 r out) c d (omega arith) (omega arith)
    ∙ row_other h y 0 r out (c * h + d)
    (λ z e. let q : d ≡ y = sym (column_row c d h (omega arith)) ∙ ap (λ (k : ℕ). k % h) e ∙ column_row z y h (omega arith) in omega arith)

rows_at : (h w y d : ℕ) (rs : List (List ℤ)) (out : List ℕ) (c : ℕ) → y + length rs ≤ h → length out ≡ w * h → c < w → d < length rs → ((i : ℕ) → i < length rs → length (get_or rs i []) ≡ w)
    → get_or (rows_in h y rs out) (c * h + (y + d)) 0 ≡ held_to (nat_abs (get_or (get_or rs d []) c (pos 0)))
unfolding rows_in
rows_at h w y d [] out c b k l a f = absurd (omega arith)
rows_at h w y zero (r ∷ rs) out c b k l a f =
    let e : y + 0 ≡ y = omega arith in
    let g : 0 + c ≡ c = omega arith in
    let z : length r ≡ w = f 0 (omega arith) in
    ap (λ (z : ℕ). get_or (rows_in h (suc y) rs (row_in h y 0 r out)) (c * h + z) 0) e
    ∙ rows_before h (suc y) rs (row_in h y 0 r out) c y (omega arith) (omega arith)
    ∙ ap (λ (z : ℕ). get_or (row_in h y 0 r out) (z * h + y) 0) (sym g)
    ∙ row_at h w y 0 c r out (omega arith) (omega arith) k (omega arith)
rows_at h w y (suc d) (r ∷ rs) out c b k l a f =
    let e : y + suc d ≡ suc y + d = omega arith in
    ap (λ (z : ℕ). get_or (rows_in h (suc y) rs (row_in h y 0 r out)) (c * h + z) 0) e
    ∙ rows_at h w (suc y) d rs (row_in h y 0 r out) c (omega arith) (length_row h y 0 r out ∙ k) l (omega arith) (λ i q. f (suc i) (omega arith))

pub length_picture : (h w : ℕ) (rs : List (List ℤ)) → length (picture_in h w rs) ≡ w * h
unfolding picture_in
length_picture h w rs = length_tabulate (w * h) (sample_at h rs)

pub picture_at : (h w : ℕ) (rs : List (List ℤ)) (k : ℕ) → k < w * h → get_or (picture_in h w rs) k 0 ≡ sample_at h rs k
unfolding picture_in
picture_at h w rs k l = get_d_tabulate (w * h) (sample_at h rs) 0 k l

pub turned : (h w : ℕ) (rs : List (List ℤ)) (out : List ℕ) → length rs ≡ h → FitsRows (plains w) rs → length out ≡ w * h → rows_in h 0 rs out ≡ map held_to (picture_in h w rs)
turned h w rs out e f k =
    ext_get_or 0 (rows_in h 0 rs out) (map held_to (picture_in h w rs)) (length_rows h 0 rs out ∙ k ∙ sym (length_picture h w rs) ∙ sym (length-map (picture_in h w rs) held_to))
    (λ i l. let g : i < w * h = omega (arith, length_rows h 0 rs out) in
    let z = index_place h w i g in
    let a = z.0 in
    let u : 0 + i % h ≡ i % h = omega arith in
    ap (λ (j : ℕ). get_or (rows_in h 0 rs out) j 0) (sym (div-add-mod' i h) ∙ ap (λ (j : ℕ). i / h * h + j) (sym u))
    ∙ rows_at h w 0 (i % h) rs out (i / h) (omega arith) k z.1 (omega arith) (fits_at w rs f)
    ∙ ap held_to (sym (picture_at h w rs i g))
    ∙ sym (get_or-map held_to (picture_in h w rs) i 0))
