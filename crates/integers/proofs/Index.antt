-- Flat indices: the entry in row y, column x of an image of height h is at x * h + y. Assumes nothing.
use mathlib.Core.Path.{◌≡◌, sym, ap, ◌∙◌}
use Prim.Native.Nat.{ℕ, zero, suc, ◌+◌, ◌*◌, ◌/◌, ◌%◌, ◌<◌}
use native.Mathlib.Omega.{arith}
use native.Mathlib.Nat.{add-zero, mul-add-div_right, mul-add-mod_self_right, mod-eq_of_lt, div-eq_of_lt, mul-le-mul_right, mod-lt, div-lt_iff_lt-mul}

pub index_bound : (j i n m : ℕ) → j < n → i < m → j * m + i < n * m
index_bound j i n m h l = omega (arith, mul-le-mul_right m h)

-- the row and the column of an entry by its number
pub index_place : (h w k : ℕ) → k < w * h → (k % h < h) × (k / h < w)
index_place zero w k l = absurd (omega arith)
index_place (suc h) w k l = (mod-lt k (omega arith), (div-lt_iff_lt-mul {k = suc h} (omega arith)).1 l)

-- the number of an entry in column order
pub column_row : (x y h : ℕ) → y < h → (x * h + y) % h ≡ y
column_row x y h l = mul-add-mod_self_right x h y ∙ mod-eq_of_lt l

pub column_col : (x y h : ℕ) → y < h → (x * h + y) / h ≡ x
column_col x y h l = mul-add-div_right (omega arith) x y ∙ ap (λ (z : ℕ). x + z) (div-eq_of_lt l) ∙ add-zero x

-- which tells its row and its column
pub same_place : (h y x v u : ℕ) → y < h → v < h → x * h + y ≡ u * h + v → (y ≡ v) × (x ≡ u)
same_place h y x v u k l e = (
  sym (column_row x y h k) ∙ ap (λ (n : ℕ). n % h) e ∙ column_row u v h l,
  sym (column_col x y h k) ∙ ap (λ (n : ℕ). n / h) e ∙ column_col u v h l,
)
