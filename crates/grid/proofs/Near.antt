-- The places of a block's cells and results lie near where the block begins. Assumes nothing.
use mathlib.Core.Path.{◌≡◌}
use Prim.Native.Nat.{ℕ, ◌+◌, ◌*◌, ◌/◌, ◌%◌, ◌<◌, ◌≤◌}
use native.Mathlib.Nat.{mul-le-mul, mul-le-mul_right, add-mul}
use native.Mathlib.Omega.{arith}

pub column_near : (k h : ℕ) → k < 16 → k / 4 * h ≤ 3 * h
column_near k h l = mul-le-mul_right h (small k l)
  where
    small : (k : ℕ) → k < 16 → k / 4 ≤ 3
    small k l = omega arith

pub result_near : (k h : ℕ) → k % 4 / 2 * h ≤ 1 * h
result_near k h = mul-le-mul_right h (small k)
  where
    small : (k : ℕ) → k % 4 / 2 ≤ 1
    small k = omega arith

-- a product of sides
pub area_small : (a h : ℕ) → a ≤ 512 → h ≤ 512 → a * h ≤ 512 * 512
area_small a h k l = mul-le-mul k l

-- where a block's results begin: the band's corner and the block's own 2 by 2 cells
pub start_is : (L T i j h : ℕ) → j * 2 * h + i * 2 + L * h + T ≡ (L + j * 2) * h + (T + i * 2)
start_is L T i j h = rw (add-mul L (j * 2) h) (omega arith)
