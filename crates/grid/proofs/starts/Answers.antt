-- `grid::starts` meets its contract. Assumes nothing.
use mathlib.Core.Path.{◌≡◌}
use mathlib.Core.List.{[], ◌∷◌}
use Prim.Native.Nat.{ℕ, ◌+◌, ◌*◌, ◌/◌, ◌≤◌}
use native.Mathlib.Omega.{arith}
use Rattle.grid.specs.Grid.{starts_of}
use Rattle.grid.proofs.Near.{area_small, start_is}
use Rattle.grid.proofs.starts.Goals as goal

across : (c : goal.Start) → c.args.j * 2 * c.args.height ≤ 512 * 512
across c = area_small (c.args.j * 2) c.args.height (omega arith) (omega arith)

right : (c : goal.Start) → c.args.wide / 2 * c.args.height ≤ 512 * 512
right c = area_small (c.args.wide / 2) c.args.height (omega arith) (omega arith)

-- the four beginnings
begins : (h tall wide i j : ℕ) → (let low = j * 2 * h + i * 2 in low ∷ (low + wide / 2 * h) ∷ (low + tall / 2) ∷ (low + wide / 2 * h + tall / 2) ∷ []) ≡ starts_of h tall wide i j
unfolding starts_of
begins h tall wide i j = λ t. first t ∷ second t ∷ third t ∷ start_is (wide / 2) (tall / 2) i j h t ∷ []
  where
    first : j * 2 * h + i * 2 ≡ (0 + j * 2) * h + (0 + i * 2)
    first = none (start_is 0 0 i j h)
      where
        none : {z : ℕ} → j * 2 * h + i * 2 + 0 * h + 0 ≡ z → j * 2 * h + i * 2 ≡ z
        none e = omega arith

    second : j * 2 * h + i * 2 + wide / 2 * h ≡ (wide / 2 + j * 2) * h + (0 + i * 2)
    second = none (start_is (wide / 2) 0 i j h)
      where
        none : {z : ℕ} → j * 2 * h + i * 2 + wide / 2 * h + 0 ≡ z → j * 2 * h + i * 2 + wide / 2 * h ≡ z
        none e = omega arith

    third : j * 2 * h + i * 2 + tall / 2 ≡ (0 + j * 2) * h + (tall / 2 + i * 2)
    third = none (start_is 0 (tall / 2) i j h)
      where
        none : {z : ℕ} → j * 2 * h + i * 2 + 0 * h + tall / 2 ≡ z → j * 2 * h + i * 2 + tall / 2 ≡ z
        none e = omega arith

pub overflow_mul-low : goal.overflow_mul-low
overflow_mul-low c = omega arith

pub overflow_mul-low-2 : goal.overflow_mul-low-2
overflow_mul-low-2 c = omega (arith, across c)

pub overflow_mul-low-3 : goal.overflow_mul-low-3
overflow_mul-low-3 c = omega arith

pub overflow_add-low : goal.overflow_add-low
overflow_add-low c = omega (arith, across c)

pub overflow_mul-right : goal.overflow_mul-right
overflow_mul-right c = omega (arith, right c)

pub overflow_add-result : goal.overflow_add-result
overflow_add-result c = omega (arith, across c, right c)

pub overflow_add-result-2 : goal.overflow_add-result-2
overflow_add-result-2 c = omega (arith, across c, right c)

pub overflow_add-result-3 : goal.overflow_add-result-3
overflow_add-result-3 c = omega (arith, across c, right c)

pub overflow_add-result-4 : goal.overflow_add-result-4
overflow_add-result-4 c = omega (arith, across c, right c)

pub returns : goal.returns
returns c = begins c.args.height c.args.tall c.args.wide c.args.i c.args.j
