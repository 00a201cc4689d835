-- Costs as the code computes them: of a placement, of all placements, of those that a list needs, and of a covering from them. Assumes nothing.
use Rattle.std.specs.Prelude.{◌≡◌, cond, List, ℕ, suc, ◌+◌, ◌*◌, ◌-◌, ◌^◌, ◌<◌, ◌≤◌, eqb, ℤ, nat_abs, length, get_or}
use Rattle.integers.specs.Sum.{Σℕ}
use Rattle.integers.specs.Lists.{tabulate}
use Rattle.block.specs.Block.{sign_row}
use Rattle.tables.specs.Tables.{placement_table, four_table}
use Rattle.kernel.specs.Kernel.{at}

-- The absolute tetrolet coefficients of four numbers.
abbrev pub spread : (ℕ → ℤ) → ℕ
spread x = Σℕ 3 (λ b. nat_abs (sign_row (suc b) x))

-- The four values of placement k.
abbrev pub placed : List ℤ → ℕ → ℕ → ℤ
placed v k i = at v (get_or placement_table (k * 4 + i) 0)

-- The absolute tetrolet coefficients of each of the 89 placements.
unfoldable pub spreads : List ℤ → List ℕ
spreads v = tabulate 89 (λ k. spread (placed v k))

-- The placement of piece p of covering n.
unfoldable pub placement_of : ℕ → ℕ → ℕ
placement_of n p = get_or four_table ((n - 1) * 4 + p) 0

-- The cost of covering n from those of the placements.
unfoldable pub cost_from : List ℕ → ℕ → ℕ
cost_from costs n = Σℕ 4 (λ p. get_or costs (placement_of n p) 0)

-- `needed` has 1 at each placement that a covering of the list has.
abbrev pub Needed : List ℕ → List ℕ → Type 0
Needed list needed = (k p : ℕ) → k < length list → p < 4 → get_or needed (placement_of (get_or list k 0) p) 0 ≡ 1

-- The absolute tetrolet coefficients of each placement that is needed, and 0 of each other.
unfoldable pub needed_spreads : List ℕ → List ℤ → List ℕ
needed_spreads needed v = tabulate 89 (λ k. cond (eqb (get_or needed k 0) 0) 0 (spread (placed v k)))

-- Costs of placements so low that the sum of four is a u64.
abbrev pub Low : List ℕ → Type 0
Low costs = (k : ℕ) → k < 89 → get_or costs k 0 ≤ 2 ^ 44
