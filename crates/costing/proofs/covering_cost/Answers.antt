-- `costing::covering_cost` meets its contract. Assumes nothing.
use mathlib.Core.Path.{◌≡◌, ap, ◌∙◌}
use mathlib.Core.List.{List}
use Prim.Native.Nat.{ℕ, ◌+◌, ◌^◌, ◌≤◌, ◌<◌}
use native.Mathlib.Omega.{arith}
use lib.ListN.{get_or}
use mir.Syntax.{w64}
use mir.Val.{Fits}
use Rattle.costing.specs.Costs.{placement_of, cost_from}
use Rattle.costing.proofs.Placements.{placement_below, cost_from_law}
use Rattle.costing.proofs.covering_cost.Goals as goal

abbrev Sum : ℕ → ℕ → ℕ → ℕ → Type 0
Sum a b c d = Fits w64 (a + b) × Fits w64 (a + b + c) × Fits w64 (a + b + c + d)

sum : (c : goal.After-piece_cost-d) → Sum c.piece_cost-a.result c.piece_cost-b.result c.piece_cost-c.result c.piece_cost-d.result
sum c =
    let part : (p : ℕ) → p < 4 → get_or c.args.costs.now (placement_of c.args.covering p) 0 ≤ 2 ^ 44 = λ p h. c.requires.1 (placement_of c.args.covering p) (placement_below c.args.covering p c.requires.0 h) in
    let s = c.before.before.before.before in
    omega (arith, part 0 (omega arith), part 1 (omega arith), part 2 (omega arith), part 3 (omega arith), c.piece_cost-a.ensures, c.piece_cost-b.ensures, c.piece_cost-c.ensures, c.piece_cost-d.ensures)

total : (c : goal.After-piece_cost-d) → c.piece_cost-a.result + c.piece_cost-b.result + c.piece_cost-c.result + c.piece_cost-d.result ≡ cost_from c.args.costs.now c.args.covering
unfolding cost_from
total c = omega (arith, c.piece_cost-a.ensures, c.piece_cost-b.ensures, c.piece_cost-c.ensures, c.piece_cost-d.ensures)

pub overflow_add-result : goal.overflow_add-result
overflow_add-result c = (sum c).0

pub overflow_add-result-2 : goal.overflow_add-result-2
overflow_add-result-2 c = (sum c).1

pub overflow_add-result-3 : goal.overflow_add-result-3
overflow_add-result-3 c = (sum c).2

pub returns : goal.returns
returns c = (total c, λ v e. total c ∙ ap (λ (l : List ℕ). cost_from l c.args.covering) e ∙ cost_from_law v c.args.covering c.requires.0)
