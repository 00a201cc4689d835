-- `costing::piece_cost` meets its contract. Assumes nothing.
use mathlib.Core.Path.{ap}
use Prim.Native.Nat.{ℕ}
use native.Mathlib.Omega.{arith}
use lib.ListN.{get_or}
use Rattle.costing.proofs.piece_cost.Goals as goal

pub offset_bounds-costs-k : goal.offset_bounds-costs-k
offset_bounds-costs-k c = omega (arith, c.placement_of-k.ensures.1)

pub bounds-costs-k : goal.bounds-costs-k
bounds-costs-k c = omega (arith, c.placement_of-k.ensures.1)

pub returns : goal.returns
returns c = ap (λ (k : ℕ). get_or c.args.costs.now k 0) c.placement_of-k.ensures.0
