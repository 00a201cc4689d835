-- `costing::placed_cell` meets its contract. Assumes nothing.
use mathlib.Core.Path.{◌≡◌, ap}
use mathlib.Core.List.{List}
use Prim.Native.Nat.{ℕ}
use native.Mathlib.Omega.{arith}
use lib.ListN.{get_or}
use Rattle.tables.specs.Tables.{placement_table}
use Rattle.costing.proofs.Placements.{placed_below}
use Rattle.costing.proofs.placed_cell.Goals as goal

pub overflow_cast-result : goal.overflow_cast-result
overflow_cast-result c =
    let is : get_or c.placements.result.now c.args.k 0 ≡ get_or placement_table c.args.k 0 = ap (λ (t : List ℕ). get_or t c.args.k 0) c.placements.ensures in
    omega (arith, is, placed_below c.args.k c.requires)

pub returns : goal.returns
returns c =
    let is : get_or c.placements.result.now c.args.k 0 ≡ get_or placement_table c.args.k 0 = ap (λ (t : List ℕ). get_or t c.args.k 0) c.placements.ensures in
    (is, omega (arith, is, placed_below c.args.k c.requires))
