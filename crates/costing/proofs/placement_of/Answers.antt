-- `costing::placement_of` meets its contract. Assumes nothing.
use mathlib.Core.Path.{◌≡◌, ap}
use mathlib.Core.List.{List}
use Prim.Native.Nat.{ℕ, ◌+◌, ◌*◌, ◌-◌, ◌<◌}
use native.Mathlib.Omega.{arith}
use lib.ListN.{get_or}
use Rattle.costing.specs.Costs.{placement_of}
use Rattle.costing.proofs.Placements.{placement_below}
use Rattle.costing.proofs.placement_of.Goals as goal

pub overflow_cast-result : goal.overflow_cast-result
unfolding placement_of
overflow_cast-result c =
    let is : let x = c.args in (get_or c.fours.result.now ((x.covering - 1) * 4 + x.piece) 0 ≡ placement_of x.covering x.piece) × (placement_of x.covering x.piece < 89) = let x = c.args in
    (ap (λ (t : List ℕ). get_or t ((x.covering - 1) * 4 + x.piece) 0) c.fours.ensures, placement_below x.covering x.piece c.requires.0 c.requires.1) in
    omega (arith, is)

pub returns : goal.returns
unfolding placement_of
returns c =
    let is : let x = c.args in (get_or c.fours.result.now ((x.covering - 1) * 4 + x.piece) 0 ≡ placement_of x.covering x.piece) × (placement_of x.covering x.piece < 89) = let x = c.args in
    (ap (λ (t : List ℕ). get_or t ((x.covering - 1) * 4 + x.piece) 0) c.fours.ensures, placement_below x.covering x.piece c.requires.0 c.requires.1) in
    let p = is in (p.0, omega (arith, p))
