-- `costing::placement_cost` meets its contract. Assumes nothing.
use mathlib.Core.Path.{◌≡◌, ap, ◌∙◌}
use Prim.Native.Nat.{ℕ, ◌+◌, ◌*◌}
use native.Mathlib.Omega.{arith}
use lib.ListN.{get_or}
use Rattle.tables.specs.Tables.{placement_table}
use Rattle.kernel.specs.Kernel.{at}
use Rattle.costing.specs.Costs.{placed}
use Rattle.kernel.proofs.Kernel.{four_is, kept_within, small_within}
use Rattle.costing.proofs.Placements.{spread_cong}
use Rattle.costing.proofs.placement_cost.Goals as goal

pub spread_of-requires : goal.spread_of-requires
spread_of-requires c = (
  small_within c.args.v.now c.requires.1 _ c.placed_cell-a.ensures.1,
  small_within c.args.v.now c.requires.1 _ c.placed_cell-b.ensures.1,
  small_within c.args.v.now c.requires.1 _ c.placed_cell-c.ensures.1,
  small_within c.args.v.now c.requires.1 _ c.placed_cell-d.ensures.1,
)

pub returns : goal.returns
returns c =
    let v = c.args.v.now in
    let k = c.args.k in
    let first : k * 4 ≡ k * 4 + 0 = omega arith in
    c.spread_of.ensures
    ∙ spread_cong _ (placed v k)
    (four_is (placed v k)
    (kept_within v c.requires.1 _ c.placed_cell-a.ensures.1 ∙ ap (at v) (c.placed_cell-a.ensures.0 ∙ ap (λ (j : ℕ). get_or placement_table j 0) first))
    (kept_within v c.requires.1 _ c.placed_cell-b.ensures.1 ∙ ap (at v) c.placed_cell-b.ensures.0)
    (kept_within v c.requires.1 _ c.placed_cell-c.ensures.1 ∙ ap (at v) c.placed_cell-c.ensures.0)
    (kept_within v c.requires.1 _ c.placed_cell-d.ensures.1 ∙ ap (at v) c.placed_cell-d.ensures.0))
