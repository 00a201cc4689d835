-- `choosing::least::choose_least` meets its contract. The loop's invariant: the best is the choice among the coverings below n. Assumes nothing.
use mathlib.Core.Path.{◌≡◌}
use mathlib.Core.List.{List}
use Prim.Native.Nat.{ℕ, ◌-◌}
use native.Mathlib.Omega.{arith}
use lib.ListN.{get_or}
use Rattle.choosing.specs.declared.least.Candidate.{Candidate}
use Rattle.costing.specs.Costs.{cost_from}
use Rattle.choosing.proofs.Leading.{low_spreads}
use Rattle.choosing.proofs.Best.{Rated, best_first, best_next, best_last}
use Rattle.choosing.proofs.least.choose_least.Goals as goal

rated_is : {costs counts : List ℕ} {n : ℕ} {r : Candidate} → (r.covering ≡ n) × (r.cost ≡ cost_from costs n) × (r.count ≡ get_or counts (n - 1) 0) → Rated costs counts n r
rated_is q = record { covering = q.0; cost = q.1; count = q.2 }

pub rated-best-requires : goal.rated-best-requires
rated-best-requires c = ((omega arith, omega arith), low_spreads c.args.v c.placement_costs-costs.ensures c.requires)

pub loop-n-init : goal.loop-n-init
loop-n-init c = best_first c.rated-best.result (rated_is c.rated-best.ensures)

pub rated-requires : goal.rated-requires
rated-requires c = ((omega (arith, c.loop-n.invariant.from), omega arith), low_spreads c.args.v c.placement_costs-costs.ensures c.requires)

pub loop-n-preserved : goal.loop-n-preserved
loop-n-preserved c =
    best_next _ _ c.loop-n.n c.loop-n.best c.rated.result (omega arith) c.loop-n.invariant (rated_is c.rated.ensures) c.better-best.result c.better-best.ensures

pub returns : goal.returns
returns c =
    let p = best_last c.loop-n.invariant (omega arith) in
    (p.0, λ earlier e. p.1 c.args.v earlier c.placement_costs-costs.ensures e)
