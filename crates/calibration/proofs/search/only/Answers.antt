-- `calibration::search::only` meets its contract. The loop's invariant: the coverings that are left decide. Assumes nothing.
use mathlib.Core.Path.{refl, sym, ◌∙◌}
use native.Mathlib.Omega.{arith}
use Rattle.costing.proofs.Placements.{spreads_low}
use Rattle.kernel.specs.Kernel.{at}
use Rattle.calibration.proofs.Others.{rest_next, rest_stop, rest_end, dear, whole}
use Rattle.calibration.proofs.search.only.Goals as goal

pub covering_cost-own-requires : goal.covering_cost-own-requires
covering_cost-own-requires c = (c.requires.0, λ k l. rw c.placement_costs-costs.ensures (spreads_low c.args.v.now c.requires.1 k l))

pub returns-then-own-ne0 : goal.returns-then-own-ne0
returns-then-own-ne0 c = dear c.args.covering (at c.args.v.now) (λ z. c.if-own-ne0.true (c.covering_cost-own.ensures.1 c.args.v.now c.placement_costs-costs.ensures ∙ z))

pub loop-m-init : goal.loop-m-init
loop-m-init c = (omega arith, refl)

pub no_tie-requires : goal.no_tie-requires
no_tie-requires c = ((omega arith, omega arith), λ k l. rw c.placement_costs-costs.ensures (spreads_low c.args.v.now c.requires.1 k l))

pub returns-then-not-no_tie : goal.returns-then-not-no_tie
returns-then-not-no_tie c =
    let own = c.covering_cost-own.ensures.1 c.args.v.now c.placement_costs-costs.ensures in
    let told = c.no_tie.ensures c.args.v.now c.placement_costs-costs.ensures in
    whole c.args.covering (at c.args.v.now) (sym own ∙ c.if-own-ne0.false)
    (sym c.loop-m.invariant.1 ∙ rest_stop c.args.covering (at c.args.v.now) c.loop-m.m (omega arith, omega arith) (sym told ∙ c.if-not-no_tie.true))

pub loop-m-preserved : goal.loop-m-preserved
loop-m-preserved c =
    let told = c.no_tie.ensures c.args.v.now c.placement_costs-costs.ensures in
    (omega arith, sym (rest_next c.args.covering (at c.args.v.now) c.loop-m.m (omega arith, omega arith) (sym told ∙ c.if-not-no_tie.false)) ∙ c.loop-m.invariant.1)

pub returns : goal.returns
returns c =
    let own = c.covering_cost-own.ensures.1 c.args.v.now c.placement_costs-costs.ensures in
    whole c.args.covering (at c.args.v.now) (sym own ∙ c.if-own-ne0.false) (sym c.loop-m.invariant.1 ∙ rest_end c.args.covering (at c.args.v.now) c.loop-m.m (omega arith))
