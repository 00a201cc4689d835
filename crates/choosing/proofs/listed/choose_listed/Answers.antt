-- `choosing::listed::choose_listed` meets its contract. Assumes nothing.
use Rattle.std.proofs.Common.{◌≡◌, refl, sym, ap, ◌∙◌, ℕ, ◌<◌, List, length, get_or, arith, rules}
use Rattle.std.specs.Prelude.{T, ℤ}
use Rattle.terms.specs.Terms.{is_list, cost_at}
use Rattle.terms.proofs.Good.{not_empty, short, entry}
use Rattle.kernel.specs.Kernel.{at}
use Rattle.costing.specs.Costs.{Needed, needed_spreads, cost_from, Low}
use Rattle.choosing.specs.Leading.{InRow, Priced}
use Rattle.costing.proofs.Placements.{needed_price}
use Rattle.choosing.proofs.Leading.{low_needed, nth, place, cost_low, row, chosen_listed}
use Rattle.choosing.proofs.listed.choose_listed.Goals as goal

prices : (costs needed list : List ℕ) (v : List ℤ) → costs ≡ needed_spreads needed v → T (is_list list) → Needed list needed → (k : ℕ) → k < length list → cost_from costs (get_or list k 0) ≡ cost_at (at v) (get_or list k 0)
prices costs needed list v e g f k h = rw e (needed_price list needed v k f h (entry list g k h))

by_place : (costs list all : List ℕ) → ((k : ℕ) → k < length list → get_or all k 0 ≡ cost_from costs (get_or list k 0)) → Priced (length list) (λ n. cost_from costs (nth list n)) all
by_place costs list all p k h = p k h ∙ ap (λ (j : ℕ). cost_from costs (get_or list j 0)) (sym (place k))

pub put_costs-least-requires-clause-size : goal.put_costs-least-requires-clause-size
put_costs-least-requires-clause-size c = (refl, not_empty _ c.requires.2, short _ c.requires.2)

pub put_costs-least-requires-clause-callable : goal.put_costs-least-requires-clause-callable
put_costs-least-requires-clause-callable c =
    λ k h.
    let low : Low c.needed_costs-costs.result = low_needed c.args.needed.now c.args.v c.needed_costs-costs.ensures c.requires.0 in
    let number = entry c.args.list.now c.requires.2 k h in
    search rules

pub overflow_add-least : goal.overflow_add-least
overflow_add-least c =
    let h = not_empty c.args.list.now c.requires.2 in
    let costs = c.needed_costs-costs.result in
    let put : Priced (length c.args.list.now) (λ n. cost_from costs (nth c.args.list.now n)) c.put_costs-least.new.all = by_place _ _ _ (λ k h. let q = c.put_costs-least.ensures.put k h in search rules) in
    omega (arith, c.requires.1, (c.put_costs-least.ensures.least (λ n. cost_from costs (nth c.args.list.now n)) put).below 1 (omega arith, h), cost_low costs (low_needed c.args.needed.now c.args.v c.needed_costs-costs.ensures c.requires.0) (nth c.args.list.now 1) (entry c.args.list.now c.requires.2 0 h))

pub overflow_sub-result : goal.overflow_sub-result
overflow_sub-result c =
    let x = c.args in
    let found : InRow (length x.list.now) c.most_listed-place.result = row x.v c.needed_costs-costs.result x.list.now c.put_costs-least.new.all x.usage.counts (length x.list.now) x.slack c.put_costs-least.result c.most_listed-place.result
    c.requires.2 refl (prices _ x.needed.now x.list.now x.v c.needed_costs-costs.ensures c.requires.2 c.requires.3) (by_place _ _ _ (λ k h. let q = c.put_costs-least.ensures.put k h in search rules)) c.put_costs-least.ensures.least c.most_listed-place.ensures in
    omega (arith, found)

pub bounds-list-place : goal.bounds-list-place
bounds-list-place c =
    let x = c.args in
    let found : InRow (length x.list.now) c.most_listed-place.result = row x.v c.needed_costs-costs.result x.list.now c.put_costs-least.new.all x.usage.counts (length x.list.now) x.slack c.put_costs-least.result c.most_listed-place.result
    c.requires.2 refl (prices _ x.needed.now x.list.now x.v c.needed_costs-costs.ensures c.requires.2 c.requires.3) (by_place _ _ _ (λ k h. let q = c.put_costs-least.ensures.put k h in search rules)) c.put_costs-least.ensures.least c.most_listed-place.ensures in
    omega (arith, found)

pub returns : goal.returns
returns c =
    let x = c.args in
    chosen_listed x.v c.needed_costs-costs.result x.list.now c.put_costs-least.new.all x.usage.counts (length x.list.now) x.slack c.put_costs-least.result c.most_listed-place.result
    c.requires.2 refl (prices _ x.needed.now x.list.now x.v c.needed_costs-costs.ensures c.requires.2 c.requires.3) (by_place _ _ _ (λ k h. let q = c.put_costs-least.ensures.put k h in search rules)) c.put_costs-least.ensures.least c.most_listed-place.ensures
