-- `analysis::forward_block` meets its contract. Assumes nothing.
use mathlib.Core.Path.{subst⁻¹, ◌∙◌, ap}
use mathlib.Core.List.{List}
use Prim.Native.Nat.{ℕ, ◌+◌, ◌<◌, ◌^◌}
use native.Mathlib.Omega.{arith}
use lib.ListN.{length, get_or}
use lib.IntN.{ℤ}
use Rattle.slices.specs.Stores.{scatter}
use Rattle.terms.specs.Terms.{Terms, among, pick_terms}
use Rattle.kernel.specs.Kernel.{at, Within, forward_of}
use Rattle.grid.specs.Grid.{band_place}
use Rattle.terms.proofs.All.{reads}
use Rattle.analysis.proofs.Bandwise.{cells_inside, begins_inside, start_small, values_small, coded}
use Rattle.analysis.proofs.forward_block.Goals as goal

pub overflow_mul-start-2 : goal.overflow_mul-start-2
overflow_mul-start-2 c = omega (arith, start_small c.requires.0 c.args.i c.args.j c.requires.1 c.requires.2)

pub overflow_add-start : goal.overflow_add-start
overflow_add-start c = omega (arith, start_small c.requires.0 c.args.i c.args.j c.requires.1 c.requires.2)

pub cells_of-v-requires : goal.cells_of-v-requires
cells_of-v-requires c = cells_inside c.requires.0 c.args.i c.args.j c.requires.1 c.requires.2

pub choose-covering-requires : goal.choose-covering-requires
choose-covering-requires c =
    (subst⁻¹ (Within (2 ^ 40)) c.cells_of-v.ensures (values_small c.requires.0 c.args.i c.args.j c.requires.1 c.requires.2 c.args.image.now c.requires.3), c.requires.4, c.requires.5, c.requires.6)

pub forward-results-requires : goal.forward-results-requires
forward-results-requires c =
    (c.choose-covering.ensures.0, subst⁻¹ (Within (2 ^ 40)) c.cells_of-v.ensures (values_small c.requires.0 c.args.i c.args.j c.requires.1 c.requires.2 c.args.image.now c.requires.3))

pub put_results-requires : goal.put_results-requires
put_results-requires c =
    subst⁻¹ (λ (l : List ℕ). (b : ℕ) → b < 4 → get_or l b 0 + c.args.height + 1 < length c.args.out.now) c.starts-begin.ensures (begins_inside c.requires.0 c.args.i c.args.j c.requires.1 c.requires.2)

pub returns : goal.returns
returns c =
    let v = c.cells_of-v.ensures in
    let picked = c.choose-covering.ensures in
    let results = c.forward-results.ensures in
    let begins = c.starts-begin.ensures in
    let r = c.choose-covering.result in
    let terms : Terms = among c.args.slack c.args.list.now in
    coded c.requires.0 c.args.i c.args.j c.requires.1 c.requires.2 (pick_terms terms) (reads terms) c.args.usage.counts c.args.image.now r c.args.out.now _ picked.0
    (λ earlier e. picked.1 earlier e ∙ ap (λ (l : List ℤ). pick_terms terms earlier (at l)) v)
    (c.put_results.ensures ∙ λ t. scatter (band_place c.args.height (begins t)) (at ((results ∙ ap (forward_of r) v) t)) 16 c.args.out.now)
