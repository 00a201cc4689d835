-- `given::block_by` meets its contract. Assumes nothing.
use mathlib.Core.Path.{subst⁻¹, ◌∙◌, ap}
use mathlib.Core.List.{List}
use Prim.Native.Nat.{ℕ, ◌+◌, ◌<◌, ◌^◌}
use native.Mathlib.Omega.{arith}
use lib.ListN.{length, get_or}
use Rattle.slices.specs.Stores.{scatter}
use Rattle.kernel.specs.Kernel.{at, Within, forward_of}
use Rattle.grid.specs.Grid.{band_place}
use Rattle.analysis.proofs.Bandwise.{cells_inside, begins_inside, start_small, values_small, results_so}
use Rattle.given.proofs.block_by.Goals as goal

pub overflow_mul-start-2 : goal.overflow_mul-start-2
overflow_mul-start-2 c = omega (arith, start_small c.requires.region.0 c.args.i c.args.j c.requires.region.1 c.requires.region.2)

pub overflow_add-start : goal.overflow_add-start
overflow_add-start c = omega (arith, start_small c.requires.region.0 c.args.i c.args.j c.requires.region.1 c.requires.region.2)

pub cells_of-v-requires : goal.cells_of-v-requires
cells_of-v-requires c = cells_inside c.requires.region.0 c.args.i c.args.j c.requires.region.1 c.requires.region.2

pub forward-results-requires : goal.forward-results-requires
forward-results-requires c =
    (c.requires.number, subst⁻¹ (Within (2 ^ 40)) c.cells_of-v.ensures (values_small c.requires.region.0 c.args.i c.args.j c.requires.region.1 c.requires.region.2 c.args.image.now c.requires.region.3))

pub put_results-requires : goal.put_results-requires
put_results-requires c =
    subst⁻¹ (λ (l : List ℕ). (b : ℕ) → b < 4 → get_or l b 0 + c.args.height + 1 < length c.args.out.now) c.starts-begin.ensures (begins_inside c.requires.region.0 c.args.i c.args.j c.requires.region.1 c.requires.region.2)

pub returns : goal.returns
returns c =
    let v = c.cells_of-v.ensures in
    let results = c.forward-results.ensures in
    let begins = c.starts-begin.ensures in
    results_so c.requires.region.0 c.args.i c.args.j c.requires.region.1 c.requires.region.2 c.args.image.now c.args.covering c.args.out.now _
    (c.put_results.ensures ∙ λ t. scatter (band_place c.args.height (begins t)) (at ((results ∙ ap (forward_of c.args.covering) v) t)) 16 c.args.out.now)
