-- `blockwise::results` meets its contract. Assumes nothing.
use mathlib.Core.Path.{◌∙◌}
use native.Mathlib.Omega.{arith}
use Rattle.grid.specs.Grid.{band_place}
use Rattle.blockwise.specs.Node.{results_over}
use Rattle.blockwise.proofs.Nodes.{tall_most, wide_most}
use Rattle.blockwise.proofs.Merged.{given_asked}
use Rattle.blockwise.proofs.results.Goals as goal

pub starts-begin-requires : goal.starts-begin-requires
starts-begin-requires c = let b = c.requires.0 in (b.high, tall_most b, omega (arith, wide_most b, b.broad), b.row, b.col)

pub results_of-requires : goal.results_of-requires
results_of-requires c = record { by_index = (given_asked c.requires.0 c.args.plane.now _ c.requires.1 c.requires.2 c.starts-begin.ensures).0; weight_bound = (given_asked c.requires.0 c.args.plane.now _ c.requires.1 c.requires.2 c.starts-begin.ensures).1 }

pub returns : goal.returns
returns c =
    let k = c.args.k in
    c.results_of.ensures ∙ λ t. results_over k.weight (band_place k.height (c.starts-begin.ensures t)) c.args.low c.args.plane.now
