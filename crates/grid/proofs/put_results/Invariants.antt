-- `grid::put_results` meets its contract. Assumes nothing.
use mathlib.Core.Path.{◌≡◌}
use Rattle.slices.specs.Stores.{scatter}
use Rattle.kernel.specs.Kernel.{at}
use Rattle.grid.specs.Grid.{band_place}
use Rattle.grid.proofs.put_results.Given as goal

abbrev pub invariant-loop-k : goal.invariant-loop-k
invariant-loop-k l = l.out ≡ scatter (band_place l.height l.begin) (at l.fn.results) l.k l.initial.out
