-- `grid::put_pieces` meets its contract. Assumes nothing.
use mathlib.Core.Path.{◌≡◌}
use Rattle.slices.specs.Stores.{scatter}
use Rattle.tables.specs.Tables.{cell_at}
use Rattle.kernel.specs.Kernel.{at}
use Rattle.grid.specs.Grid.{cell_place}
use Rattle.grid.proofs.put_pieces.Given as goal

abbrev pub invariant-loop-k : goal.invariant-loop-k
invariant-loop-k l =
    l.out ≡ scatter (λ k. cell_place l.height l.start (cell_at l.covering k)) (at l.fn.v) l.k l.initial.out
