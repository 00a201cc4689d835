-- `grid::cells_of` meets its contract. Assumes nothing.
use Rattle.std.proofs.Common.{pos, get_or, rules}
use Rattle.integers.proofs.Made.{made}
use Rattle.grid.specs.Grid.{cell_place, gathered}
use Rattle.grid.proofs.cells_of.Goals as goal

pub returns : goal.returns
unfolding gathered
returns c =
    let a = c.args in
    made _ (λ k. get_or a.image.now (cell_place a.height a.start k) (pos 0)) _ 16 (λ i y p l e. search rules) (pos 0) c.from_fn.result c.from_fn.ensures.items
