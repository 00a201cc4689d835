-- `grid::put_pieces` meets its contract. Assumes nothing.
use Rattle.std.proofs.Common.{◌≡◌, refl, rules, add-one, to_z, of_z, w64}
use Rattle.slices.specs.Stores.{scatter}
use Rattle.kernel.specs.Kernel.{at}
use Rattle.grid.proofs.put_pieces.Goals as goal

pub loop-k-init : goal.loop-k-init
unfolding scatter
loop-k-init c = refl

pub loop-k-preserved : goal.loop-k-preserved
unfolding scatter
loop-k-preserved c =
    let read : to_z w64 (of_z w64 (at c.args.v c.loop-k.k)) ≡ at c.args.v c.loop-k.k = search rules in
    rw (read, c.cell_at-cell.ensures.0, add-one, ← c.loop-k.invariant)
