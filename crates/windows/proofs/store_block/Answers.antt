-- `windows::store_block` meets its contract. Assumes nothing.
use mathlib.Core.Path.{sym, ◌∙◌, subst}
use lib.Dec.{T}
use Rattle.windows.proofs.store_block.Goals as goal

pub store_whole-requires : goal.store_whole-requires
store_whole-requires c =
    let p = c.requires in
    record { inside = (p.inside.0, p.inside.1, subst T (sym c.if-holds.true ∙ c.holds.ensures) tt); levels_bound = p.levels_bound; by_index = p.by_index }
