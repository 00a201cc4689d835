-- `slices::copy_rectangle` meets its contract. Assumes nothing.
use lib.ListN.{length}
use Rattle.slices.proofs.Stores.{room_front}
use Rattle.slices.proofs.copy_rectangle.Goals as goal

pub move_columns-requires : goal.move_columns-requires
move_columns-requires c =
    let a = c.args in
    let r = c.requires in
    (r.0, room_front a.height a.tall a.wide (length a.from.now) r.0 r.1, room_front a.height a.tall a.wide (length a.to.now) r.0 r.2)

pub returns : goal.returns
returns c = c.move_columns.ensures
