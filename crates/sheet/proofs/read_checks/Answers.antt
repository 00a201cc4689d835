-- `sheet::read_checks` meets its contract: each return by what the tests before it found. Assumes nothing.
use Rattle.places.proofs.Sides.{size_passed}
use Rattle.sheet.proofs.read_checks.Goals as goal

pub count_blocks-blocks-requires : goal.count_blocks-blocks-requires
count_blocks-blocks-requires c =
    let l = c.args.l in
    let z = size_passed l.height l.width l.levels c.in_ok-size_checks.was c.size_checks.ensures in
    (z.tall, z.wide, z.few)
