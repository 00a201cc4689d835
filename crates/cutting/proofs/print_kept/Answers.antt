-- `cutting::print_kept` meets its contract. Assumes nothing.
use Rattle.cutting.proofs.Prints.{printed}
use Rattle.cutting.proofs.Sheets.{end_7, end-10}
use Rattle.cutting.proofs.print_kept.Goals as goal

pub returns-in_default : goal.returns-in_default
returns-in_default c =
    let a = c.args in
    let p = c.requires in
    printed (end_7 a.height a.width a.levels a.quota p.width_value.0 p.width_value.1 a.plane.now a.coverings.now p.of_picture.0 c.keep-kept.new.plane c.keep-kept.result c.keep-kept.ensures c.in_default.field-0 c.in_default.is c.code.result c.code.ensures) c.put_refusal.ensures

pub returns-in_default-written : goal.returns-in_default-written
returns-in_default-written c =
    let a = c.args in
    let p = c.requires in
    absurd (end-10 a.height a.width a.levels a.quota p.width_value.0 p.width_value.1 a.plane.now a.coverings.now p.of_picture.0 c.keep-kept.new.plane c.keep-kept.result c.keep-kept.ensures c.in-Ok.field-0 c.in-Ok.is p.width_value.2 p.width_value.3 a.out.now c.write-written.new.buffer p.of_picture.1 c.write-written.result c.write-written.ensures c.in_default-written.field-0 c.in_default-written.is)
