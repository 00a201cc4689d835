-- `cutting::print_sheet` meets its contract. Assumes nothing.
use Rattle.cutting.proofs.Prints.{printed}
use Rattle.cutting.proofs.Sheets.{end-4, left}
use Rattle.cutting.proofs.print_sheet.Goals as goal

pub returns-in_default : goal.returns-in_default
returns-in_default c =
    let a = c.args in
    let p = c.requires in
    printed (end-4 a.height a.width a.levels a.quota a.samples.now p.width_value.0 p.width_value.1 p.samples_len.0 a.plane.now a.coverings.now a.scratch.now p.samples_len.1 p.coverings_len.0 p.samples_len.2 c.decompose-decomposed.new.plane c.decompose-decomposed.new.coverings c.decompose-decomposed.new.scratch c.decompose-decomposed.result c.decompose-decomposed.ensures c.in_default.field-0 c.in_default.is c.code.result c.code.ensures) c.put_refusal.ensures

pub returns : goal.returns
returns c =
    let a = c.args in
    let p = c.requires in
    printed (left a.height a.width a.levels a.quota a.samples.now p.width_value.0 p.width_value.1 p.samples_len.0 a.plane.now a.coverings.now a.scratch.now p.samples_len.1 p.coverings_len.0 p.samples_len.2 c.decompose-decomposed.new.plane c.decompose-decomposed.new.coverings c.decompose-decomposed.new.scratch c.decompose-decomposed.result c.decompose-decomposed.ensures c.in-Ok.is) c.print_kept.ensures
