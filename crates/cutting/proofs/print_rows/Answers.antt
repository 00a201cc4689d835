-- `cutting::print_rows` meets its contract. Assumes nothing.
use lib.ListN.{drop}
use Rattle.text.specs.Text.{parse}
use Rattle.cutter_text.specs.Forms.{samples_form}
use Rattle.cutting.proofs.Prints.{printed, no_rows, some_rows}
use Rattle.cutting.proofs.print_rows.Goals as goal

pub returns-in_default : goal.returns-in_default
returns-in_default c =
    let a = c.args in
    printed (no_rows a.height a.width a.levels a.quota (parse (samples_form a.height a.width) (drop a.at a.text.now)) c.read_samples-found.new.samples c.read_samples-found.result c.in_default.field-0 c.in_default.is c.read_samples-found.ensures c.code.result c.code.ensures) c.put_refusal.ensures

pub returns : goal.returns
returns c =
    let a = c.args in
    printed (some_rows a.height a.width a.levels a.quota (parse (samples_form a.height a.width) (drop a.at a.text.now)) c.read_samples-found.new.samples c.read_samples-found.result c.in-Ok.is c.read_samples-found.ensures) c.print_picture.ensures
