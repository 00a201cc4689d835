-- `c_api::tetrolet_read` meets its contract: that of the entry below, with its values told through references. Assumes nothing.
use Rattle.sheet.specs.Read.{ReadAnswered}
use Rattle.c_api.proofs.Told.{found, unfound}
use Rattle.c_api.proofs.tetrolet_read.Goals as goal

pub returns-in-Ok : goal.returns-in-Ok
returns-in-Ok c = found (ReadAnswered _ _ _ _ _) _ c.read-answer.ensures _ c.in-Ok.is

pub returns-in-Err : goal.returns-in-Err
returns-in-Err c = unfound (ReadAnswered _ _ _ _ _) _ c.read-answer.ensures _ _ _ _ _ c.in-Err.is c.from.ensures
