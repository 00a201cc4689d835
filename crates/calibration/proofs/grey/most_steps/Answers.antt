-- `calibration::grey::most_steps` meets its contract. Assumes nothing.
use mathlib.Core.Path.{refl}
use Rattle.calibration.proofs.All.{laws}
use Rattle.calibration.proofs.grey.most_steps.Goals as goal

pub returns : goal.returns
returns c = (refl, laws)
