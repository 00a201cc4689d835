-- `counts::Usage::new` meets its contract. Assumes nothing.
use mathlib.Core.Path.{refl}
use Rattle.counts.specs.Counts.{counts_of}
use Rattle.counts.proofs.Usage.new.Goals as goal

pub returns : goal.returns
unfolding counts_of
returns c = refl
