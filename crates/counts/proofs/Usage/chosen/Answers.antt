-- `counts::Usage::chosen` meets its contract. Assumes nothing.
use Rattle.counts.proofs.Counts.{one_more}
use Rattle.counts.proofs.Usage.chosen.Goals as goal

pub returns : goal.returns
returns c = λ earlier e. one_more c.args.covering c.requires.0 c.args.self.counts earlier e
