-- `listing::longest_list` meets its contract. Assumes nothing.
use mathlib.Core.Path.{refl}
use Rattle.listing.proofs.Together.{laws}
use Rattle.listing.proofs.longest_list.Goals as goal

pub returns : goal.returns
returns c = (refl, laws)
