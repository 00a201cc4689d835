-- `windows::block_of` meets its contract. Assumes nothing.
use Prim.Native.Nat.{◌/◌}
use Rattle.pyramid.proofs.Behind.{halved_shift}
use Rattle.windows.proofs.block_of.Goals as goal

pub returns : goal.returns
returns c = halved_shift c.args.d (c.args.a / 4)
