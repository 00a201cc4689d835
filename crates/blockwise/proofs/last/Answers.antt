-- `blockwise::last` meets its contract. Assumes nothing.
use Rattle.blockwise.proofs.Quads.{quad_is}
use Rattle.blockwise.proofs.last.Goals as goal

pub returns : goal.returns
returns c =
    let a = c.args in
    quad_is a.height a.i a.j a.plane.now c.result-1.given c.result-2-1.given c.result-3-1.given c.result-4-1.given
