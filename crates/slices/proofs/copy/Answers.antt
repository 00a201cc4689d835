-- `slices::copy` meets its contract. Assumes nothing.
use Rattle.std.proofs.Common.{◌≡◌, sym, pos, get_or, to_z, of_z, w64, arith, rules}
use Rattle.integers.proofs.Half.{half_store}
use Rattle.slices.proofs.copy.Goals as goal

pub loop-i-preserved : goal.loop-i-preserved
loop-i-preserved c =
    let from = c.args.from.now in
    let i = c.loop-i.i in
    let value : to_z w64 (of_z w64 (get_or from i (pos 0))) ≡ get_or from i (pos 0) = search rules in
    half_store from c.args.to.now i (pos 0) c.loop-i.invariant value (sym c.requires) (omega arith)
