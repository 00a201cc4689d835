-- `slices::widen` meets its contract: the slice holds the samples at the places passed. Assumes nothing.
use Rattle.std.proofs.Common.{◌≡◌, sym, ◌∙◌, map, pos, get_or, to_z, of_z, w64, arith, rules}
use Rattle.std.proofs.Math.ListN.{length-map, get_or-map}
use Rattle.integers.proofs.Half.{half_store}
use Rattle.slices.proofs.widen.Goals as goal

pub loop-i-preserved : goal.loop-i-preserved
loop-i-preserved c =
    let from = c.args.from.now in
    let i = c.loop-i.i in
    let value : to_z w64 (of_z w64 c.from.result) ≡ pos (get_or from i 0) = search rules in
    half_store (map pos from) c.args.to.now i (pos 0) c.loop-i.invariant (value ∙ sym (get_or-map pos from i 0)) (length-map from pos ∙ sym c.requires) (omega arith)
