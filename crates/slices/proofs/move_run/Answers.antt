-- `slices::move_run` meets its contract. Assumes nothing.
use Rattle.std.proofs.Common.{◌≡◌, ◌+◌, pos, get_or, to_z, of_z, w64, rules}
use native.Mathlib.Numerals.{add-one}
use Rattle.slices.specs.Stores.{pasted}
use Rattle.slices.proofs.move_run.Goals as goal

pub loop-r-init : goal.loop-r-init
unfolding pasted
loop-r-init c = search rules

pub loop-r-preserved : goal.loop-r-preserved
unfolding pasted
loop-r-preserved c =
    let v = get_or c.args.from.now (c.args.first + c.loop-r.r) (pos 0) in
    let value : to_z w64 (of_z w64 v) ≡ v = search rules in
    rw (value, add-one, c.loop-r.invariant)
