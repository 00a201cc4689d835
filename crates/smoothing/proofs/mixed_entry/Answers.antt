-- `smoothing::mixed_entry` meets its contract. Assumes nothing.
use mathlib.Core.Path.{◌≡◌, ap, ◌∙◌}
use mathlib.Core.Bool.{Bool, true, false, not, cond, ◌||◌}
use Prim.Native.Nat.{◌^◌, ◌≤◌}
use native.Mathlib.Omega.{arith}
use lib.IntN.{ℤ, pos, nat_abs}
use mir.Facts.{to_z-of_z}
use Rattle.integers.specs.Zero.{is_zero}
use Rattle.smoothing.proofs.Cells.{entry_first, entry_second, entry_fit, entry_is}
use Rattle.smoothing.proofs.mixed_entry.Goals as goal

moved_is : (c : goal.After-unless-moved) → c.unless-moved.result ≡ (cond (c.args.low || not (is_zero c.args.z)) (pos 0) c.args.d)
moved_is c =
    let zero = c.is_zero.ensures ∙ ap is_zero (to_z-of_z c.ranges.z) in
    c.unless-moved.ensures ∙ λ i. cond (c.args.low || not (zero i)) (pos 0) (to_z-of_z c.ranges.d i)

moved_small : (b : Bool) (d : ℤ) → nat_abs d ≤ 2 ^ 40 → nat_abs (cond b (pos 0) d) ≤ 2 ^ 40
moved_small true d h = omega arith
moved_small false d h = h

pub overflow_mul-result : goal.overflow_mul-result
overflow_mul-result c =
    entry_first c.args.z c.args.step (cond (c.args.low || not (is_zero c.args.z)) (pos 0) c.args.d) c.ranges.z c.requires.0 c.requires.2 (moved_is c) (moved_small (c.args.low || not (is_zero c.args.z)) c.args.d c.requires.1)

pub overflow_mul-result-2 : goal.overflow_mul-result-2
overflow_mul-result-2 c =
    entry_second c.args.z c.args.step (cond (c.args.low || not (is_zero c.args.z)) (pos 0) c.args.d) c.ranges.z c.requires.0 c.requires.2 (moved_is c) (moved_small (c.args.low || not (is_zero c.args.z)) c.args.d c.requires.1)

pub overflow_sub-result : goal.overflow_sub-result
overflow_sub-result c =
    entry_fit c.args.z c.args.step (cond (c.args.low || not (is_zero c.args.z)) (pos 0) c.args.d) c.ranges.z c.requires.0 c.requires.2 (moved_is c) (moved_small (c.args.low || not (is_zero c.args.z)) c.args.d c.requires.1)

pub returns : goal.returns
returns c =
    entry_is c.args.z c.args.step (cond (c.args.low || not (is_zero c.args.z)) (pos 0) c.args.d) c.ranges.z c.requires.0 c.requires.2 (moved_is c) (moved_small (c.args.low || not (is_zero c.args.z)) c.args.d c.requires.1)
