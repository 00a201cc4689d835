-- `kernel::transform::unsum` meets its contract. Assumes nothing.
use mathlib.Core.Path.{◌≡◌, ap, ◌∙◌}
use Prim.Native.Nat.{◌+◌, ◌*◌}
use native.Mathlib.Omega.{arith}
use Rattle.kernel.specs.Kernel.{at}
use Rattle.kernel.proofs.Kernel.{kept_within, small_within, summed}
use Rattle.kernel.proofs.transform.unsum.Goals as goal

pub signed_sums-requires : goal.signed_sums-requires
signed_sums-requires c = (
  small_within c.args.t c.requires.1 _ (omega arith),
  small_within c.args.t c.requires.1 _ (omega arith),
  small_within c.args.t c.requires.1 _ (omega arith),
  small_within c.args.t c.requires.1 _ (omega arith),
)

pub returns : goal.returns
returns c =
    let t = c.args.t in
    let first : c.args.label ≡ 0 * 4 + c.args.label = omega arith in
    summed (λ b. at t (b * 4 + c.args.label))
    (kept_within t c.requires.1 _ (omega arith) ∙ ap (at t) first)
    (kept_within t c.requires.1 _ (omega arith))
    (kept_within t c.requires.1 _ (omega arith))
    (kept_within t c.requires.1 _ (omega arith))
    c.signed_sums.ensures
