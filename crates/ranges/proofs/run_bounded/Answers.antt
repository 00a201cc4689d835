-- `ranges::run_bounded` meets its contract. Assumes nothing.
use mathlib.Core.Path.{subst⁻¹}
use mathlib.Core.Bool.{Bool}
use mathlib.Core.Logic.{◌↔◌}
use lib.Dec.{T}
use lib.ListN.{length}
use Rattle.ranges.specs.Bounds.{Run}
use Rattle.ranges.proofs.run_bounded.Goals as goal

pub returns-then-low : goal.returns-then-low
returns-then-low c =
    let a = c.args in
    subst⁻¹ (λ (low : Bool). T c.run_low.result ↔ Run low a.most a.run.now 0 (length a.run.now)) c.if-low.true c.run_low.ensures

pub returns-else-low : goal.returns-else-low
returns-else-low c =
    let a = c.args in
    subst⁻¹ (λ (low : Bool). T c.run_within.result ↔ Run low a.most a.run.now 0 (length a.run.now)) c.if-low.false c.run_within.ensures
