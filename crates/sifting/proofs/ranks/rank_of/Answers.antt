-- `sifting::ranks::rank_of` meets its contract. Assumes nothing.
use mathlib.Core.Path.{◌≡◌, ap, ◌∙◌, subst⁻¹}
use Prim.Native.Nat.{ℕ, ◌*◌, ◌-◌, ◌^◌, ◌<◌}
use native.Mathlib.Omega.{arith}
use lib.IntN.{nat_abs}
use mir.Facts.{to_z-of_z}
use Rattle.sifting.proofs.Sizes.{rank_small}
use Rattle.sifting.proofs.ranks.rank_of.Goals as goal

-- the product
product : (c : goal.After-doubled) → let a = c.args in c.magnitude-m.result * c.doubled.result ≡ nat_abs a.v * 2 ^ (a.levels - a.level)
product c = let m = c.magnitude-m.ensures ∙ ap nat_abs (to_z-of_z c.ranges.v) in λ i. m i * c.doubled.ensures i

small : (c : goal.After-doubled) → let a = c.args in nat_abs a.v * 2 ^ (a.levels - a.level) < 134217728
small c =
    let a = c.args in
    let p = c.requires in
    rank_small (nat_abs a.v) a.level a.levels p.levels_bound.1 p.levels_bound.2 p.levels_bound.0 p.v_bound

pub overflow_mul-result : goal.overflow_mul-result
overflow_mul-result c = omega (arith, product c, small c)

pub returns : goal.returns
returns c = (product c, subst⁻¹ (λ (x : ℕ). x < 134217728) (product c) (small c))
