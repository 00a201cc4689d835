-- `sifting::ranks::most_entries` meets its contract. Assumes nothing.
use mathlib.Core.Path.{ap, ◌∙◌}
use Prim.Native.Nat.{ℕ, ◌*◌, ◌-◌, ◌/◌, ◌≤◌}
use native.Mathlib.Nat.{one-le-pow, div-le_self, mul-le-mul}
use native.Mathlib.Omega.{arith}
use Rattle.places.proofs.Sides.{Passed, passed}
use Rattle.sifting.proofs.Sizes.{quota_limit_law}
use Rattle.sifting.proofs.ranks.most_entries.Goals as goal

passes : (c : goal.Start) → Passed c.args.height c.args.width c.args.levels
passes c = passed c.args.height c.args.width c.args.levels c.requires.0 c.requires.1

-- products that fit: also that of the height with itself, so that the edit quota_of_square fails at the contract
room : (c : goal.Start) → (c.args.width * c.args.height ≤ 262144) × (c.args.height * c.args.height ≤ 262144)
room c = let z = passes c in (z.area, mul-le-mul z.tall z.tall)

pub overflow_mul-area : goal.overflow_mul-area
overflow_mul-area c = omega (arith, (room c).0, (room c).1)

pub overflow_cast-area : goal.overflow_cast-area
overflow_cast-area c = omega (arith, (room c).0, (room c).1)

pub power-requires : goal.power-requires
power-requires c = omega (arith, (passes c).few)

pub nonzero_div-result : goal.nonzero_div-result
nonzero_div-result c = omega (arith, c.power.ensures, one-le-pow c.args.levels 4 (omega arith))

pub overflow_sub-result : goal.overflow_sub-result
overflow_sub-result c = div-le_self _ c.power.result

pub returns : goal.returns
returns c =
    let a = c.args in
    let e = ap (λ (x : ℕ). a.width * a.height - a.width * a.height / x) c.power.ensures in
    (e, e ∙ quota_limit_law a.levels a.height a.width (passes c.before).fits)
