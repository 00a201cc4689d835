-- `sheet_scan::front::first` meets its contract. Assumes nothing.
use mathlib.Core.Path.{◌≡◌, refl, sym, subst}
use Prim.Native.Nat.{ℕ, ◌/◌, ◌<◌, ◌≤◌}
use native.Mathlib.Nat.{mul-le-mul}
use native.Mathlib.Omega.{arith}
use Rattle.places.proofs.Sides.{Passed, passed}
use Rattle.pyramid.specs.Places.{plane_places}
use Rattle.sheet_scan.specs.Front.{Standing, places_left}
use Rattle.sheet_scan.proofs.Fronts.{first_last, first_other}
use Rattle.sheet_scan.proofs.front.first.Goals as goal

pub returns-then-levels-eq1 : goal.returns-then-levels-eq1
returns-then-levels-eq1 c =
    let a = c.args in
    let q = passed a.height a.width a.levels c.requires.0 c.requires.1 in
    let e : a.levels ≡ 1 = c.if-levels-eq1.true in
    subst (λ (R : ℕ). Standing a.height a.width (record { level = 1; left = 1; height = a.height / 2; width = a.width / 2; from = 0 }) × (0 < 1) × (places_left (record { level = 1; left = 1; height = a.height / 2; width = a.width / 2; from = 0 }) ≡ plane_places R a.height a.width)) (sym e)
    (first_last a.height a.width (subst (λ (R : ℕ). Passed a.height a.width R) e q) _ refl)

pub overflow_mul-result : goal.overflow_mul-result
overflow_mul-result c =
    let q = passed c.args.height c.args.width c.args.levels c.requires.0 c.requires.1 in
    let h : c.args.height / 2 ≤ 256 = omega (arith, q.tall) in
    let w : c.args.width / 2 ≤ 256 = omega (arith, q.wide) in
    omega (arith, mul-le-mul w h)

pub returns : goal.returns
returns c =
    let a = c.args in
    first_other a.height a.width a.levels (passed a.height a.width a.levels c.requires.0 c.requires.1) c.if-levels-eq1.false _ refl
