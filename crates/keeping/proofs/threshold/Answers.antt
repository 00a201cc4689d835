-- `keeping::threshold` meets its contract: its checks, then the work. Assumes nothing.
use mathlib.Core.Path.{◌≡◌, refl, ap}
use Prim.Native.Nat.{ℕ, ◌*◌, ◌^◌, ◌≤◌}
use native.Mathlib.Nat.{pow-le-pow_right, mul-le-mul}
use native.Mathlib.Omega.{arith}
use Rattle.refusals.proofs.After.{passed_by}
use Rattle.sifting.specs.Sifting.{Ready}
use Rattle.keeping.specs.Entries.{cut_refusal}
use Rattle.keeping.proofs.Checks.{sized, rejects, cuttable, cuts}
use Rattle.keeping.proofs.threshold.Goals as goal
use Rattle.keeping.proofs.threshold.Goals.{In_ok-threshold_checks}

accepted : (c : goal.In_ok-threshold_checks) → let a = c.args in 0 ≡ cut_refusal a.height a.width a.levels a.plane.now a.limit
accepted c = passed_by c.in_ok-threshold_checks.was c.threshold_checks.ensures

passed : (c : goal.In_ok-threshold_checks) → let a = c.args in Ready a.height a.width a.levels a.plane.now × (a.limit ≤ 1000000)
passed c = let a = c.args in cuttable a.height a.width a.levels a.plane.now a.limit (accepted c)

pub overflow_cast-h : goal.overflow_cast-h
overflow_cast-h c = omega (arith, (sized (passed c).0).tall)

pub overflow_cast-w : goal.overflow_cast-w
overflow_cast-w c = omega (arith, (sized (passed c).0).wide)

pub overflow_cast-r : goal.overflow_cast-r
overflow_cast-r c = omega (arith, (sized (passed c).0).few)

pub overflow_mul-area : goal.overflow_mul-area
overflow_mul-area c = omega (arith, (sized (passed c).0).area)

pub doubled-requires : goal.doubled-requires
doubled-requires c = (sized (passed c).0).few

pub overflow_mul-least : goal.overflow_mul-least
overflow_mul-least c =
    let p : 2 ^ c.args.levels ≤ 2 ^ 8 = pow-le-pow_right {n = 2} (omega arith) (sized (passed (goal.at.overflow_mul-least c).In_ok-threshold_checks).0).few in
    let d : c.doubled.result ≤ 256 = omega (arith, c.doubled.ensures) in
    omega (arith, mul-le-mul (passed (goal.at.overflow_mul-least c).In_ok-threshold_checks).1 d)

pub sift-requires : goal.sift-requires
sift-requires c = (passed (goal.at.sift-requires c).In_ok-threshold_checks).0

pub returns : goal.returns
returns c =
    let a = c.args in
    cuts _ _ _ _ _ (accepted (goal.at.returns c).In_ok-threshold_checks) _ _ _ c.sift.result (ap (λ (x : ℕ). a.limit * x) c.doubled.ensures) refl c.sift.ensures
