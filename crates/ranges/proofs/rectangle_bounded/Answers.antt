-- `ranges::rectangle_bounded` meets its contract: column by column. Assumes nothing.
use mathlib.Core.Path.{◌≡◌, subst, subst⁻¹}
use Prim.Native.Nat.{ℕ, ◌+◌, ◌*◌, ◌≤◌}
use mathlib.Core.Logic.{◌↔◌}
use lib.ListN.{length}
use native.Mathlib.Omega.{arith}
use lib.Dec.{T}
use Rattle.ranges.specs.Bounds.{Run, Rectangle}
use Rattle.ranges.proofs.Runs.{rectangle_none, rectangle_next, rectangle_column, run_part}
use Rattle.ranges.proofs.rectangle_bounded.Goals as goal
use Rattle.ranges.proofs.rectangle_bounded.Goals.{In-loop-c, After-run_bounded}

pub loop-c-init : goal.loop-c-init
loop-c-init c = rectangle_none c.args.low c.args.most c.args.plane.now c.args.height c.args.first c.args.tall

inside : (c : goal.In-loop-c) → c.args.first + c.loop-c.c * c.args.height + c.args.tall ≤ length c.args.plane.now
inside c = omega (arith, c.requires.0 c.loop-c.c (omega arith))

pub overflow_mul-start : goal.overflow_mul-start
overflow_mul-start c = omega (arith, inside (goal.at.overflow_mul-start c).In-loop-c)

pub overflow_add-start : goal.overflow_add-start
overflow_add-start c = omega (arith, inside (goal.at.overflow_add-start c).In-loop-c)

pub overflow_add-start-in-loop-c : goal.overflow_add-start-in-loop-c
overflow_add-start-in-loop-c c = omega (arith, inside (goal.at.overflow_add-start-in-loop-c c).In-loop-c)

said : (c : goal.After-run_bounded) → let a = c.args in T c.run_bounded.result ↔ Run a.low a.most a.plane.now (a.first + c.loop-c.c * a.height) a.tall
said c =
    let a = c.args in
    let r = run_part a.low a.most a.plane.now (a.first + c.loop-c.c * a.height) a.tall (inside (goal.at.After-run_bounded c).In-loop-c) in
    let e = c.run_bounded.ensures in
    ((λ t. r.0 (e.0 t)), (λ x. e.1 (r.1 x)))

pub returns-then-not-run_bounded : goal.returns-then-not-run_bounded
returns-then-not-run_bounded c =
    let a = c.args in
    let s = said (goal.at.returns-then-not-run_bounded c).After-run_bounded in (
      (λ t. absurd t),
      (λ r. absurd (subst T c.if-not-run_bounded.true (s.1 (rectangle_column a.low a.most a.plane.now a.height a.first a.tall a.wide c.loop-c.c (omega arith) r)))),
    )

pub loop-c-preserved : goal.loop-c-preserved
loop-c-preserved c =
    let a = c.args in
    let s = said (goal.at.loop-c-preserved c).After-run_bounded in
    rectangle_next a.low a.most a.plane.now a.height a.first a.tall c.loop-c.c c.loop-c.invariant (s.0 (subst⁻¹ T c.if-not-run_bounded.false tt))

pub returns : goal.returns
returns c =
    let a = c.args in
    let l = c.loop-c in
    let e : l.c ≡ a.wide = omega arith in
    ((λ t. subst (λ (c : ℕ). Rectangle a.low a.most a.plane.now a.height a.first a.tall c) e l.invariant), (λ r. tt))
