-- `ranges::in_range` meets its contract: level by level, then the low-pass. Assumes nothing.
use mathlib.Core.Path.{◌≡◌, refl, subst, subst⁻¹}
use Prim.Native.Nat.{ℕ, ◌+◌, ◌-◌}
use native.Mathlib.Omega.{arith}
use lib.Dec.{T}
use Rattle.places.proofs.Sides.{passed}
use Rattle.ranges.proofs.Levels.{Looked, looked_start, start_small, room_right, room_below, most-here, not_right, not_below, next-most, next, room_low, low_small, decided}
use Rattle.ranges.proofs.in_range.Goals as goal

pub loop-init : goal.loop-init
loop-init c =
    let a = c.args in
    let z : a.levels ≡ a.levels - 0 = omega arith in
    (refl, subst (λ (k : ℕ). Looked a.levels a.height a.width a.plane.now 0 k a.height a.width) z (looked_start a.levels a.height a.width a.plane.now (passed a.height a.width a.levels c.requires.width_value.0 c.requires.width_value.1)))

pub overflow_mul-half : goal.overflow_mul-half
overflow_mul-half c = omega (arith, start_small c.loop.invariant.1 (c.args.levels - (c.loop.counter + 1)) (omega arith) c.requires.plane_len)

pub rectangle_bounded-requires : goal.rectangle_bounded-requires
rectangle_bounded-requires c =
    let l = c.loop in
    let p = c.requires.plane_len in
    (room_right l.invariant.1 (c.args.levels - (l.counter + 1)) (omega arith) p, omega (arith, l.invariant.1.tall, l.invariant.1.below), omega (arith, most-here l.invariant.1 (c.args.levels - (l.counter + 1)) (omega arith) p l.invariant.0))

pub returns-then-not-rectangle_bounded : goal.returns-then-not-rectangle_bounded
returns-then-not-rectangle_bounded c =
    let l = c.loop in
    not_right l.invariant.1 (c.args.levels - (l.counter + 1)) (omega arith) c.requires.plane_len l.invariant.0
    (λ r. subst T c.if-not-rectangle_bounded.true (c.rectangle_bounded.ensures.1 r))

pub rectangle_bounded-requires-in-loop : goal.rectangle_bounded-requires-in-loop
rectangle_bounded-requires-in-loop c =
    let l = c.loop in
    let p = c.requires.plane_len in
    (room_below l.invariant.1 (c.args.levels - (l.counter + 1)) (omega arith) p, omega (arith, l.invariant.1.tall, l.invariant.1.below), omega (arith, most-here l.invariant.1 (c.args.levels - (l.counter + 1)) (omega arith) p l.invariant.0))

pub returns-then-not-rectangle_bounded-2 : goal.returns-then-not-rectangle_bounded-2
returns-then-not-rectangle_bounded-2 c =
    let l = c.loop in
    not_below l.invariant.1 (c.args.levels - (l.counter + 1)) (omega arith) c.requires.plane_len l.invariant.0
    (λ r. subst T c.if-not-rectangle_bounded-2.true (c.rectangle_bounded-in-loop.ensures.1 r))

pub overflow_mul-most : goal.overflow_mul-most
overflow_mul-most c = let l = c.loop in omega (arith, most-here l.invariant.1 (c.args.levels - (l.counter + 1)) (omega arith) c.requires.plane_len l.invariant.0)

pub loop-preserved : goal.loop-preserved
loop-preserved c =
    let l = c.loop in
    let p = c.requires.plane_len in (
      next-most l.invariant.1 (c.args.levels - (l.counter + 1)) (omega arith) p l.invariant.0,
      next l.invariant.1 (c.args.levels - (l.counter + 1)) (omega arith) p l.invariant.0
          (c.rectangle_bounded.ensures.0 (subst⁻¹ T c.if-not-rectangle_bounded.false tt))
          (c.rectangle_bounded-in-loop.ensures.0 (subst⁻¹ T c.if-not-rectangle_bounded-2.false tt)),
    )

pub rectangle_bounded-requires-2 : goal.rectangle_bounded-requires-2
rectangle_bounded-requires-2 c =
    let l = c.loop in
    let p = c.requires.plane_len in
    (room_low l.invariant.1 (omega arith) p l.invariant.0, omega (arith, l.invariant.1.tall, l.invariant.1.below), omega (arith, low_small l.invariant.1 (omega arith) p l.invariant.0))

pub returns : goal.returns
returns c =
    let l = c.loop in
    decided l.invariant.1 (omega arith) c.requires.plane_len l.invariant.0 c.rectangle_bounded-2.result c.rectangle_bounded-2.ensures
