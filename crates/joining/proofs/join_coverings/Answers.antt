-- `joining::join_coverings` meets its contract. Assumes nothing.
use mathlib.Core.Path.{refl, sym, ◌∙◌}
use Prim.Native.Nat.{◌-◌}
use native.Mathlib.Omega.{arith}
use Rattle.joining.proofs.Lists.{part_start, room_left, room_right, part-turn, part_end}
use Rattle.joining.proofs.join_coverings.Goals as goal

pub loop-init : goal.loop-init
loop-init c = (c.args.levels, omega arith, refl, part_start c.args.levels c.args.height c.args.width c.args.left.now c.args.right.now c.args.coverings.now c.requires)

pub overflow_mul-n : goal.overflow_mul-n
overflow_mul-n c = let g = room_left c.loop.invariant.3 (omega (arith, c.loop.invariant.1)) in omega arith

pub move_numbers-requires : goal.move_numbers-requires
move_numbers-requires c = room_left c.loop.invariant.3 (omega (arith, c.loop.invariant.1))

pub overflow_add-at-in-loop : goal.overflow_add-at-in-loop
overflow_add-at-in-loop c = let g = room_left c.loop.invariant.3 (omega (arith, c.loop.invariant.1)) in omega (arith, c.loop.invariant.2)

pub move_numbers-requires-in-loop : goal.move_numbers-requires-in-loop
move_numbers-requires-in-loop c =
    let g = room_left c.loop.invariant.3 (omega (arith, c.loop.invariant.1)) in
    let f = room_right c.loop.invariant.3 (omega (arith, c.loop.invariant.1)) c.move_numbers.ensures in
    (omega arith, omega arith)

pub overflow_add-first : goal.overflow_add-first
overflow_add-first c = let g = room_left c.loop.invariant.3 (omega (arith, c.loop.invariant.1)) in omega arith

pub loop-preserved : goal.loop-preserved
loop-preserved c =
    let i = c.loop.invariant in
    let t = part-turn i.3 (omega (arith, i.1)) c.move_numbers.ensures c.move_numbers-in-loop.ensures in
    (i.0 - 1, omega (arith, i.1), t.long ∙ sym i.3.long ∙ i.2, t)

pub returns : goal.returns
returns c = part_end c.loop.invariant.3 (omega (arith, c.loop.invariant.1))
