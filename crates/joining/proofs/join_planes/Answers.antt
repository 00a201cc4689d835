-- `joining::join_planes` meets its contract. Assumes nothing.
use mathlib.Core.Path.{refl, ◌∙◌}
use Prim.Native.Nat.{◌-◌}
use native.Mathlib.Omega.{arith}
use Rattle.joining.proofs.Halves.{half_start, room_right, room_below, half-turn, room_low, half_end}
use Rattle.joining.proofs.join_planes.Goals as goal

pub loop-init : goal.loop-init
loop-init c = (c.args.levels, omega arith, refl, half_start _ _ _ _ _ _ c.requires)

pub put_pair-requires : goal.put_pair-requires
put_pair-requires c = room_right c.loop.invariant.3 (omega (arith, c.loop.invariant.1)) c.requires.left c.requires.right

pub put_pair-requires-in-loop : goal.put_pair-requires-in-loop
put_pair-requires-in-loop c = room_below c.loop.invariant.3 (omega (arith, c.loop.invariant.1)) c.requires.left c.requires.right c.put_pair.ensures

pub put_pair-requires-2 : goal.put_pair-requires-2
put_pair-requires-2 c = room_low c.loop.invariant.3 (omega (arith, c.loop.invariant.1)) c.requires.left c.requires.right

pub loop-preserved : goal.loop-preserved
loop-preserved c =
    let i = c.loop.invariant in (
      i.0 - 1,
      omega (arith, i.1),
      c.put_pair-in-loop.ensures.long ∙ c.put_pair.ensures.long ∙ i.2,
      half-turn i.3 (omega (arith, i.1)) c.requires.left c.requires.right c.put_pair.ensures c.put_pair-in-loop.ensures,
    )

pub returns : goal.returns
returns c = half_end c.loop.invariant.3 (omega (arith, c.loop.invariant.1)) c.requires.left c.requires.right c.put_pair-2.ensures
