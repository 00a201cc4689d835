-- `places::checks::count_blocks` meets its contract. Assumes nothing.
use mathlib.Core.Path.{◌≡◌}
use Prim.Native.Nat.{◌+◌, ◌*◌, ◌-◌, ◌≤◌}
use Rattle.pyramid.specs.Plane.{all_blocks}
use Rattle.places.proofs.checks.count_blocks.Given as goal

abbrev pub invariant-loop : goal.invariant-loop
invariant-loop l = (l.h ≤ 512) × (l.w ≤ 512) × (l.total ≤ 16384 * l.counter) × (l.total + all_blocks (l.levels - l.counter) l.h l.w ≡ all_blocks l.levels l.height l.width)
