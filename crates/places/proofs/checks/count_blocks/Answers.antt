-- `places::checks::count_blocks` meets its contract. Assumes nothing.
use mathlib.Core.Path.{◌≡◌, ap}
use Prim.Native.Nat.{ℕ, ◌+◌, ◌-◌}
use native.Mathlib.Omega.{arith}
use Rattle.places.proofs.Tests.{blocks_next, blocks_bound}
use Rattle.pyramid.specs.Plane.{all_blocks}
use Rattle.places.proofs.checks.count_blocks.Goals as goal

pub overflow_mul-total : goal.overflow_mul-total
overflow_mul-total c = let l = c.loop in omega (arith, blocks_bound l.h l.w (omega arith) (omega arith))

pub overflow_add-total : goal.overflow_add-total
overflow_add-total c = let l = c.loop in omega (arith, blocks_bound l.h l.w (omega arith) (omega arith))

pub loop-preserved : goal.loop-preserved
loop-preserved c =
    let l = c.loop in
    let b = blocks_bound l.h l.w (omega arith) (omega arith) in
    let n = blocks_next (c.args.levels - l.counter) (c.args.levels - (l.counter + 1)) l.h l.w (omega arith) in
    (omega arith, omega arith, omega arith, omega arith)

pub returns : goal.returns
returns c =
    let l = c.loop in
    let z : c.args.levels - l.counter ≡ 0 = omega arith in
    (omega (arith, ap (λ (n : ℕ). all_blocks n l.h l.w) z), omega arith)
