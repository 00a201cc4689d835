-- `synthesis::results_of` meets its contract. Assumes nothing.
use mathlib.Core.Path.{refl, sym, ap, ◌∙◌}
use Prim.Native.Nat.{◌/◌, ◌≤◌, ◌^◌}
use native.Mathlib.Omega.{arith}
use lib.IntN.{pos, nat_abs}
use lib.ListN.{length-set}
use mir.Syntax.{w64}
use Rattle.integers.proofs.Half.{half_store, half_end}
use Rattle.integers.proofs.Signs.{kept}
use Rattle.integers.proofs.Bound.{sfits64, read}
use Rattle.kernel.specs.Kernel.{at}
use Rattle.grid.specs.Grid.{band_place}
use Rattle.synthesis.specs.Synthesis.{counted, weighted}
use Rattle.synthesis.proofs.Merging.{weighted_length, weighted_at}
use Rattle.grid.proofs.Near.{result_near}
use Rattle.synthesis.proofs.results_of.Goals as goal

pub loop-k-init : goal.loop-k-init
loop-k-init c = (c.requires.by_index, refl, refl, refl)

pub overflow_mul-place : goal.overflow_mul-place
overflow_mul-place c = omega (arith, result_near c.loop-k.k c.args.height, c.loop-k.invariant.0 (c.loop-k.k / 4) (omega arith))

pub overflow_add-place : goal.overflow_add-place
overflow_add-place c = omega (arith, result_near c.loop-k.k c.args.height, c.loop-k.invariant.0 (c.loop-k.k / 4) (omega arith))

pub overflow_add-place-in-loop-k : goal.overflow_add-place-in-loop-k
overflow_add-place-in-loop-k c = omega (arith, result_near c.loop-k.k c.args.height, c.loop-k.invariant.0 (c.loop-k.k / 4) (omega arith))

pub offset_bounds-image-place : goal.offset_bounds-image-place
offset_bounds-image-place c = omega (arith, result_near c.loop-k.k c.args.height, c.loop-k.invariant.0 (c.loop-k.k / 4) (omega arith), c.well_formed)

pub bounds-image-place : goal.bounds-image-place
bounds-image-place c = omega (arith, result_near c.loop-k.k c.args.height, c.loop-k.invariant.0 (c.loop-k.k / 4) (omega arith))

pub count-requires : goal.count-requires
count-requires c =
    let a = c.args in
    let k = c.loop-k.k in
    (c.requires.weight_bound.0, rw (kept c.count-arg-1.given, ← weighted_at a.weight (band_place a.height a.begin) a.image.now k (omega arith)) (c.requires.weight_bound.1 k (omega arith)))

pub loop-k-preserved : goal.loop-k-preserved
loop-k-preserved c =
    let inv = c.loop-k.invariant in
    let a = c.args in
    let g = band_place a.height a.begin in
    let entry = weighted_at a.weight g a.image.now c.loop-k.k (omega arith) in
    let bound : nat_abs (at (weighted a.weight g a.image.now) c.loop-k.k) ≤ 2 ^ 40 = c.requires.weight_bound.1 c.loop-k.k (omega arith) in (
      inv.0,
      inv.1,
      simp length-set (omega arith),
      half_store (weighted a.weight g a.image.now) _ c.loop-k.k (pos 0) inv.3
          (read w64 (c.count.ensures ∙ ap (counted a.weight c.loop-k.k) (kept c.count-arg-1.given) ∙ sym entry) (sfits64 (at (weighted a.weight g a.image.now) c.loop-k.k) (omega arith)))
          (weighted_length a.weight g a.image.now) (omega arith),
    )

pub returns : goal.returns
returns c =
    let inv = c.loop-k.invariant in
    let a = c.args in
    inv.3 ∙ half_end (weighted a.weight (band_place a.height a.begin) a.image.now) _ c.loop-k.k (weighted_length a.weight (band_place a.height a.begin) a.image.now) (omega arith)
