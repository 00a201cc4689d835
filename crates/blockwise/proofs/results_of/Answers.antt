-- `blockwise::results_of` meets its contract. Assumes nothing.
use mathlib.Core.Path.{refl, sym, ap, ◌∙◌, subst}
use Prim.Native.Nat.{◌+◌, ◌*◌, ◌/◌, ◌%◌, ◌<◌, ◌≤◌, ◌^◌}
use native.Mathlib.Omega.{arith}
use lib.IntN.{ℤ, pos, nat_abs, ◌*ℤ◌}
use lib.ListN.{length, get_or, length-set}
use mir.Syntax.{w64}
use Rattle.integers.proofs.Half.{half_store}
use Rattle.integers.proofs.Signs.{kept}
use Rattle.integers.proofs.Bound.{sfits64, read}
use Rattle.kernel.specs.Kernel.{at}
use Rattle.grid.specs.Grid.{band_place}
use Rattle.grid.proofs.Near.{result_near}
use Rattle.synthesis.specs.Synthesis.{counted}
use Rattle.synthesis.proofs.Counted.{counted_high}
use Rattle.blockwise.specs.Node.{results_over}
use Rattle.blockwise.proofs.Merged.{over_length, over_high, over_read, over_end}
use Rattle.blockwise.proofs.results_of.Goals as goal

near : (c : goal.In-loop-k) → let l = c.loop-k in let a = c.args in
    (l.k % 4 / 2 * a.height ≤ 1 * a.height) × (get_or a.begin (l.k / 4) 0 + a.height + 1 < length a.plane.now)
near c = let l = c.loop-k in (result_near l.k c.args.height, l.invariant.2 (l.k / 4) (omega arith))

pub loop-k-init : goal.loop-k-init
unfolding results_over
loop-k-init c = (omega arith, omega arith, c.requires.by_index, refl, refl, refl)

pub overflow_mul-place : goal.overflow_mul-place
overflow_mul-place c = omega (arith, near c)

pub overflow_add-place : goal.overflow_add-place
overflow_add-place c = omega (arith, near c)

pub overflow_add-place-in-loop-k : goal.overflow_add-place-in-loop-k
overflow_add-place-in-loop-k c = omega (arith, near c)

pub offset_bounds-plane-place : goal.offset_bounds-plane-place
offset_bounds-plane-place c = omega (arith, near c, c.well_formed)

pub bounds-plane-place : goal.bounds-plane-place
bounds-plane-place c = omega (arith, near c)

pub count-requires : goal.count-requires
count-requires c =
    let a = c.args in
    let k = c.loop-k.k in (
      c.requires.weight_bound.0,
      rw (kept c.count-arg-1.given, counted_high a.weight k (at a.plane.now (band_place a.height a.begin k)) (omega arith), ← over_high a.weight (band_place a.height a.begin) a.low a.plane.now k (omega arith) (omega arith))
          (c.requires.weight_bound.1 k (omega arith)),
    )

pub loop-k-preserved : goal.loop-k-preserved
loop-k-preserved c =
    let inv = c.loop-k.invariant in
    let a = c.args in
    let k = c.loop-k.k in
    let g = band_place a.height a.begin in
    let z = at a.plane.now (g k) in
    let bound : nat_abs (pos a.weight *ℤ z) ≤ 2 ^ 40 = subst (λ (z : ℤ). nat_abs z ≤ 2 ^ 40) (over_high a.weight g a.low a.plane.now k (omega arith) (omega arith)) (c.requires.weight_bound.1 k (omega arith)) in (
      omega arith,
      omega arith,
      inv.2,
      inv.3,
      simp length-set (omega arith),
      half_store (results_over a.weight g _ a.plane.now) _ k (pos 0) inv.5
          (read w64 (c.count.ensures ∙ ap (counted a.weight k) (kept c.count-arg-1.given) ∙ counted_high a.weight k z (omega arith)) (sfits64 (pos a.weight *ℤ z) (omega arith)) ∙ sym (over_high a.weight g _ a.plane.now k (omega arith) (omega arith)))
          (over_length a.weight g _ a.plane.now ∙ sym inv.3) (omega arith),
    )

pub returns : goal.returns
returns c =
    let inv = c.loop-k.invariant in
    let a = c.args in
    let g = band_place a.height a.begin in
    over_end a.weight g a.low a.plane.now _ c.loop-k.k inv.5 inv.3 (omega arith)
    (over_read a.weight g a.low a.plane.now _ c.v-1.given c.v-2-1.given c.v-3-1.given c.v-4-1.given)
