-- `windows::store_four` meets its contract. Assumes nothing.
use mathlib.Core.Path.{◌≡◌, refl, ap, ◌∙◌, subst}
use mathlib.Core.List.{List}
use Prim.Native.Nat.{ℕ, ◌+◌, ◌*◌, ◌/◌, ◌%◌}
use native.Mathlib.Omega.{arith}
use lib.IntN.{ℤ, pos}
use lib.ListN.{get_or}
use Rattle.integers.proofs.Signs.{kept}
use Rattle.pyramid.specs.Slices.{sample_of}
use Rattle.pyramid.specs.Behind.{block_list}
use Rattle.blockwise.proofs.Cells.{cell_at_law}
use Rattle.windows.specs.Shown.{rounded, Shown}
use Rattle.windows.proofs.Filling.{kept_refl, kept_trans}
use borrow.Author.Count.{below_more}
use Rattle.windows.proofs.store_four.Goals as goal

pub loop-r-init : goal.loop-r-init
loop-r-init c = (omega arith, refl, λ A e. (kept_refl _ _ _, λ a l. absurd (omega arith)))

pub store_cell-requires : goal.store_cell-requires
store_cell-requires c =
    let p = c.requires in
    record { inside = (p.inside.0, c.loop-r.invariant.1 ∙ p.inside.1); top_le_y = (omega (arith, p.levels_bound), omega (arith, p.levels_bound), p.levels_bound.3, p.levels_bound.4); levels_bound = (p.levels_bound.0, p.levels_bound.1, rw (kept c.store_cell-arg-1.given) (p.by_index (c.args.x % 4 * 4 + c.loop-r.r) (omega arith))) }

pub loop-r-preserved : goal.loop-r-preserved
loop-r-preserved c =
    let a = c.args in
    let f = sample_of a.levels in
    let r = c.loop-r.r in
    let row : (a.i * 4 + r) / 4 ≡ a.i = omega arith in
    let same : a.x % 4 * 4 + r ≡ a.x % 4 * 4 + (a.i * 4 + r) % 4 = omega arith in (
      omega arith,
      c.store_cell.auto.samples ∙ c.loop-r.invariant.1,
      λ A e.
          let p = c.loop-r.invariant.2 A e in
          let t = c.store_cell.ensures (rounded a.levels A)
          (ap f (kept {x = get_or a.values.now (a.x % 4 * 4 + r) (pos 0)} c.store_cell-arg-1.given) ∙ ap (λ (z : List ℤ). f (get_or z (a.x % 4 * 4 + r) (pos 0))) e ∙ ap (λ (n : ℕ). f (get_or (block_list A a.i (a.x / 4)) n (pos 0))) same ∙ ap f (cell_at_law A a.i (a.x / 4) (a.i * 4 + r) a.x row refl)) in
          (kept_trans a.v (rounded a.levels A) p.0 t.0, below_more _ _ (λ b m. t.0.stays (a.i * 4 + b) a.x (p.1 b m)) t.1),
    )

pub shape_of-samples : goal.shape_of-samples
shape_of-samples c = c.loop-r.invariant.1

pub returns : goal.returns
returns c =
    let a = c.args in
    λ A e.
    let p = c.loop-r.invariant.2 A e in
    (p.0, λ y q. let row : a.i * 4 + y % 4 ≡ y = omega arith in subst (λ (n : ℕ). Shown a.v (rounded a.levels A) c.loop-r.samples n a.x) row (p.1 (y % 4) (omega arith)))
