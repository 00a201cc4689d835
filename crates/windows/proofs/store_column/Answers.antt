-- `windows::store_column` meets its contract. Assumes nothing.
use mathlib.Core.Path.{◌≡◌, refl, ap, ◌∙◌}
use mathlib.Core.List.{List}
use Prim.Native.Nat.{◌+◌, ◌*◌, ◌/◌, ◌%◌}
use native.Mathlib.Omega.{arith}
use lib.IntN.{ℤ, pos}
use lib.ListN.{get_or}
use Rattle.integers.proofs.Signs.{kept}
use Rattle.pyramid.specs.Slices.{sample_of}
use Rattle.blockwise.proofs.Cells.{cell_at_law}
use Rattle.windows.specs.Shown.{rounded}
use Rattle.windows.proofs.Filling.{kept_refl, kept_trans}
use borrow.Author.Count.{below_more}
use Rattle.windows.proofs.store_column.Goals as goal

pub loop-y-init : goal.loop-y-init
loop-y-init c =
    (omega arith, omega arith, refl, λ A e. (kept_refl _ _ _, λ r m q a b f d. absurd (omega arith)))

pub store_cell-requires : goal.store_cell-requires
store_cell-requires c =
    let p = c.requires in
    record { inside = (p.inside.0, c.loop-y.invariant.2 ∙ p.inside.1); top_le_y = (omega arith, omega arith, p.levels_bound.3, p.levels_bound.4); levels_bound = (p.levels_bound.0, p.levels_bound.1, rw (kept c.store_cell-arg-1.given) (p.by_index (c.args.x % 4 * 4 + c.loop-y.y % 4) (omega arith))) }

pub loop-y-preserved : goal.loop-y-preserved
loop-y-preserved c =
    let a = c.args in
    let f = sample_of a.levels in
    let k = a.x % 4 * 4 + c.loop-y.y % 4 in
    let row : c.loop-y.y / 4 ≡ a.i = omega arith in (
      omega arith,
      omega arith,
      c.store_cell.auto.samples ∙ c.loop-y.invariant.2,
      λ A e.
          let p = c.loop-y.invariant.3 A e in
          let t = c.store_cell.ensures (rounded a.levels A) (ap f (kept {x = get_or a.values.now k (pos 0)} c.store_cell-arg-1.given) ∙ ap (λ (z : List ℤ). f (get_or z k (pos 0))) e ∙ ap f (cell_at_law A a.i (a.x / 4) c.loop-y.y a.x row refl)) in
          (kept_trans a.v (rounded a.levels A) p.0 t.0, below_more _ _ (λ r m q. t.0.stays r a.x (p.1 r m q)) (λ q. t.1)),
    )

pub shape_of-samples : goal.shape_of-samples
shape_of-samples c = c.loop-y.invariant.2

pub returns : goal.returns
returns c =
    λ A e. let p = c.loop-y.invariant.3 A e in (p.0, λ y q a b f d. p.1 y (omega arith) q a b f d)
