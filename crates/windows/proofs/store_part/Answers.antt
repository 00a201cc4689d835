-- `windows::store_part` meets its contract. Assumes nothing.
use mathlib.Core.Path.{◌≡◌, refl, ap, ◌∙◌}
use Prim.Native.Nat.{◌/◌}
use native.Mathlib.Omega.{arith}
use Rattle.pyramid.specs.Behind.{block_list}
use Rattle.windows.specs.Shown.{rounded}
use Rattle.windows.proofs.Filling.{kept_refl, kept_trans}
use borrow.Author.Count.{below_more}
use Rattle.windows.proofs.store_part.Goals as goal

pub loop-x-init : goal.loop-x-init
loop-x-init c =
    (omega arith, omega arith, refl, λ A e. (kept_refl _ _ _, λ r m q y p a b f d. absurd (omega arith)))

pub store_column-requires : goal.store_column-requires
store_column-requires c =
    let p = c.requires in
    record { inside = (p.inside.0, omega (arith, p.inside.1)); levels_bound = (p.levels_bound.0, p.levels_bound.1, p.levels_bound.2, omega arith, omega arith); by_index = p.by_index }

pub loop-x-preserved : goal.loop-x-preserved
loop-x-preserved c =
    let a = c.args in
    let col : a.j ≡ c.loop-x.x / 4 = omega arith in (
      omega arith,
      omega arith,
      c.store_column.auto.samples ∙ c.loop-x.invariant.2,
      λ A e.
          let p = c.loop-x.invariant.3 A e in
          let t = c.store_column.ensures A (e ∙ ap (block_list A a.i) col) in
          (kept_trans a.v (rounded a.levels A) p.0 t.0, below_more _ _ (λ r m q y f. t.0.stays y r (p.1 r m q y f)) (λ q. t.1)),
    )

pub shape_of-samples : goal.shape_of-samples
shape_of-samples c = c.loop-x.invariant.2

pub returns : goal.returns
returns c =
    λ A e. let p = c.loop-x.invariant.3 A e in (p.0, λ y x f q a b g d. p.1 x (omega arith) q y f a b g d)
