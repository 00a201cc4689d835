-- `windows::store_whole` meets its contract. Assumes nothing.
use mathlib.Core.Path.{◌≡◌, refl, ap, ◌∙◌, subst}
use Prim.Native.Nat.{◌+◌, ◌*◌, ◌/◌, ◌%◌}
use native.Mathlib.Omega.{arith}
use Rattle.pyramid.specs.Behind.{block_list}
use Rattle.windows.specs.Shown.{rounded, Shown}
use Rattle.windows.proofs.Filling.{kept_refl, kept_trans, holding_is}
use borrow.Author.Count.{below_more}
use Rattle.windows.proofs.store_whole.Goals as goal

pub loop-c-init : goal.loop-c-init
loop-c-init c = (omega arith, refl, λ A e. (kept_refl _ _ _, λ a l. absurd (omega arith)))

pub store_four-requires : goal.store_four-requires
store_four-requires c =
    let a = c.args in
    let p = c.requires in
    let h = holding_is a.v a.i a.j p.inside.2 in
    record { inside = (p.inside.0, c.loop-c.invariant.1 ∙ p.inside.1); levels_bound = (p.levels_bound.0, p.levels_bound.1, p.levels_bound.2, omega (arith, h), omega (arith, h), h.0, h.1); by_index = p.by_index }

pub loop-c-preserved : goal.loop-c-preserved
loop-c-preserved c =
    let a = c.args in
    let col : a.j ≡ (a.j * 4 + c.loop-c.c) / 4 = omega arith in (
      omega arith,
      c.store_four.auto.samples ∙ c.loop-c.invariant.1,
      λ A e.
          let p = c.loop-c.invariant.2 A e in
          let t = c.store_four.ensures A (e ∙ ap (block_list A a.i) col) in
          (kept_trans a.v (rounded a.levels A) p.0 t.0, below_more _ _ (λ b m y f. t.0.stays y (a.j * 4 + b) (p.1 b m y f)) t.1),
    )

pub shape_of-samples : goal.shape_of-samples
shape_of-samples c = c.loop-c.invariant.1

pub returns : goal.returns
returns c =
    let a = c.args in
    λ A e.
    let p = c.loop-c.invariant.2 A e in
    (p.0, λ y x f q. let column : a.j * 4 + x % 4 ≡ x = omega arith in subst (Shown a.v (rounded a.levels A) c.loop-c.samples y) column (p.1 (x % 4) (omega arith) y f))
