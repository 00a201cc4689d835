-- `synthesis::merge_column` meets its contract. Assumes nothing.
use mathlib.Core.Path.{◌≡◌, refl, ap, ◌∙◌}
use mathlib.Core.List.{List}
use Prim.Native.Nat.{ℕ, ◌+◌, ◌/◌}
use native.Mathlib.Numerals.{add-one}
use native.Mathlib.Omega.{arith}
use lib.IntN.{ℤ}
use lib.ListN.{length}
use Rattle.pyramid.specs.Plane.{after, listed}
use Rattle.synthesis.specs.Synthesis.{merged_block, put_block, put_column}
use Rattle.synthesis.proofs.Merging.{column_length}
use Rattle.synthesis.proofs.merge_column.Goals as goal

pub loop-i-init : goal.loop-i-init
unfolding put_column
loop-i-init c = (refl, refl)

pub merge_block-requires : goal.merge_block-requires
merge_block-requires c =
    record { level = c.requires.level; height_in_bounds = (omega arith, omega arith, omega arith) }

pub loop-i-preserved : goal.loop-i-preserved
unfolding put_column
loop-i-preserved c =
    let a = c.args in
    let v = merged_block a.height a.tall a.wide a.weight (after a.first (listed a.coverings.now)) a.image.now in
    let e : c.merge_block.new.out ≡ put_column a.height v a.j (c.loop-i.i + 1) a.out.now =
    rw (add-one c.loop-i.i) (c.merge_block.ensures ∙ ap (λ (x : List ℤ). put_block a.height v c.loop-i.i a.j x) c.loop-i.invariant.1) in
    (ap length e ∙ column_length a.height v a.j (c.loop-i.i + 1) a.out.now (omega arith), e)

pub returns : goal.returns
returns c =
    let a = c.args in
    let e : c.loop-i.i ≡ a.tall / 4 = omega arith in
    c.loop-i.invariant.1 ∙ ap (λ (n : ℕ). put_column a.height (merged_block a.height a.tall a.wide a.weight (after a.first (listed a.coverings.now)) a.image.now) a.j n a.out.now) e
