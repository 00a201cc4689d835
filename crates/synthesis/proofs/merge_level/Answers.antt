-- `synthesis::merge_level` meets its contract. Assumes nothing.
use mathlib.Core.Path.{◌≡◌, refl, ap, ◌∙◌}
use mathlib.Core.List.{List}
use Prim.Native.Nat.{ℕ, ◌+◌, ◌/◌}
use native.Mathlib.Numerals.{add-one}
use native.Mathlib.Omega.{arith}
use lib.IntN.{ℤ}
use lib.ListN.{length}
use Rattle.pyramid.specs.Plane.{after, listed}
use Rattle.synthesis.specs.Synthesis.{merged_block, put_column, put_columns}
use Rattle.synthesis.proofs.Merging.{columns_length}
use Rattle.synthesis.proofs.merge_level.Goals as goal

pub loop-j-init : goal.loop-j-init
unfolding put_columns
loop-j-init c = (refl, refl)

pub merge_column-requires : goal.merge_column-requires
merge_column-requires c =
    record { level = c.requires.level; height_in_bounds = (omega arith, omega arith) }

pub loop-j-preserved : goal.loop-j-preserved
unfolding put_columns
loop-j-preserved c =
    let a = c.args in
    let v = merged_block a.height a.tall a.wide a.weight (after a.first (listed a.coverings.now)) a.image.now in
    let e : c.merge_column.new.out ≡ put_columns a.height v (a.tall / 4) (c.loop-j.j + 1) a.out.now =
    rw (add-one c.loop-j.j) (c.merge_column.ensures ∙ ap (λ (x : List ℤ). put_column a.height v c.loop-j.j (a.tall / 4) x) c.loop-j.invariant.1) in
    (ap length e ∙ columns_length a.height v (a.tall / 4) (c.loop-j.j + 1) a.out.now (omega arith), e)

pub returns : goal.returns
returns c =
    let a = c.args in
    let e : c.loop-j.j ≡ a.wide / 4 = omega arith in
    c.loop-j.invariant.1 ∙ ap (λ (n : ℕ). put_columns a.height (merged_block a.height a.tall a.wide a.weight (after a.first (listed a.coverings.now)) a.image.now) (a.tall / 4) n a.out.now) e
