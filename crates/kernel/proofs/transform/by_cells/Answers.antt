-- `kernel::transform::by_cells` meets its contract. The loop's invariant: each cell whose number is passed has its value. Assumes nothing.
use mathlib.Core.Path.{◌≡◌, refl, ap, ◌∙◌}
use mathlib.Core.List.{List}
use native.Mathlib.Omega.{arith}
use borrow.Author.Rules.{rules}
use mir.Syntax.{w64}
use mir.Val.{to_z, of_z}
use lib.IntN.{ℤ}
use lib.ListN.{length-set}
use Rattle.kernel.specs.Kernel.{at}
use Rattle.tables.proofs.Entries.{number_of, number_below}
use Rattle.kernel.proofs.Kernel.{put_more, put_all}
use Rattle.kernel.proofs.transform.by_cells.Goals as goal

pub loop-k-init : goal.loop-k-init
loop-k-init c = (refl, λ a h l. absurd (omega arith))

pub loop-k-preserved : goal.loop-k-preserved
loop-k-preserved c =
    let inv = c.loop-k.invariant in
    let read : to_z w64 (of_z w64 (at c.args.labelled c.loop-k.k)) ≡ at c.args.labelled c.loop-k.k = search rules in (
      simp length-set (omega arith),
      put_more c.args.covering c.loop-k.k c.args.labelled c.loop-k.values c.cell_at-cell.result _ c.requires (omega arith) inv.0 c.cell_at-cell.ensures read inv.1,
    )

pub returns : goal.returns
returns c =
    let n = c.args.covering in
    let inv = c.loop-k.invariant in
    λ t e.
    put_all n t c.loop-k.values c.requires inv.0 (λ a h. inv.1 a h (omega (arith, number_below n a c.requires h)) ∙ ap (λ (x : List ℤ). at x (number_of n a)) e)
