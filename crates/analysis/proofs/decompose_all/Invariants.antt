-- `analysis::decompose_all` meets its contract: the descent of proofs/Descend.antt. Assumes nothing.
use mathlib.Core.Path.{◌≡◌}
use Prim.Native.Nat.{suc, ◌*◌, ◌-◌, ◌^◌, ◌≤◌}
use lib.Dec.{T}
use lib.ListN.{length}
use Rattle.terms.specs.Terms.{among, is_list}
use Rattle.costing.specs.Costs.{Needed}
use Rattle.pyramid.specs.Plane.{all_blocks}
use Rattle.analysis.proofs.Descend.{Descended}
use Rattle.pyramid.proofs.Choose.{by_terms}
use Rattle.analysis.proofs.decompose_all.Given as goal

abbrev pub invariant-loop : goal.invariant-loop
invariant-loop l =
    (l.levels ≤ 8) × (l.height ≤ 512) × (l.width ≤ 512) × (length l.plane ≡ l.width * l.height) × (length l.coverings ≡ all_blocks l.levels l.height l.width)
    × (length l.scratch ≡ l.width * l.height) × Descended (by_terms (among l.tolerance l.list)) l.levels l.height l.width l.samples l.plane l.coverings l.chosen.counts l.tall l.wide l.first (l.levels - l.counter) × (l.tolerance ≤ 4095) × (l.slack ≡ l.tolerance * 2 ^ suc l.counter) × T (is_list l.list) × Needed l.list l.needed
