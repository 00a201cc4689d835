-- `calibration::search::no_tie` meets its contract. Assumes nothing.
use mathlib.Core.Path.{refl, sym, ap, ◌∙◌}
use mathlib.Core.Bool.{Bool, ◌||◌}
use Prim.Native.Nat.{ℕ}
use borrow.Author.Tests.{eq-eqb, ne_eqb}
use lib.Dec.{ltb}
use Rattle.terms.specs.Terms.{cost_at}
use Rattle.kernel.specs.Kernel.{at}
use Rattle.calibration.proofs.search.no_tie.Goals as goal

pub returns-then-m-covering : goal.returns-then-m-covering
returns-then-m-covering c v e = rw (eq-eqb c.args.m c.args.covering c.if-m-covering.true) refl

pub returns-else-m-covering : goal.returns-else-m-covering
returns-else-m-covering c v e =
    let x = c.args in
    ap (λ (k : ℕ). ltb 0 k) (c.covering_cost.ensures.1 v e) ∙ sym (ap (λ (b : Bool). b || ltb 0 (cost_at (at v) x.m)) (ne_eqb x.m x.covering c.if-m-covering.false))
