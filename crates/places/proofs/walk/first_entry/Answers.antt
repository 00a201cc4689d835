-- `places::walk::first_entry` meets its contract. Assumes nothing.
use mathlib.Core.Path.{◌≡◌, sym, ap, ◌∙◌}
use Prim.Native.Nat.{ℕ, suc, ◌-◌}
use native.Mathlib.Omega.{arith}
use Rattle.places.specs.Walk.{entry_at, first_band}
use Rattle.places.proofs.Sides.{passed}
use Rattle.places.proofs.Steps.{entry_start, entries_all}
use Rattle.places.proofs.walk.first_entry.Goals as goal
use Rattle.places.proofs.walk.first_entry.Goals.{then-levels-eq1, else-levels-eq1}

pub returns : goal.returns
returns c =
    let a = c.args in
    let p = c.requires in
    let q = passed a.height a.width a.levels p.0 p.1 in
    let b = c.if-levels-eq1.result in
    elim c.if-levels-eq1.branch [
      | then-levels-eq1 w ↦
          let o : a.levels ≡ 1 = w.if-levels-eq1.true in
          let f : b ≡ first_band entry_at 0 1 (a.levels - 1) = w.result-is ∙ ap (λ (R : ℕ). first_band entry_at 0 1 (R - 1)) (sym o) in
          record { inside = entry_start a.height a.width a.levels q b (omega arith); result_value = entries_all a.height a.width a.levels b (omega arith) f (omega arith) }
      | else-levels-eq1 w ↦
          let o : a.levels - 1 ≡ suc (a.levels - 2) = omega (arith, q.some_level, w.if-levels-eq1.false) in
          let f : b ≡ first_band entry_at 0 1 (a.levels - 1) = w.result-is ∙ ap (λ (R : ℕ). first_band entry_at 0 1 R) (sym o) in
          record { inside = entry_start a.height a.width a.levels q b (omega arith); result_value = entries_all a.height a.width a.levels b q.some_level f (omega arith) }
    ]
