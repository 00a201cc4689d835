-- `sheet_scan::front::next_level` meets its contract. Assumes nothing.
use mathlib.Core.Path.{◌≡◌, sym, subst}
use Prim.Native.Nat.{ℕ, suc, ◌+◌, ◌*◌, ◌-◌, ◌/◌}
use native.Mathlib.Omega.{arith}
use Rattle.sheet_scan.specs.Front.{LevelPassed}
use Rattle.sheet_scan.proofs.Fronts.{to_none, to_last, to_next}
use Rattle.sheet_scan.proofs.front.next_level.Goals as goal

pub returns-then-k-eq1 : goal.returns-then-k-eq1
returns-then-k-eq1 c =
    to_none c.args.height c.args.width c.args.k c.requires.0 c.requires.1 (omega arith)

pub returns-then-k-eq2 : goal.returns-then-k-eq2
returns-then-k-eq2 c =
    to_last c.args.height c.args.width c.args.k c.requires.0 c.requires.1 (omega arith)

pub returns : goal.returns
returns c =
    let k = c.args.k in
    let l = k.left - 3 in
    let a : k.left ≡ suc (suc (suc l)) = omega arith in
    let b : k.left - 1 ≡ suc (suc l) = omega arith in
    subst (λ (m : ℕ). LevelPassed c.args.height c.args.width k (record { level = k.level + 1; left = m; height = k.height / 2; width = k.width / 2; from = k.width / 2 * (k.height / 2) })) (sym b)
    (to_next c.args.height c.args.width k c.requires.0 c.requires.1 l a)
