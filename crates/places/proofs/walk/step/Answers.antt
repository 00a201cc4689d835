-- `places::walk::step` meets its contract: one lemma for each way on. Assumes nothing.
use mathlib.Core.Path.{◌≡◌, refl, sym, subst}
use Prim.Native.Nat.{ℕ, suc, ◌+◌, ◌-◌, ◌<◌, ◌≤◌}
use Rattle.places.specs.Walk.{Stepped}
use native.Mathlib.Omega.{arith}
use Rattle.places.proofs.Steps.{to_cell, to_band, to_end, to_level, at_level, next_row, next_col}
use Rattle.places.proofs.walk.step.Goals as goal

pub returns-then-k : goal.returns-then-k
returns-then-k c = let k = c.args.k in to_cell c.args.height c.args.width k c.requires.0 c.requires.1 (k.row + 1) k.col (omega arith) (omega arith) (next_row k.col k.row k.height)

pub returns-then-k-2 : goal.returns-then-k-2
returns-then-k-2 c = let k = c.args.k in to_cell c.args.height c.args.width k c.requires.0 c.requires.1 0 (k.col + 1) (omega arith) (omega arith) (next_col k.col k.row k.height (omega arith))

pub returns-then-k-lt3 : goal.returns-then-k-lt3
returns-then-k-lt3 c = let k = c.args.k in to_band c.args.height c.args.width k c.requires.0 c.requires.1 (omega arith) (omega arith) (omega arith)

pub returns-then-k-eq1 : goal.returns-then-k-eq1
returns-then-k-eq1 c = let k = c.args.k in to_end c.args.height c.args.width k c.requires.0 c.requires.1 (omega arith) (omega arith) (omega arith) (omega arith)

pub returns-then-k-eq2 : goal.returns-then-k-eq2
returns-then-k-eq2 c =
    let corner : (let k = c.args.k in (k.row + 1 ≡ k.height) × (k.col + 1 ≡ k.width) × (3 ≤ k.band)) = (omega arith, omega arith, omega arith) in
    let k = c.args.k in
    let i = c.requires.1 in
    let e = corner in
    to_level c.args.height c.args.width k c.requires.0 i e.0 e.1 0 k.low c.if-k-eq2.true e.2 refl i.low

pub returns : goal.returns
returns c =
    let corner : (let k = c.args.k in (k.row + 1 ≡ k.height) × (k.col + 1 ≡ k.width) × (3 ≤ k.band)) = (omega arith, omega arith, omega arith) in
    let k = c.args.k in
    let i = c.requires.1 in
    let e = corner in
    let l = k.left - 3 in
    let p = c.requires.0 in
    let a : k.left ≡ suc (suc (suc l)) = more k.left p c.if-k-eq1.false c.if-k-eq2.false in
    let b : k.left - 1 ≡ suc (suc l) = less k.left l a in
    subst (λ (m : ℕ). Stepped c.args.height c.args.width k (at_level k m k.first)) (sym b) (to_level c.args.height c.args.width k p i e.0 e.1 (suc l) k.first a e.2 refl i.first)
  where
    more : (m : ℕ) → 0 < m → (m ≡ 1 → ⊥) → (m ≡ 2 → ⊥) → m ≡ suc (suc (suc (m - 3)))
    more m p a b = omega (arith, a, b)

    less : (m l : ℕ) → m ≡ suc (suc (suc l)) → m - 1 ≡ suc (suc l)
    less m l e = omega arith
