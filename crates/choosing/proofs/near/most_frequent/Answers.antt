-- `choosing::near::most_frequent` meets its contract. The loop's invariant: each of the two leads what is passed of its part. Assumes nothing.
use mathlib.Core.Path.{◌≡◌, refl, subst}
use Prim.Native.Nat.{ℕ, suc, ◌+◌}
use native.Mathlib.Omega.{arith}
use lib.ListN.{get_or}
use Rattle.choosing.proofs.Leading.{Leads, leads_none, leads_next, leads_both, leads_all}
use Rattle.choosing.proofs.near.most_frequent.Goals as goal

pub loop-k-init : goal.loop-k-init
loop-k-init c = let x = c.args in (leads_none 117 (λ n. get_or x.all.now n 0) (λ n. get_or x.counts.now n 0) x.most 0 _ refl, leads_none 117 (λ n. get_or x.all.now n 0) (λ n. get_or x.counts.now n 0) x.most 59 _ refl)

pub loop-k-preserved : goal.loop-k-preserved
loop-k-preserved c =
    let x = c.args in
    let inv = c.loop-k.invariant in
    let k = c.loop-k.k in
    let one : suc k ≡ k + 1 = omega arith in
    let other : suc (k + 59) ≡ k + 1 + 59 = omega arith in (
      subst (λ (n : ℕ). Leads 117 (λ n. get_or x.all.now n 0) (λ n. get_or x.counts.now n 0) x.most 0 n c.preferred-low.result) one
          (leads_next 117 (λ n. get_or x.all.now n 0) (λ n. get_or x.counts.now n 0) x.most 0 k c.loop-k.low c.placed.result c.preferred-low.result (omega arith) (omega arith) inv.0 c.placed.ensures c.preferred-low.ensures),
      subst (λ (n : ℕ). Leads 117 (λ n. get_or x.all.now n 0) (λ n. get_or x.counts.now n 0) x.most 59 n c.preferred-high.result) other
          (leads_next 117 (λ n. get_or x.all.now n 0) (λ n. get_or x.counts.now n 0) x.most 59 (k + 59) c.loop-k.high c.placed-in-loop-k.result c.preferred-high.result (omega arith) (omega arith) inv.1 c.placed-in-loop-k.ensures c.preferred-high.ensures),
    )

pub returns : goal.returns
returns c =
    let x = c.args in
    let inv = c.loop-k.invariant in
    let k : c.loop-k.k ≡ 58 = omega arith in
    let high : c.loop-k.k + 59 ≡ 117 = omega arith in
    leads_all 117 (λ n. get_or x.all.now n 0) (λ n. get_or x.counts.now n 0) x.most c.preferred.result
    (leads_both 117 (λ n. get_or x.all.now n 0) (λ n. get_or x.counts.now n 0) x.most 59 c.preferred-low-2.result c.loop-k.high c.preferred.result (omega arith)
    (leads_next 117 (λ n. get_or x.all.now n 0) (λ n. get_or x.counts.now n 0) x.most 0 58 c.loop-k.low c.placed-2.result c.preferred-low-2.result (omega arith) (omega arith) (subst (λ (n : ℕ). Leads 117 (λ n. get_or x.all.now n 0) (λ n. get_or x.counts.now n 0) x.most 0 n c.loop-k.low) k inv.0) c.placed-2.ensures c.preferred-low-2.ensures)
    (subst (λ (n : ℕ). Leads 117 (λ n. get_or x.all.now n 0) (λ n. get_or x.counts.now n 0) x.most 59 n c.loop-k.high) high inv.1)
    c.preferred.ensures)
