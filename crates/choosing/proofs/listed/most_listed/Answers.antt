-- `choosing::listed::most_listed` meets its contract. The loop's invariant: the leader leads what is passed of the list. Assumes nothing.
use mathlib.Core.Path.{◌≡◌, refl, subst}
use mathlib.Core.List.{List}
use Prim.Native.Nat.{ℕ, suc, ◌+◌, ◌-◌, ◌<◌, ◌≤◌}
use native.Mathlib.Omega.{arith}
use lib.Dec.{T}
use lib.ListN.{length, get_or}
use Rattle.coverings.specs.Rule.{Number}
use Rattle.terms.specs.Terms.{is_list}
use Rattle.terms.proofs.Good.{entry, short}
use Rattle.choosing.proofs.Leading.{Leads, leads_none, leads_next, leads_all}
use Rattle.choosing.proofs.listed.most_listed.Goals as goal

number : (list : List ℕ) (k : ℕ) → T (is_list list) → k < length list → Number (get_or list k 0) × (length list ≤ 117)
number list k h l = (entry list h k l, short list h)

pub loop-k-init : goal.loop-k-init
loop-k-init c = leads_none _ _ _ _ 0 _ refl

pub overflow_sub-n : goal.overflow_sub-n
overflow_sub-n c = (number _ _ c.requires c.loop-k-test.true).0.0

pub offset_bounds-all-k : goal.offset_bounds-all-k
offset_bounds-all-k c = omega (arith, number _ _ c.requires c.loop-k-test.true)

pub bounds-all-k : goal.bounds-all-k
bounds-all-k c = omega (arith, number _ _ c.requires c.loop-k-test.true)

pub bounds-counts-n : goal.bounds-counts-n
bounds-counts-n c = omega (arith, number _ _ c.requires c.loop-k-test.true)

pub placed-requires : goal.placed-requires
placed-requires c = omega (arith, number _ _ c.requires c.loop-k-test.true)

pub loop-k-preserved : goal.loop-k-preserved
loop-k-preserved c =
    let x = c.args in
    let k = c.loop-k.k in
    let one : suc k ≡ k + 1 = omega arith in
    subst (λ (n : ℕ). Leads (length x.list.now) (λ n. get_or x.all.now n 0) (λ n. get_or x.counts.now (get_or x.list.now n 0 - 1) 0) x.most 0 n c.preferred-leader.result) one
    (leads_next _ _ _ _ 0 k c.loop-k.leader c.placed.result c.preferred-leader.result (omega arith) (omega arith) c.loop-k.invariant c.placed.ensures c.preferred-leader.ensures)

pub returns : goal.returns
returns c =
    let x = c.args in
    let e : c.loop-k.k ≡ length x.list.now = omega arith in
    leads_all _ _ _ _ c.loop-k.leader (subst (λ (n : ℕ). Leads (length x.list.now) (λ n. get_or x.all.now n 0) (λ n. get_or x.counts.now (get_or x.list.now n 0 - 1) 0) x.most 0 n c.loop-k.leader) e c.loop-k.invariant)
