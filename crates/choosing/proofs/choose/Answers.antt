-- `choosing::choose` meets its contract: a list of 117 is that of all, and with no tolerance the choice is that of the least. Assumes nothing.
use mathlib.Core.Path.{◌≡◌, sym, ap, ◌∙◌}
use mathlib.Core.List.{List}
use Prim.Native.Nat.{ℕ}
use native.Mathlib.Omega.{arith}
use lib.ListN.{length}
use Rattle.terms.specs.Terms.{all_numbers, among, pick_terms}
use Rattle.terms.proofs.All.{without}
use Rattle.terms.proofs.Good.{short, full}
use Rattle.kernel.specs.Kernel.{at}
use Rattle.choosing.proofs.choose.Goals as goal

pub returns-then-list-lt117 : goal.returns-then-list-lt117
returns-then-list-lt117 c = c.choose_listed.ensures

pub returns-then-slack-eq0 : goal.returns-then-slack-eq0
returns-then-slack-eq0 c =
    let all : (let x = c.args in all_numbers ≡ x.list.now) = let l = c.args.list.now in
    let e : length l ≡ 117 = omega (arith, short l c.requires.2) in
    sym ((full l c.requires.2).0 e) in
    let x = c.args in
    let z : 0 ≡ x.slack = omega arith in
    (c.choose_least.ensures.0, λ earlier e. c.choose_least.ensures.1 earlier e ∙ sym (without earlier (at x.v)) ∙ λ i. pick_terms (among (z i) (all i)) earlier (at x.v))

pub returns : goal.returns
returns c =
    let all : (let x = c.args in all_numbers ≡ x.list.now) = let l = c.args.list.now in
    let e : length l ≡ 117 = omega (arith, short l c.requires.2) in
    sym ((full l c.requires.2).0 e) in
    let x = c.args in
    (c.choose_near.ensures.0, λ earlier e. c.choose_near.ensures.1 earlier e ∙ ap (λ (l : List ℕ). pick_terms (among x.slack l) earlier (at x.v)) all)
