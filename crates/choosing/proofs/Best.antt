-- The best covering so far, in the loop over the coverings: it is the choice among those below n. Assumes nothing.
use mathlib.Core.Path.{◌≡◌, refl, sym, ap, ◌∙◌, subst}
use mathlib.Core.Bool.{Bool, true, false, cond}
use mathlib.Core.List.{List}
use Prim.Native.Nat.{ℕ, suc, ◌+◌, ◌-◌, ◌≤◌, ◌<◌}
use native.Mathlib.Omega.{arith}
use lib.IntN.{ℤ}
use lib.ListN.{get_or}
use Rattle.coverings.specs.Words.{word_of}
use Rattle.coverings.specs.Rule.{Number}
use Rattle.choosing.specs.declared.least.Candidate.{Candidate}
use Rattle.block.specs.Block.{cost_of, shapes_of, count_in, beats, pick_to, pick}
use Rattle.kernel.specs.Kernel.{at}
use Rattle.counts.specs.Counts.{counts_of}
use Rattle.costing.specs.Costs.{spreads, cost_from}
use Rattle.choosing.specs.Order.{precedes}
use Rattle.costing.proofs.Placements.{cost_from_law}
use Rattle.counts.proofs.Counts.{count_at}

-- a candidate has the cost and the count of its covering
pub record Rated (costs counts : List ℕ) (n : ℕ) (r : Candidate) : Type 0 where
  pub covering : r.covering ≡ n
  pub cost : r.cost ≡ cost_from costs n
  pub count : r.count ≡ get_or counts (n - 1) 0

pub record Best (costs counts : List ℕ) (n : ℕ) (r : Candidate) : Type 0 where
  pub from : 2 ≤ n
  pub to : n ≤ 118
  pub number : 1 ≤ r.covering
  pub below : r.covering < n
  pub rated : Rated costs counts r.covering r
  pub picked : (v : List ℤ) (earlier : List ℕ) → costs ≡ spreads v → counts ≡ counts_of earlier → r.covering ≡ pick_to (n - 2) earlier (at v)

cost_is : {costs counts : List ℕ} {n : ℕ} {r : Candidate} → Rated costs counts n r → Number n → (v : List ℤ) → costs ≡ spreads v → r.cost ≡ cost_of (shapes_of (word_of n)) (at v)
cost_is {n} q h v e = q.cost ∙ ap (λ (l : List ℕ). cost_from l n) e ∙ cost_from_law v n h

count_is : {costs counts : List ℕ} {n : ℕ} {r : Candidate} → Rated costs counts n r → Number n → (earlier : List ℕ) → counts ≡ counts_of earlier → r.count ≡ count_in n earlier
count_is {n} q h earlier e =
    let i : suc (n - 1) ≡ n = omega arith in
    q.count ∙ ap (λ (l : List ℕ). get_or l (n - 1) 0) e ∙ count_at earlier (n - 1) (omega arith) ∙ ap (λ (k : ℕ). count_in k earlier) i

pick_next : (n old : ℕ) (v : List ℤ) (earlier : List ℕ) (b : Bool) → 2 ≤ n → old ≡ pick_to (n - 2) earlier (at v) → beats earlier (at v) n old ≡ b → cond b n old ≡ pick_to (n + 1 - 2) earlier (at v)
unfolding pick_to
pick_next n old v earlier b h e q =
    let i : suc (n - 2) ≡ n + 1 - 2 = omega arith in
    let j : n ≡ suc (suc (n - 2)) = omega arith in
    ap (λ (c : Bool). cond c n old) (sym q) ∙ (λ t. cond (beats earlier (at v) (j t) (e t)) (j t) (e t)) ∙ ap (λ (k : ℕ). pick_to k earlier (at v)) i

pub best_first : {costs counts : List ℕ} (r : Candidate) → Rated costs counts 1 r → Best costs counts 2 r
unfolding pick_to
best_first {costs} {counts} r q =
    let e = q.covering in
    record {
      from = omega arith;
      to = omega arith;
      number = omega arith;
      below = omega arith;
      rated = subst (λ (k : ℕ). Rated costs counts k r) (sym e) q;
      picked = λ v earlier f g. e;
    }

module _ (costs counts : List ℕ) (n : ℕ) (old new : Candidate) (l : n ≤ 117) (b : Best costs counts n old) (q : Rated costs counts n new) where
  test : (v : List ℤ) (earlier : List ℕ) → costs ≡ spreads v → counts ≡ counts_of earlier
      → precedes new.cost new.count old.cost old.count ≡ beats earlier (at v) n old.covering
  test v earlier e f =
      let h : Number n = (omega (arith, b.from), l) in
      let h' : Number old.covering = (b.number, omega (arith, b.below)) in
      λ t. precedes (cost_is q h v e t) (count_is q h earlier f t) (cost_is b.rated h' v e t) (count_is b.rated h' earlier f t)

  go : (c : Bool) → precedes new.cost new.count old.cost old.count ≡ c → Best costs counts (n + 1) (cond c new old)
  go true e =
      let i = q.covering in
      record {
        from = omega (arith, b.from);
        to = omega arith;
        number = omega (arith, b.from);
        below = omega arith;
        rated = subst (λ (k : ℕ). Rated costs counts k new) (sym i) q;
        picked = λ v earlier f g. i ∙ pick_next n old.covering v earlier true b.from (b.picked v earlier f g) (sym (test v earlier f g) ∙ e);
      }
  go false e = record {
    from = omega (arith, b.from);
    to = omega arith;
    number = b.number;
    below = omega (arith, b.below);
    rated = b.rated;
    picked = λ v earlier f g. pick_next n old.covering v earlier false b.from (b.picked v earlier f g) (sym (test v earlier f g) ∙ e);
  }

  pub best_next : (r : Candidate) → r ≡ cond (precedes new.cost new.count old.cost old.count) new old → Best costs counts (n + 1) r
  best_next r e = rw e (go (precedes new.cost new.count old.cost old.count) refl)

pub best_last : {costs counts : List ℕ} {n : ℕ} {r : Candidate} → Best costs counts n r → 117 < n
    → Number r.covering × ((v : List ℤ) (earlier : List ℕ) → costs ≡ spreads v → counts ≡ counts_of earlier → r.covering ≡ pick earlier (at v))
unfolding pick
best_last {n} b h =
    let i : n - 2 ≡ 116 = omega (arith, b.to) in
    ((b.number, omega (arith, b.below, b.to)), λ v earlier e f. b.picked v earlier e f ∙ ap (λ (k : ℕ). pick_to k earlier (at v)) i)
