-- The laws of a choice on terms, all together. Assumes nothing.
use mathlib.Core.Path.{◌≡◌, sym, ap, subst, subst⁻¹}
use mathlib.Core.Bool.{Bool}
use mathlib.Core.List.{List}
use Prim.Native.Nat.{ℕ, ◌+◌, ◌<◌, ◌≤◌}
use native.Mathlib.Omega.{arith}
use lib.Dec.{T}
use lib.IntN.{ℤ}
use Rattle.integers.specs.Lists.{one_of}
use Rattle.coverings.specs.Block.{Shapes, Cutting}
use Rattle.coverings.specs.Words.{word_of}
use Rattle.coverings.specs.Rule.{Number}
use Rattle.coverings.proofs.Lists.{mem}
use Rattle.block.specs.Block.{cost_of, cost_named, shapes_of, count_in, pick}
use Rattle.block.proofs.All as blocks
use Rattle.block.proofs.Pick.{cost_cong}
use Rattle.terms.specs.Terms.{Terms, all_numbers, within, is_list, cost_at, least_over, pick_by, pick_terms}
use Rattle.terms.specs.Laws.{InList, Competes, WinsBy, TermsLaws}
use Rattle.terms.proofs.Most.{one_of_mem, least_in, least_at, Picked, picked}
use Rattle.terms.proofs.Good.{lists, not_empty, rises_zero, member, short, full, all_good, good_full, all_listed}

module _ (t : Terms) (g : T (is_list t.list)) (earlier : List ℕ) (v : ℕ → ℤ) where
  chosen : Picked t.list t.tolerance (λ n. count_in n earlier) (cost_at v) (pick_terms t earlier v)
  unfolding pick_terms pick_by
  chosen = picked t.list t.tolerance (λ n. count_in n earlier) (cost_at v) (not_empty t.list g) (rises_zero t.list g)

  in_list : (n : ℕ) → InList t n → T (mem n t.list)
  in_list n i = subst T (one_of_mem t.list n) i

  of_list : (n : ℕ) → T (mem n t.list) → InList t n
  of_list n i = subst⁻¹ T (one_of_mem t.list n) i

  pub in_it : InList t (pick_terms t earlier v)
  in_it = of_list (pick_terms t earlier v) chosen.listed

  pub number : Number (pick_terms t earlier v)
  number = member t.list g (pick_terms t earlier v) in_it

  competes : Competes t v (pick_terms t earlier v)
  competes m h = omega (arith, chosen.near, least_at (cost_at v) t.list m (in_list m h))

  -- one that competes is near the least
  near_least : (n : ℕ) → Competes t v n → cost_at v n ≤ least_over (cost_at v) t.list + t.tolerance
  near_least n c =
      let b = least_in (cost_at v) t.list (not_empty t.list g) in
      omega (arith, b.2, c b.0 (of_list b.0 b.1))

  pub wins : (n : ℕ) → InList t n → WinsBy t earlier v (pick_terms t earlier v) n
  wins n h = record {
    near = competes n h;
    often = λ c. chosen.often n (in_list n h) (near_least n c);
    first = λ c e. chosen.first n (in_list n h) (near_least n c) (omega arith);
  }

  -- of two that win against all both compete: equal counts, and neither has the lower number
  pub only : (c : ℕ) → InList t c → ((n : ℕ) → InList t n → WinsBy t earlier v c n) → c ≡ pick_terms t earlier v
  only c h w =
      let p = pick_terms t earlier v in
      let ours = wins c h in
      let theirs = w p in_it in
      let stands : Competes t v c = (λ m k. (w m k).near) in
      let e : count_in c earlier ≡ count_in p earlier = omega (arith, ours.often stands, theirs.often competes) in
      omega (arith, ours.first stands (sym e), theirs.first competes e)

-- near every covering, where all are listed, so near the one of least cost, below which no cutting is
module _ (t : Terms) (all : t.list ≡ all_numbers) (earlier : List ℕ) (v : ℕ → ℤ) where
  near_best : cost_at v (pick_terms t earlier v) ≤ cost_at v (pick earlier v) + t.tolerance
  near_best =
      competes t (good_full t.list all) earlier v (pick earlier v)
      (subst⁻¹ (λ (l : List ℕ). T (one_of l (pick earlier v))) all ((all_listed (pick earlier v)).1 ((blocks.laws).number earlier v)))

  pub near : (shape : ℕ → ℕ → Bool) → Shapes shape → cost_at v (pick_terms t earlier v) ≤ cost_of shape v + t.tolerance
  near shape s = omega (arith, near_best, (blocks.laws).least earlier v shape s)

  near_named_law : (name : ℕ → ℕ) → Cutting name → cost_at v (pick_terms t earlier v) ≤ cost_named name v + t.tolerance
  near_named_law name s = omega (arith, near_best, (blocks.laws).least_named earlier v name s)

-- at tolerance 0 those compete that cost the least, and `pick` wins against all
pub without : (earlier : List ℕ) (v : ℕ → ℤ) → pick_terms (within 0) earlier v ≡ pick earlier v
without earlier v = sym (only (within 0) all_good earlier v p in_all (λ n i.
    let w = (blocks.laws).wins earlier v n ((all_listed n).0 i) in
    let same : Competes (within 0) v n → cost_at v p ≡ cost_at v n = (λ c. omega (arith, w.lowest, c p in_all)) in
    record {
      near = omega (arith, w.lowest);
      often = λ c. w.often (same c);
      first = λ c. w.first (same c);
    }))
  where
    p : ℕ
    p = pick earlier v

    in_all : T (one_of all_numbers p)
    in_all = (all_listed p).1 ((blocks.laws).number earlier v)

pub reads : (t : Terms) (earlier : List ℕ) (v u : ℕ → ℤ) → ((a : ℕ) → a < 16 → v a ≡ u a) → pick_terms t earlier v ≡ pick_terms t earlier u
unfolding pick_terms
reads t earlier v u h = ap (pick_by t (λ n. count_in n earlier)) (λ i n. cost_cong (shapes_of (word_of n)) v u h i)

counted : (t : Terms) (before after : List ℕ) (v : ℕ → ℤ) → ((n : ℕ) → count_in n before ≡ count_in n after) → pick_terms t before v ≡ pick_terms t after v
unfolding pick_terms
counted t before after v h = ap (λ (count : ℕ → ℕ). pick_by t count (cost_at v)) (λ i n. h n i)

pub laws : TermsLaws
laws = record {
  lists = lists;
  short = short;
  full = full;
  all = all_listed;
  chosen = λ t g earlier v. record { number = number t g earlier v; listed = in_it t g earlier v; wins = wins t g earlier v; only = only t g earlier v };
  near = near;
  near_named = near_named_law;
  without = without;
  reads = reads;
  counted = counted;
}
