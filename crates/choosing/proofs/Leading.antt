-- The loops of the choice with a tolerance, over bare values: a turn of the costs with their least, and of the most frequent; and that what they find is the
-- choice. Assumes nothing.
use mathlib.Core.Path.{◌≡◌, refl, sym, ap, ◌∙◌, subst, subst⁻¹}
use mathlib.Core.Bool.{Bool, true, false, cond}
use mathlib.Core.List.{List}
use Prim.Native.Nat.{ℕ, suc, min, ◌+◌, ◌-◌, ◌^◌, ◌≤◌, ◌<◌}
use native.Mathlib.Omega.{arith}
use native.Mathlib.Nat.{le_refl, le_of_lt}
use native.Mathlib.Numerals.{add-one}
use native.Mathlib.Decide.{dec_lt, ℕ_discrete}
use borrow.Author.Tests.{ltb-true, ltb-false}
use lib.Dec.{T, leb, leb→le, le→leb, ltb}
use lib.IntN.{ℤ}
use lib.ListN.{length, get_or, set, length-set}
use lib.Seq.{get_or-set_same, get_or-set_other}
use Rattle.coverings.specs.Rule.{Number}
use Rattle.block.specs.Block.{count_in}
use Rattle.integers.proofs.Tests.{one_of_at, at_one_of}
use Rattle.terms.specs.Terms.{Terms, all_numbers, among, within, is_list, cost_at, pick_terms}
use Rattle.terms.specs.Laws.{InList, Competes, WinsBy}
use Rattle.terms.proofs.Good.{all_good, all_length, all_at, entry, entry_rises}
use Rattle.terms.proofs.All.{only}
use Rattle.kernel.specs.Kernel.{at, Within}
use Rattle.counts.specs.Counts.{counts_of}
use Rattle.counts.proofs.Counts.{count_at}
use Rattle.costing.specs.Costs.{spreads, needed_spreads, placement_of, cost_from, Low}
use Rattle.choosing.specs.Leading.{InRow, Holds, Priced, Counted, Cheapest, stands_at, First}
use Rattle.choosing.specs.declared.near.Leader.{Leader}
use Rattle.costing.proofs.Placements.{placement_below, cost_from_law, spreads_low, needed_low}

-- ---- the costs, and the least of them

-- the first k costs of a row of m are there, each as P says of its place, with the least of them
pub record Costed (m : ℕ) (P : ℕ → ℕ → Type 0) (all : List ℕ) (least k : ℕ) : Type 0 where
  pub to : k ≤ m
  pub long : length all ≡ 117
  pub priced : (j : ℕ) → j < k → P j (get_or all j 0)
  pub below : (j : ℕ) → j < k → least ≤ get_or all j 0
  pub one : (j : ℕ) × (j < k) × (get_or all j 0 ≡ least)

-- a place more, at the place k
pub set_next : (all : List ℕ) (k x : ℕ) → k < length all → (P : ℕ → ℕ → Type 0) → ((j : ℕ) → j < k → P j (get_or all j 0)) → P k x → (j : ℕ) → j < suc k → P j (get_or (set all k x) j 0)
set_next all k x room P p q j l = go (ℕ_discrete j k)
  where
    go : Dec (j ≡ k) → P j (get_or (set all k x) j 0)
    go (yes e) = rw e (subst⁻¹ (P k) (get_or-set_same all k x 0 room) q)
    go (no e) = subst⁻¹ (P j) (get_or-set_other all k j x 0 e) (p j (omega (arith, e)))

pub costed_first : (m : ℕ) (P : ℕ → ℕ → Type 0) (all : List ℕ) (x : ℕ) → 0 < m → length all ≡ 117 → P 0 x → Costed m P (set all 0 x) x 1
costed_first m P all x h long e = record {
  to = omega arith;
  long = length-set all 0 x ∙ long;
  priced = set_next all 0 x (omega arith) P (λ j l. absurd (omega arith)) e;
  below = set_next all 0 x (omega arith) (λ j c. x ≤ c) (λ j l. absurd (omega arith)) (le_refl x);
  one = (0, omega arith, get_or-set_same all 0 x 0 (omega arith));
}

pub costed_next : (m : ℕ) (P : ℕ → ℕ → Type 0) (all : List ℕ) (least k x r : ℕ) → m ≤ 117 → Costed m P all least k → k < m → P k x → r ≡ min x least → Costed m P (set all k x) r (k + 1)
costed_next m P all least k x r few b h e f = rw (add-one k) (go (dec_lt x least))
  where
    room : k < length all
    room = omega (arith, b.long)

    with-least : (j : ℕ) × (j < suc k) × (get_or (set all k x) j 0 ≡ r) → Costed m P (set all k x) r (suc k)
    with-least one = record {
      to = omega arith;
      long = length-set all k x ∙ b.long;
      priced = set_next all k x room P b.priced e;
      below = set_next all k x room (λ j d. r ≤ d) (λ j i. omega (arith, b.below j i)) (omega arith);
      one = one;
    }

    go : Dec (x < least) → Costed m P (set all k x) r (suc k)
    go (yes q) = with-least (k, omega arith, get_or-set_same all k x 0 room ∙ omega arith)
    go (no q) = let o = b.one in with-least (o.0, omega (arith, o.1), get_or-set_other all k o.0 x 0 (λ z. omega (arith, o.1)) ∙ omega (arith, o.2))

pub costed_last : (m : ℕ) (P : ℕ → ℕ → Type 0) (all : List ℕ) (least k : ℕ) → Costed m P all least k → m ≤ k → ((j : ℕ) → j < m → P j (get_or all j 0)) × ((cost : ℕ → ℕ) → Priced m cost all → Cheapest m cost least)
costed_last m P all least k b h = (
  (λ j l. b.priced j (omega arith)),
  (λ cost p. record {
    below = λ n i. let s : suc (n - 1) ≡ n = omega arith in subst (λ (c : ℕ). least ≤ cost c) s (subst (λ (c : ℕ). least ≤ c) (p (n - 1) (omega arith)) (b.below (n - 1) (omega arith)));
    one = let o = b.one in (suc o.0, (omega arith, omega (arith, o.1, b.to)), sym (p o.0 (omega (arith, o.1, b.to))) ∙ o.2);
  }),
)

-- ---- the most frequent

-- c is the first of the most frequent among the coverings over a up to b that cost at most `most`
pub record Over (count cost : ℕ → ℕ) (most a b c : ℕ) : Type 0 where
  pub from : a < c
  pub to : c ≤ b
  pub near : cost c ≤ most
  pub often : (n : ℕ) → a < n → n ≤ b → cost n ≤ most → count n ≤ count c
  pub first : (n : ℕ) → a < n → n ≤ b → cost n ≤ most → count c ≡ count n → c ≤ n

-- the leader of these coverings, and how it stands; at 0, none of them competes
pub record Led (count cost : ℕ → ℕ) (most a b : ℕ) (r : Leader) : Type 0 where
  pub none : r.standing ≡ 0 → (n : ℕ) → a < n → n ≤ b → cost n ≤ most → ⊥
  pub some : 0 < r.standing → (r.standing ≡ suc (count r.covering)) × Over count cost most a b r.covering

module _ (count cost : ℕ → ℕ) (most : ℕ) where
  -- of no coverings
  led_none : (a : ℕ) (r : Leader) → r.standing ≡ 0 → Led count cost most a a r
  led_none a r e = record { none = λ z n f g h. omega arith; some = λ z. absurd (omega arith) }

  -- of one
  led_one : (k : ℕ) (r : Leader) → r.covering ≡ suc k → r.standing ≡ stands_at most (cost (suc k)) (count (suc k)) → Led count cost most k (suc k) r
  led_one k r c s = go (leb (cost (suc k)) most) refl s
    where
      only : (n : ℕ) → k < n → n ≤ suc k → n ≡ suc k
      only n f g = omega arith

      go : (t : Bool) → leb (cost (suc k)) most ≡ t → r.standing ≡ cond t (suc (count (suc k))) 0 → Led count cost most k (suc k) r
      go true e s = record {
        none = λ z n f g h. omega arith;
        some = λ z. (
          s ∙ ap (λ (n : ℕ). suc (count n)) (sym c),
          subst⁻¹ (Over count cost most k (suc k)) c (record {
            from = omega arith;
            to = omega arith;
            near = leb→le (cost (suc k)) most (subst⁻¹ T e tt);
            often = λ n f g h. rw (only n f g) (le_refl (count (suc k)));
            first = λ n f g h q. omega arith;
          }),
        );
      }
      go false e s = record {
        none = λ z n f g h. subst T e (le→leb (cost (suc k)) most (subst (λ (m : ℕ). cost m ≤ most) (only n f g) h));
        some = λ z. absurd (omega arith);
      }

  -- of two parts: the one that stands higher, the first where neither does
  module _ (a m b : ℕ) (x y : Leader) (f : a ≤ m) (g : m ≤ b) (p : Led count cost most a m x) (q : Led count cost most m b y) where
    -- what is known of one in each part
    lower : (n : ℕ) → a < n → n ≤ m → cost n ≤ most → (0 < x.standing) × (suc (count n) ≤ x.standing)
    lower n h i c = go (dec_lt 0 x.standing)
      where
        go : Dec (0 < x.standing) → (0 < x.standing) × (suc (count n) ≤ x.standing)
        go (yes s) = (s, omega (arith, (p.some s).0, (p.some s).1.often n h i c))
        go (no s) = absurd (p.none (omega arith) n h i c)

    upper : (n : ℕ) → m < n → n ≤ b → cost n ≤ most → (0 < y.standing) × (suc (count n) ≤ y.standing)
    upper n h i c = go (dec_lt 0 y.standing)
      where
        go : Dec (0 < y.standing) → (0 < y.standing) × (suc (count n) ≤ y.standing)
        go (yes s) = (s, omega (arith, (q.some s).0, (q.some s).1.often n h i c))
        go (no s) = absurd (q.none (omega arith) n h i c)

    go : (t : Bool) → ltb x.standing y.standing ≡ t → Led count cost most a b (cond t y x)
    go true e = record {
      none = λ z. absurd (omega (arith, less));
      some = λ z. let w = q.some z in (
        w.0,
        record {
          from = omega (arith, w.1.from);
          to = w.1.to;
          near = w.1.near;
          often = λ n h i c. (on n h i c (dec_lt m n)).0;
          first = λ n h i c. (on n h i c (dec_lt m n)).1;
        },
      );
    }
      where
        less : x.standing < y.standing
        less = ltb-true x.standing y.standing e

        on : (n : ℕ) → a < n → n ≤ b → cost n ≤ most → Dec (m < n) → (count n ≤ count y.covering) × (count y.covering ≡ count n → y.covering ≤ n)
        on n h i c (yes l) = let w = q.some (omega (arith, less)) in (w.1.often n l i c, w.1.first n l i c)
        on n h i c (no l) = let w = q.some (omega (arith, less)) in let k = lower n h (omega arith) c in (omega (arith, w.0, less), λ s. absurd (omega (arith, w.0, less)))
    go false e = record {
      none = λ z n h i c. off z n h i c (dec_lt m n);
      some = λ z. let w = p.some z in (
        w.0,
        record {
          from = w.1.from;
          to = omega (arith, w.1.to);
          near = w.1.near;
          often = λ n h i c. (on z n h i c (dec_lt m n)).0;
          first = λ n h i c. (on z n h i c (dec_lt m n)).1;
        },
      );
    }
      where
        less : y.standing ≤ x.standing
        less = ltb-false x.standing y.standing e

        off : x.standing ≡ 0 → (n : ℕ) → a < n → n ≤ b → cost n ≤ most → Dec (m < n) → ⊥
        off z n h i c (yes l) = q.none (omega (arith, less)) n l i c
        off z n h i c (no l) = p.none z n h (omega arith) c

        on : 0 < x.standing → (n : ℕ) → a < n → n ≤ b → cost n ≤ most → Dec (m < n) → (count n ≤ count x.covering) × (count x.covering ≡ count n → x.covering ≤ n)
        on z n h i c (yes l) = let w = p.some z in let k = upper n l i c in (omega (arith, w.0, less), λ s. omega (arith, w.1.to))
        on z n h i c (no l) = let w = p.some z in (w.1.often n h (omega arith) c, w.1.first n h (omega arith) c)

  led_join : (a m b : ℕ) (x y r : Leader) → a ≤ m → m ≤ b → Led count cost most a m x → Led count cost most m b y → r ≡ cond (ltb x.standing y.standing) y x → Led count cost most a b r
  led_join a m b x y r f g p q e = rw e (go a m b x y f g p q (ltb x.standing y.standing) refl)

  -- of the whole row
  led_all : (m : ℕ) (r : Leader) → Led count cost most 0 m r → (n : ℕ) → InRow m n → cost n ≤ most → First m count cost most r.covering
  led_all m r l n h c = on (dec_lt 0 r.standing)
    where
      on : Dec (0 < r.standing) → First m count cost most r.covering
      on (yes s) = let w = (l.some s).1 in record {
        number = (w.from, w.to);
        near = w.near;
        often = λ n h. w.often n h.0 h.1;
        first = λ n h. w.first n h.0 h.1;
      }
      on (no s) = absurd (l.none (omega arith) n h.0 h.1 c)

-- the same by the arrays x of costs and y of counts, for all costs and counts that they hold in a row of m
abbrev pub Leads : ℕ → (ℕ → ℕ) → (ℕ → ℕ) → ℕ → ℕ → ℕ → Leader → Type 0
Leads m x y most a b r = (count cost : ℕ → ℕ) → Holds m x cost → Holds m y count → Led count cost most a b r

module _ (m : ℕ) (x y : ℕ → ℕ) (most : ℕ) where
  pub leads_none : (a : ℕ) (r : Leader) → r.standing ≡ 0 → Leads m x y most a a r
  leads_none a r e count cost p u = led_none count cost most a r e

  -- one covering more
  pub leads_next : (a k : ℕ) (old new r : Leader) → a ≤ k → k < m → Leads m x y most a k old → (new.covering ≡ suc k) × (new.standing ≡ stands_at most (x k) (y k))
      → r ≡ cond (ltb old.standing new.standing) new old → Leads m x y most a (suc k) r
  leads_next a k old new r f h l c e count cost p u =
      led_join count cost most a k (suc k) old new r f (omega arith) (l count cost p u) (led_one count cost most k new c.0 (c.1 ∙ λ j. stands_at most (p k h j) (u k h j))) e

  -- two parts side by side
  pub leads_both : (b : ℕ) (low high r : Leader) → b ≤ m → Leads m x y most 0 b low → Leads m x y most b m high → r ≡ cond (ltb low.standing high.standing) high low → Leads m x y most 0 m r
  leads_both b low high r f k l e count cost p u = led_join count cost most 0 b m low high r (omega arith) f (k count cost p u) (l count cost p u) e

  pub leads_all : (r : Leader) → Leads m x y most 0 m r → (count cost : ℕ → ℕ) → Holds m x cost → Holds m y count → (n : ℕ) → InRow m n → cost n ≤ most → First m count cost most r.covering
  leads_all r l count cost p u = led_all count cost most m r (l count cost p u)

-- ---- the whole choice

-- a cost is far from what a sum can hold
pub cost_low : (costs : List ℕ) → Low costs → (n : ℕ) → Number n → cost_from costs n ≤ 2 ^ 46
unfolding cost_from
cost_low costs low n h =
    omega (arith, low (placement_of n 0) (placement_below n 0 h (omega arith)), low (placement_of n 1) (placement_below n 1 h (omega arith)), low (placement_of n 2) (placement_below n 2 h (omega arith)), low (placement_of n 3) (placement_below n 3 h (omega arith)))

-- so are those that the code takes
pub low_spreads : {costs : List ℕ} (v : List ℤ) → costs ≡ spreads v → Within (2 ^ 40) v → Low costs
low_spreads v e w k l = rw e (spreads_low v w k l)

pub low_needed : {costs : List ℕ} (needed : List ℕ) (v : List ℤ) → costs ≡ needed_spreads needed v → Within (2 ^ 40) v → Low costs
low_needed needed v e w k l = rw e (needed_low needed v w k l)

-- the n-th of a list
abbrev pub nth : List ℕ → ℕ → ℕ
nth list n = get_or list (n - 1) 0

pub place : (k : ℕ) → suc k - 1 ≡ k
place k = omega arith

-- a row of the coverings of a list: what is found in it is the choice
module _ (v : List ℤ) (costs list all counts : List ℕ) (m slack least p : ℕ) (good : T (is_list list)) (long : length list ≡ m)
    (is : (k : ℕ) → k < m → cost_from costs (get_or list k 0) ≡ cost_at (at v) (get_or list k 0)) (priced : Priced m (λ n. cost_from costs (nth list n)) all)
    (lowest : (cost : ℕ → ℕ) → Priced m cost all → Cheapest m cost least)
    (leader : (count cost : ℕ → ℕ) → Priced m cost all → Holds m (λ k. get_or counts (get_or list k 0 - 1) 0) count → (n : ℕ) → InRow m n → cost n ≤ least + slack → First m count cost (least + slack) p) where
  abbrev terms : Terms
  terms = among slack list

  -- the cheapest competes
  found : (count cost : ℕ → ℕ) → Priced m cost all → Holds m (λ k. get_or counts (get_or list k 0 - 1) 0) count → First m count cost (least + slack) p
  found count cost a u = let b = (lowest cost a).one in leader count cost a u b.0 b.1 (omega (arith, b.2))

  pub row : InRow m p
  row =
      (found (λ n. get_or counts (nth list n - 1) 0) (λ n. cost_from costs (nth list n)) priced (λ k h. ap (λ (j : ℕ). get_or counts (get_or list j 0 - 1) 0) (sym (place k)))).number

  nth_number : (n : ℕ) → InRow m n → Number (nth list n)
  nth_number n h = entry list good (n - 1) (omega (arith, long))

  priced_at : Priced m (λ n. cost_at (at v) (nth list n)) all
  priced_at k h = priced k h ∙ ap (λ (j : ℕ). cost_from costs (get_or list j 0)) (place k) ∙ is k h ∙ ap (λ (j : ℕ). cost_at (at v) (get_or list j 0)) (sym (place k))

  cheapest : Cheapest m (λ n. cost_at (at v) (nth list n)) least
  cheapest = lowest (λ n. cost_at (at v) (nth list n)) priced_at

  chosen : (earlier : List ℕ) → counts ≡ counts_of earlier → First m (λ n. count_in (nth list n) earlier) (λ n. cost_at (at v) (nth list n)) (least + slack) p
  chosen earlier e =
      found (λ n. count_in (nth list n) earlier) (λ n. cost_at (at v) (nth list n)) priced_at (λ k h.
      let i = entry list good k (omega (arith, long)) in
      let s : suc (get_or list k 0 - 1) ≡ get_or list k 0 = omega arith in
      ap (λ (l : List ℕ). get_or l (get_or list k 0 - 1) 0) e ∙ count_at earlier (get_or list k 0 - 1) (omega arith) ∙ ap (λ (n : ℕ). count_in n earlier) (s ∙ ap (λ (j : ℕ). get_or list j 0) (sym (place k))))

  -- one that is listed stands somewhere
  placed : (n : ℕ) → InList terms n → (k : ℕ) × InRow m k × (nth list k ≡ n)
  placed n i =
      let o = one_of_at list n i in
      let s : suc o.0 - 1 ≡ o.0 = omega arith in
      (suc o.0, (omega arith, omega (arith, o.1, long)), ap (λ (j : ℕ). get_or list j 0) s ∙ sym o.2)

  -- it wins against each at its place
  wins_at : (earlier : List ℕ) → counts ≡ counts_of earlier → (k : ℕ) → InRow m k → WinsBy terms earlier (at v) (nth list p) (nth list k)
  wins_at earlier e k h =
      let w = chosen earlier e in
      let b = cheapest.one in
      let close : Competes terms (at v) (nth list k) → cost_at (at v) (nth list k) ≤ least + slack = (λ c. omega (arith, b.2, c (nth list b.0) (in_place b.0 b.1))) in
      record {
        near = omega (arith, w.near, cheapest.below k h);
        often = λ c. w.often k h (close c);
        first = λ c s. entry-order (p - 1) (k - 1) (omega (arith, w.first k h (close c) s)) (omega (arith, long));
      }
    where
      in_place : (n : ℕ) → InRow m n → InList terms (nth list n)
      in_place n i = at_one_of list (n - 1) (omega (arith, long))

      entry-order : (i j : ℕ) → i ≤ j → j < length list → get_or list i 0 ≤ get_or list j 0
      entry-order i j l h = go (dec_lt i j)
        where
          go : Dec (i < j) → get_or list i 0 ≤ get_or list j 0
          go (yes m) = le_of_lt (entry_rises list good i j m h)
          go (no m) = let q : i ≡ j = omega arith in rw q (le_refl (get_or list j 0))

  -- and only one does
  pub chosen_listed : Number (nth list p) × ((earlier : List ℕ) → counts ≡ counts_of earlier → nth list p ≡ pick_terms (among slack list) earlier (at v))
  chosen_listed = (
    nth_number p row,
    λ earlier e. only terms good earlier (at v) (nth list p) (at_one_of list (p - 1) (omega (arith, row, long)))
        (λ n i. let k = placed n i in subst (WinsBy terms earlier (at v) (nth list p)) k.2 (wins_at earlier e k.0 k.1)),
  )

-- of all coverings the n-th is n
pub nth_all : (n : ℕ) → Number n → nth all_numbers n ≡ n
nth_all n h = all_at (n - 1) (omega arith) ∙ omega arith

module _ (v : List ℤ) (costs all counts : List ℕ) (slack least r : ℕ) (is : costs ≡ spreads v) (priced : Priced 117 (cost_from costs) all)
    (lowest : (cost : ℕ → ℕ) → Priced 117 cost all → Cheapest 117 cost least)
    (leader : (count cost : ℕ → ℕ) → Priced 117 cost all → Counted count counts → (n : ℕ) → Number n → cost n ≤ least + slack → First 117 count cost (least + slack) r) where
  priced_all : Priced 117 (λ n. cost_from costs (nth all_numbers n)) all
  priced_all k h = priced k h ∙ ap (cost_from costs) (sym (nth_all (suc k) (omega arith, omega arith)))

  leader_all : (count cost : ℕ → ℕ) → Priced 117 cost all → Holds 117 (λ k. get_or counts (get_or all_numbers k 0 - 1) 0) count → (n : ℕ) → Number n → cost n ≤ least + slack → First 117 count cost (least + slack) r
  leader_all count cost a u = leader count cost a (λ k h. let s : suc k - 1 ≡ k = omega arith in sym (ap (λ (j : ℕ). get_or counts (j - 1) 0) (all_at k h) ∙ ap (λ (j : ℕ). get_or counts j 0) s) ∙ u k h)

  is_all : (k : ℕ) → k < 117 → cost_from costs (get_or all_numbers k 0) ≡ cost_at (at v) (get_or all_numbers k 0)
  is_all k h = ap (λ (l : List ℕ). cost_from l (get_or all_numbers k 0)) is ∙ cost_from_law v (get_or all_numbers k 0) (entry all_numbers all_good k (omega (arith, all_length)))

  pub chosen_near : Number r × ((earlier : List ℕ) → counts ≡ counts_of earlier → r ≡ pick_terms (within slack) earlier (at v))
  chosen_near =
      let e = nth_all r (row v costs all_numbers all counts 117 slack least r all_good all_length is_all priced_all lowest leader_all) in
      let z = chosen_listed v costs all_numbers all counts 117 slack least r all_good all_length is_all priced_all lowest leader_all in
      (subst Number e z.0, λ earlier q. sym e ∙ z.1 earlier q)
