-- The turns of the loops along the tetrolet entries: what is counted, and what is stored, up to the place of the walk. Assumes nothing.
use mathlib.Core.Path.{◌≡◌, refl, sym, ap, ◌∙◌}
use mathlib.Core.Bool.{Bool, true, false, cond, ◌&&◌, ◌||◌}
use mathlib.Core.List.{List, ◌∷◌}
use Prim.Native.Nat.{ℕ, zero, suc, ◌+◌, ◌*◌, ◌-◌, ◌^◌, ◌<◌, ◌≤◌}
use native.Mathlib.Omega.{arith}
use lib.Dec.{eqb, ltb}
use lib.IntN.{ℤ, pos, nat_abs}
use lib.ListN.{length, get_or, set, drop, length-drop}
use lib.Seq.{drop-cons}
use Rattle.integers.specs.Sum.{Σℕ}
use Rattle.slices.specs.Stores.{scatter}
use Rattle.slices.proofs.Stores.{scatter_length}
use Rattle.pyramid.specs.Places.{Place, no_place, tetrolet_places}
use Rattle.pyramid.specs.Slices.{image_of}
use Rattle.pyramid.proofs.Places.{places_levels}
use Rattle.places.specs.declared.walk.Walk.{Walk}
use Rattle.places.specs.Walk.{Inside, Stepped, entries_left, entry_of, entry_at, index_in}
use Rattle.places.proofs.Sides.{Passed, passed}
use Rattle.places.proofs.Steps.{present, ended}
use Rattle.quota.specs.Quota.{ranks, entries_of}
use Rattle.quota.proofs.Demand.{q_at, q_length}
use Rattle.sifting.specs.declared.tally.Tally.{Tally}
use Rattle.sifting.specs.Tallies.{stays_now, Tallied}
use Rattle.sifting.specs.Sifting.{Ready, from, in_run, run_count, Small, OneMore, RunCounts, ties, sifts, Sifted}
use Rattle.sifting.proofs.Limits.{left_over, above_none}
use Rattle.sifting.proofs.Passing.{spot, value, stores, Here, here, in_range_law, more_left, unread, stores-all, count_selected, sifted_not_zero}
use Rattle.sifting.proofs.Sizes.{few_places, rank_small}

-- a walk at the place with the number m
pub record At (R h w : ℕ) (k : Walk) (m : ℕ) : Type 0 where
  pub inside : Inside h w k
  pub rest : entries_left k ≡ drop m (tetrolet_places R h w)
  pub few : m ≤ length (tetrolet_places R h w)

pub at_start : (R h w : ℕ) (k : Walk) → Inside h w k → entries_left k ≡ tetrolet_places R h w → At R h w k 0
at_start R h w k i e = record { inside = i; rest = e; few = omega arith }

pub at_next : (R h w : ℕ) (k k' : Walk) (m : ℕ) → At R h w k m → Stepped h w k k' → At R h w k' (suc m)
at_next R h w k k' m a s =
    let e = sym a.rest ∙ s.entries in
    let l = more_left (tetrolet_places R h w) m (entry_of k) (entries_left k') e in
    record { inside = s.inside; rest = tail-is (sym s.entries ∙ a.rest ∙ drop-cons (tetrolet_places R h w) m no_place l); few = l }
  where
    tail-is : {a b : Place} {u v : List Place} → a ∷ u ≡ b ∷ v → u ≡ v
    tail-is e = cc

pub at_end_law : (R h w : ℕ) (k : Walk) (m : ℕ) → At R h w k m → k.left ≡ 0 → m ≡ length (tetrolet_places R h w)
at_end_law R h w k m a e = let z = ap length (sym a.rest ∙ ended entry_at k e) in omega (arith, length-drop m (tetrolet_places R h w), a.few)

pub here_now : (R h w : ℕ) (p : List ℤ) → Ready h w R p → (k : Walk) (m : ℕ) → At R h w k m → 0 < k.left → Here R h w p m k
here_now R h w p r k m a l = let e = present entry_at k l a.inside.row a.inside.col in here R h w p r m k e.0 a.rest e.1

pub count_few : (g : ℕ → Bool) (n : ℕ) → Σℕ n (λ m. cond (g m) 1 0) ≤ n
count_few g zero = omega arith
count_few g (suc n) = let a = count_few g n in let b = one (g n) in omega arith
  where
    one : (b : Bool) → cond b 1 0 ≤ 1
    one true = omega arith
    one false = omega arith

-- ---- counting by runs

pub record Running (R h w base step : ℕ) (p : List ℤ) (counts : List ℕ) (k : Walk) : Type 0 where
  pub number : ℕ
  pub place : At R h w k number
  pub long : length counts ≡ 512
  pub runs : (j : ℕ) → j < 512 → get_or counts j 0 ≡ run_count (ranks R h w (image_of h p)) base step j number

module _ (R h w base step : ℕ) (p : List ℤ) (r : Ready h w R p) where
  pub run_step : (counts counts' : List ℕ) (k k' : Walk) (s : Running R h w base step p counts k) → Stepped h w k k' → (rank : ℕ) → rank ≡ get_or (ranks R h w (image_of h p)) s.number 0 → OneMore counts counts' base step rank
      → Running R h w base step p counts' k'
  run_step counts counts' k k' s d rank e o = record {
    number = suc s.number;
    place = at_next R h w k k' s.number s.place d;
    long = o.long ∙ s.long;
    runs = λ j l. o.more j l ∙ (λ i. s.runs j l i + cond (in_run base step j (e i)) 1 0);
  }

  pub run_small : (counts : List ℕ) (k : Walk) → Running R h w base step p counts k → Small counts
  run_small counts k s = record { long = s.long; small = λ j l. let q = passed h w R r.sided r.deep in let a = s.runs j l in omega (arith, few_places R h w q, s.place.few, count_few (λ m. in_run base step j (get_or (ranks R h w (image_of h p)) m 0)) s.number) }

  pub run_all : (counts : List ℕ) (k : Walk) → Running R h w base step p counts k → k.left ≡ 0 → RunCounts (ranks R h w (image_of h p)) base step counts
  run_all counts k s e = record {
    counted = λ j l.
        let q = passed h w R r.sided r.deep in
        s.runs j l ∙ ap (λ (m : ℕ). run_count (ranks R h w (image_of h p)) base step j m) (at_end_law R h w k s.number s.place e ∙ sym (q_length R h w q.fits 0 (image_of h p)));
  }

-- no count passes the number of entries
pub few_of : (R h w : ℕ) (p : List ℤ) → Ready h w R p → (g : ℕ → Bool) → Σℕ (length (ranks R h w (image_of h p))) (λ m. cond (g m) 1 0) ≤ 262144
few_of R h w p r g =
    let q = passed h w R r.sided r.deep in
    omega (arith, few_places R h w q, q_length R h w q.fits 0 (image_of h p), count_few g (length (ranks R h w (image_of h p))))

-- no rank is 2 ^ 27 or above
pub from_high : (R h w : ℕ) (p : List ℤ) → Ready h w R p → 0 ≡ from (ranks R h w (image_of h p)) 134217728
from_high R h w p r = sym (above_none q 134217727 (λ m l. small m (omega (arith, q_length R h w z.fits 0 (image_of h p)))))
  where
    q : List ℕ
    q = ranks R h w (image_of h p)

    z : Passed h w R
    z = passed h w R r.sided r.deep

    small : (m : ℕ) → m < length (tetrolet_places R h w) → get_or q m 0 ≤ 134217727
    small m l =
        let v = places_levels 0 R R h w (omega arith) m l in
        let e = q_at R h w z.fits 0 (image_of h p) m l in
        let b = rank_small _ _ R v.0 v.1 (omega (arith, z.few)) ((in_range_law R h w (image_of h p) z.some_level r.range).tetrolet m l) in
        omega arith

-- ---- sifting

pub record Sifting (R h w limit left : ℕ) (p p' : List ℤ) (t : Tally) (k : Walk) : Type 0 where
  pub number : ℕ
  pub place : At R h w k number
  pub plane : p' ≡ stores R h w (sifts limit left (ranks R h w (image_of h p))) number p
  pub limits : t.limit ≡ limit
  pub lefts : t.left ≡ left - ties (ranks R h w (image_of h p)) limit number
  pub counts : t.count ≡ Σℕ number (λ m. cond (sifts limit left (ranks R h w (image_of h p)) m) 1 0)

module _ (R h w limit left : ℕ) (p : List ℤ) (r : Ready h w R p) where
  abbrev q : List ℕ
  q = ranks R h w (image_of h p)

  pub sift_start : (t : Tally) (k : Walk) → t.limit ≡ limit → t.left ≡ left → t.count ≡ 0 → Inside h w k → entries_left k ≡ tetrolet_places R h w → Sifting R h w limit left p p t k
  unfolding scatter
  sift_start t k a b c i e = record { number = 0; place = at_start R h w k i e; plane = refl; limits = a; lefts = b ∙ none left; counts = c }
    where
      none : (x : ℕ) → x ≡ x - 0
      none x = omega arith

  module _ (p' : List ℤ) (t : Tally) (k : Walk) (s : Sifting R h w limit left p p' t k) where
    pub sift-long : length p' ≡ w * h
    sift-long = ap length s.plane ∙ scatter_length (spot R h w) (value R h w (sifts limit left q) p) p s.number ∙ r.long

    pub sift-small : t.count ≤ 262144
    sift-small =
        let z = passed h w R r.sided r.deep in
        let a = s.counts in
        omega (arith, few_places R h w z, s.place.few, count_few (sifts limit left q) s.number)

    -- what is read is the entry as it was
    pub sift-read : 0 < k.left → (i : ℕ) → i ≡ index_in h (entry_of k) → get_or p' i (pos 0) ≡ get_or p (spot R h w s.number) (pos 0)
    sift-read l i e =
        let z = passed h w R r.sided r.deep in
        let o = here_now R h w p r k s.number s.place l in
        (λ t. get_or (s.plane t) ((e ∙ o.index) t) (pos 0)) ∙ unread R h w z.fits (sifts limit left q) p s.number o.number

    pub sift-step : (k' : Walk) (t' : Tally) (i rank : ℕ) (v u : ℤ) → 0 < k.left → Stepped h w k k' → i ≡ index_in h (entry_of k) → v ≡ get_or p' i (pos 0)
        → rank ≡ nat_abs v * 2 ^ (R - k.level) → Tallied t rank t' → u ≡ cond t'.stays v (pos 0) → Sifting R h w limit left p (set p' i u) t' k'
    unfolding scatter
    sift-step k' t' i rank v u l d e g a b c =
        let m = s.number in
        let o = here_now R h w p r k m s.place l in
        let read = g ∙ sift-read l i e in
        let rank_is : rank ≡ get_or q m 0 = a ∙ ap (λ (z : ℤ). nat_abs z * 2 ^ (R - k.level)) read ∙ sym o.rank in
        let left_is : ltb 0 t.left ≡ ltb (ties q limit m) left = ap (λ (x : ℕ). ltb 0 x) s.lefts ∙ left_over (ties q limit m) 0 left ∙ ap (λ (x : ℕ). ltb x left) (no_more (ties q limit m)) in
        let stay-is : stays_now t rank ≡ sifts limit left q m = λ i. ltb 0 (rank_is i) && (ltb (s.limits i) (rank_is i) || (eqb (s.limits i) (rank_is i) && left_is i)) in
        record {
          number = suc m;
          place = at_next R h w k k' m s.place d;
          plane = λ t. set (s.plane t) ((e ∙ o.index) t) ((c ∙ (λ j. cond ((b.stays ∙ stay-is) j) (read j) (pos 0))) t);
          limits = b.limit ∙ s.limits;
          lefts = b.left ∙ (λ j. s.lefts j - cond (eqb (s.limits j) (rank_is j)) 1 0) ∙ less left (ties q limit m) (cond (eqb limit (get_or q m 0)) 1 0);
          counts = b.count ∙ (λ j. s.counts j + cond (stay-is j) 1 0);
        }
      where
        no_more : (x : ℕ) → x + 0 ≡ x
        no_more x = omega arith

        less : (a b c : ℕ) → a - b - c ≡ a - (b + c)
        less a b c = omega arith

    pub sift-all : k.left ≡ 0 → Sifted R h w limit left p p' t.count
    sift-all e =
        let z = passed h w R r.sided r.deep in
        let m = at_end_law R h w k s.number s.place e in
        let d = s.plane ∙ ap (λ (m : ℕ). stores R h w (sifts limit left q) m p) m ∙ stores-all R h w z.fits (sifts limit left q) p r.long in
        record {
          planes = d;
          counts = s.counts ∙ ap (λ (m : ℕ). Σℕ m (λ m. cond (sifts limit left q m) 1 0)) m
              ∙ sym (ap (λ (x : List ℤ). entries_of R h w x) d ∙ count_selected R h w z.fits (sifts limit left q) (image_of h p) (λ m l o. sifted_not_zero R h w z.fits (image_of h p) limit left m l o));
        }
