-- Keep K on a list of ranks: at most K entries stay, no other choice of at most K entries leaves out a lesser sum of squares, and keeping what was kept is
-- keeping the smaller of the two. Assumes nothing.
use mathlib.Core.Path.{◌≡◌, refl, sym, ap, ◌∙◌, subst}
use mathlib.Core.Logic.{◌⊎◌, inl, inr}
use mathlib.Core.Bool.{Bool, true, false, not, cond, ◌&&◌, ◌||◌}
use mathlib.Core.List.{List}
use Prim.Native.Nat.{ℕ, zero, suc, ◌+◌, ◌*◌, ◌≤◌, ◌<◌, min}
use native.Mathlib.Omega.{arith}
use native.Mathlib.Nat.{le_trans, mul-le-mul, mul-le-mul_left}
use native.Mathlib.Decide.{dec_lt}
use lib.Dec.{T, eqb, ltb, eqb→eq, ltb→lt, lt→ltb, nltb→le, T_not}
use lib.ListN.{length, get_or}
use Rattle.integers.specs.Sum.{Σℕ, only}
use Rattle.integers.proofs.Sums.{Σℕ_cong, Σℕ_mono, Σℕ_add, Σℕ_scale, Σℕ_zero, δ, δ_same, pick_out}
use Rattle.integers.proofs.Tests.{both_left, both_right, either, or_left, or_right, decided, eq→eqb, is_true, is_false, true_at, false_at}
use Rattle.quota.specs.Quota.{before, stays}

-- the first of the numbers below n that pass a test, in a total order
abbrev First : (ℕ → ℕ → Type 0) → (ℕ → Bool) → ℕ → Type 0
First rel g n = ((k : ℕ) → k < n → T (g k) → ⊥) ⊎ ((d : ℕ) × (d < n) × T (g d) × ((k : ℕ) → k < n → T (g k) → (k ≡ d) ⊎ rel d k))

module _ (rel : ℕ → ℕ → Type 0) (tot : (m n : ℕ) → (m ≡ n → ⊥) → rel m n ⊎ rel n m) (trans : (m n k : ℕ) → rel m n → rel n k → rel m k) (g : ℕ → Bool) where
  first_of : (n : ℕ) → First rel g n
  first_of zero = inl (λ k l t. absurd (omega arith))
  first_of (suc n) = go (decided (g n)) (first_of n)
    where
      below : (k : ℕ) → k < suc n → (k < n) ⊎ (k ≡ n)
      below k l = on (dec_lt k n)
        where
          on : Dec (k < n) → (k < n) ⊎ (k ≡ n)
          on (yes h) = inl h
          on (no h) = inr (omega arith)

      go : T (g n) ⊎ T (not (g n)) → First rel g n → First rel g (suc n)
      go (inr f) (inl e) = inl (λ k l t. on k t (below k l))
        where
          on : (k : ℕ) → T (g k) → (k < n) ⊎ (k ≡ n) → ⊥
          on k t (inl h) = e k h t
          on k t (inr q) = T_not (g n) f (subst (λ (x : ℕ). T (g x)) q t)
      go (inr f) (inr r) = inr (r.0, omega arith, r.2, λ k l t. on k t (below k l))
        where
          on : (k : ℕ) → T (g k) → (k < n) ⊎ (k ≡ n) → (k ≡ r.0) ⊎ rel r.0 k
          on k t (inl h) = r.3 k h t
          on k t (inr q) = absurd (T_not (g n) f (subst (λ (x : ℕ). T (g x)) q t))
      go (inl y) (inl e) = inr (n, omega arith, y, λ k l t. on k t (below k l))
        where
          on : (k : ℕ) → T (g k) → (k < n) ⊎ (k ≡ n) → (k ≡ n) ⊎ rel n k
          on k t (inl h) = absurd (e k h t)
          on k t (inr q) = inl q
      go (inl y) (inr r) = which (tot r.0 n (omega arith))
        where
          which : rel r.0 n ⊎ rel n r.0 → First rel g (suc n)
          which (inl b) = inr (r.0, omega arith, r.2, λ k l t. on k t (below k l))
            where
              on : (k : ℕ) → T (g k) → (k < n) ⊎ (k ≡ n) → (k ≡ r.0) ⊎ rel r.0 k
              on k t (inl h) = r.3 k h t
              on k t (inr q) = inr (subst (λ (x : ℕ). rel r.0 x) (sym q) b)
          which (inr b) = inr (n, omega arith, y, λ k l t. on k t (below k l))
            where
              on : (k : ℕ) → T (g k) → (k < n) ⊎ (k ≡ n) → (k ≡ n) ⊎ rel n k
              on k t (inl h) = via (r.3 k h t)
                where
                  via : (k ≡ r.0) ⊎ rel r.0 k → (k ≡ n) ⊎ rel n k
                  via (inl q) = inr (subst (λ (x : ℕ). rel n x) (sym q) b)
                  via (inr p) = inr (trans n r.0 k b p)
              on k t (inr q) = inl q

module _ (q : List ℕ) where
  -- the order as a statement
  abbrev Before : ℕ → ℕ → Type 0
  Before m n = (get_or q n 0 < get_or q m 0) ⊎ ((get_or q n 0 ≡ get_or q m 0) × (m < n))

  of_before : (m n : ℕ) → T (before q m n) → Before m n
  of_before m n t = go (either (ltb (get_or q n 0) (get_or q m 0)) (eqb (get_or q n 0) (get_or q m 0) && ltb m n) t)
    where
      go : T (ltb (get_or q n 0) (get_or q m 0)) ⊎ T (eqb (get_or q n 0) (get_or q m 0) && ltb m n) → Before m n
      go (inl l) = inl (ltb→lt (get_or q n 0) (get_or q m 0) l)
      go (inr r) = inr (eqb→eq (get_or q n 0) (get_or q m 0) (both_left (eqb (get_or q n 0) (get_or q m 0)) (ltb m n) r), ltb→lt m n (both_right (eqb (get_or q n 0) (get_or q m 0)) (ltb m n) r))

  both : (a b : Bool) → T a → T b → T (a && b)
  both true b x y = y
  both false b x y = x

  to_before : (m n : ℕ) → Before m n → T (before q m n)
  to_before m n (inl l) = or_left (ltb (get_or q n 0) (get_or q m 0)) (eqb (get_or q n 0) (get_or q m 0) && ltb m n) (lt→ltb (get_or q n 0) (get_or q m 0) l)
  to_before m n (inr r) = or_right (ltb (get_or q n 0) (get_or q m 0)) (eqb (get_or q n 0) (get_or q m 0) && ltb m n) (both (eqb (get_or q n 0) (get_or q m 0)) (ltb m n) (eq→eqb r.0) (lt→ltb m n r.1))

  before_total : (m n : ℕ) → (m ≡ n → ⊥) → Before m n ⊎ Before n m
  before_total m n ne = go (dec_lt (get_or q n 0) (get_or q m 0)) (dec_lt (get_or q m 0) (get_or q n 0)) (dec_lt m n)
    where
      go : Dec (get_or q n 0 < get_or q m 0) → Dec (get_or q m 0 < get_or q n 0) → Dec (m < n) → Before m n ⊎ Before n m
      go (yes a) b c = inl (inl a)
      go (no a) (yes b) c = inr (inl b)
      go (no a) (no b) (yes c) = inl (inr (omega arith, c))
      go (no a) (no b) (no c) = inr (inr (omega arith, omega (arith, ne)))

  before_trans : (m n k : ℕ) → Before m n → Before n k → Before m k
  before_trans m n k (inl a) (inl b) = inl (omega arith)
  before_trans m n k (inl a) (inr b) = inl (omega arith)
  before_trans m n k (inr a) (inl b) = inl (omega arith)
  before_trans m n k (inr a) (inr b) = inr (omega arith, omega arith)

  before_not : (m n : ℕ) → Before m n → Before n m → ⊥
  before_not m n (inl a) (inl b) = omega arith
  before_not m n (inl a) (inr b) = omega arith
  before_not m n (inr a) (inl b) = omega arith
  before_not m n (inr a) (inr b) = omega arith

  before_rank : (m n : ℕ) → Before m n → get_or q n 0 ≤ get_or q m 0
  before_rank m n (inl a) = omega arith
  before_rank m n (inr a) = omega arith

  -- how many go before
  ahead : ℕ → ℕ
  ahead n = Σℕ (length q) (λ m. cond (before q m n) 1 0)

  one_if : (b c : Bool) → (T b → T c) → cond b 1 0 ≤ cond c 1 0
  one_if true true f = omega arith
  one_if true false f = absurd (f tt)
  one_if false true f = omega arith
  one_if false false f = omega arith

  ahead_mono : (m n : ℕ) → Before m n → ahead m ≤ ahead n
  unfolding ahead
  ahead_mono m n b =
      Σℕ_mono (length q) (λ k. cond (before q k m) 1 0) (λ k. cond (before q k n) 1 0)
      (λ k l. one_if (before q k m) (before q k n) (λ t. to_before k n (before_trans k m n (of_before k m t) b)))

  module _ (K : ℕ) where
    drop-ahead : (n : ℕ) → 0 < get_or q n 0 → T (not (stays K q n)) → K ≤ ahead n
    unfolding stays ahead
    drop-ahead n h t = go (decided (ltb (ahead n) K))
      where
        go : T (ltb (ahead n) K) ⊎ T (not (ltb (ahead n) K)) → K ≤ ahead n
        go (inl l) = absurd (T_not (stays K q n) t (both (ltb 0 (get_or q n 0)) (ltb (ahead n) K) (lt→ltb 0 (get_or q n 0) h) l))
        go (inr l) = nltb→le (ahead n) K l

    stay-ahead : (n : ℕ) → T (stays K q n) → ahead n < K
    unfolding stays ahead
    stay-ahead n t = ltb→lt (ahead n) K (both_right (ltb 0 (get_or q n 0)) (ltb (ahead n) K) t)

    pub stay-rank : (n : ℕ) → T (stays K q n) → 0 < get_or q n 0
    unfolding stays ahead
    stay-rank n t = ltb→lt 0 (get_or q n 0) (both_left (ltb 0 (get_or q n 0)) (ltb (ahead n) K) t)

    staying : ℕ
    staying = Σℕ (length q) (λ n. cond (stays K q n) 1 0)

    -- at most K stay: all of them are the last one or before it
    pub stay-count : Σℕ (length q) (λ n. cond (stays K q n) 1 0) ≤ K
    unfolding ahead
    stay-count = go (first_of (λ m n. Before n m) (λ m n ne. flip (before_total m n ne)) (λ m n k a b. before_trans k n m b a) (stays K q) (length q))
      where
        flip : {A B : Type 0} → A ⊎ B → B ⊎ A
        flip (inl a) = inr a
        flip (inr b) = inl b

        one_of : (k e : ℕ) (b : Bool) → (T b → (k ≡ e) ⊎ Before k e) → cond b 1 0 ≤ cond (before q k e) 1 0 + δ e k * 1
        one_of k e false f = omega arith
        one_of k e true f = on (f tt)
          where
            on : (k ≡ e) ⊎ Before k e → 1 ≤ cond (before q k e) 1 0 + δ e k * 1
            on (inl p) = let s : δ e k ≡ 1 = (ap (λ (x : ℕ). δ e x) p ∙ δ_same e) in omega arith
            on (inr p) = let s = ap {B = ℕ} (λ (b : Bool). cond b 1 0) (is_true (before q k e) (to_before k e p)) in omega arith

        go : First (λ m n. Before n m) (stays K q) (length q) → Σℕ (length q) (λ n. cond (stays K q n) 1 0) ≤ K
        go (inl none) =
            omega (arith, Σℕ_mono (length q) (λ n. cond (stays K q n) 1 0) (λ n. 0) (λ n l. one_if (stays K q n) false (λ t. none n l t)), Σℕ_zero (length q))
        go (inr r) =
            omega (
              arith,
              Σℕ_mono (length q) (λ n. cond (stays K q n) 1 0) (λ n. cond (before q n r.0) 1 0 + δ r.0 n * 1) (λ n l. one_of n r.0 (stays K q n) (r.3 n l)),
              Σℕ_add (length q) (λ n. cond (before q n r.0) 1 0) (λ n. δ r.0 n * 1),
              pick_out (length q) r.0 (λ n. 1) r.1,
              stay-ahead r.0 r.2,
            )

    -- the first entry that is dropped and not zero
    dropped : ℕ → Bool
    dropped n = ltb 0 (get_or q n 0) && not (stays K q n)

    abbrev dropped-first : Type 0
    dropped-first = First Before dropped (length q)

    find-dropped : dropped-first
    find-dropped = first_of Before before_total before_trans dropped (length q)

    is-dropped : (n : ℕ) → 0 < get_or q n 0 → T (not (stays K q n)) → T (dropped n)
    unfolding dropped
    is-dropped n h t = both (ltb 0 (get_or q n 0)) (not (stays K q n)) (lt→ltb 0 (get_or q n 0) h) t

    dropped-rank : (n : ℕ) → T (dropped n) → 0 < get_or q n 0
    unfolding dropped
    dropped-rank n t = ltb→lt 0 (get_or q n 0) (both_left (ltb 0 (get_or q n 0)) (not (stays K q n)) t)

    dropped-not : (n : ℕ) → T (dropped n) → T (not (stays K q n))
    unfolding dropped
    dropped-not n t = both_right (ltb 0 (get_or q n 0)) (not (stays K q n)) t

    -- where all that is not zero stays, nothing is left out
    none_left : (n : ℕ) → (T (dropped n) → ⊥) → only (not (stays K q n)) (get_or q n 0 * get_or q n 0) ≡ 0
    none_left n f = go (stays K q n) refl
      where
        go : (b : Bool) → stays K q n ≡ b → only (not b) (get_or q n 0 * get_or q n 0) ≡ 0
        go true e = refl
        go false e = on (dec_lt 0 (get_or q n 0))
          where
            on : Dec (0 < get_or q n 0) → get_or q n 0 * get_or q n 0 ≡ 0
            on (yes h) = absurd (f (is-dropped n h (subst (λ (b : Bool). T (not b)) (sym e) tt)))
            on (no h) = let z : get_or q n 0 ≡ 0 = omega arith in rw z refl

    -- d is the first that is dropped
    module _ (d : ℕ) (td : T (dropped d)) (least : (k : ℕ) → k < length q → T (dropped k) → (k ≡ d) ⊎ Before d k) where
      stay-before : (n : ℕ) → T (stays K q n) → Before n d
      stay-before n t = go (before_total n d ne)
        where
          ne : n ≡ d → ⊥
          ne e = T_not (stays K q d) (dropped-not d td) (subst (λ (x : ℕ). T (stays K q x)) e t)

          go : Before n d ⊎ Before d n → Before n d
          go (inl b) = b
          go (inr b) = absurd (let x = ahead_mono d n b in let y = stay-ahead n t in let z = drop-ahead d (dropped-rank d td) (dropped-not d td) in omega arith)

      before-stay : (n : ℕ) → n < length q → Before n d → T (stays K q n)
      before-stay n l b = go (decided (stays K q n))
        where
          go : T (stays K q n) ⊎ T (not (stays K q n)) → T (stays K q n)
          go (inl t) = t
          go (inr f) = absurd (on (least n l (is-dropped n (let x = before_rank n d b in let y = dropped-rank d td in omega arith) f)))
            where
              on : (n ≡ d) ⊎ Before d n → ⊥
              on (inl e) = before_not n d b (subst (λ (x : ℕ). Before x n) e (subst (λ (x : ℕ). Before n x) (sym e) b))
              on (inr c) = before_not n d b c

      enough : K ≤ Σℕ (length q) (λ n. cond (stays K q n) 1 0)
      unfolding ahead
      enough =
          le_trans (drop-ahead d (dropped-rank d td) (dropped-not d td))
          (Σℕ_mono (length q) (λ n. cond (before q n d) 1 0) (λ n. cond (stays K q n) 1 0) (λ n l. one_if (before q n d) (stays K q n) (λ t. before-stay n l (of_before n d t))))

      -- an entry's contribution, with the first dropped one's as the price of staying
      price : (n : ℕ) → n < length q → (z : Bool)
          → only (not (stays K q n)) (get_or q n 0 * get_or q n 0) + get_or q d 0 * get_or q d 0 * cond (stays K q n) 1 0
          ≤ only (not z) (get_or q n 0 * get_or q n 0) + get_or q d 0 * get_or q d 0 * cond z 1 0
      price n l z = go (stays K q n) refl z
        where
          greater : T (stays K q n) → get_or q d 0 * get_or q d 0 ≤ get_or q n 0 * get_or q n 0
          greater t = let b = before_rank n d (stay-before n t) in mul-le-mul b b

          lesser : T (not (stays K q n)) → get_or q n 0 * get_or q n 0 ≤ get_or q d 0 * get_or q d 0
          lesser f = mul-le-mul b b
            where
              b : get_or q n 0 ≤ get_or q d 0
              b = on (dec_lt 0 (get_or q n 0))
                where
                  on : Dec (0 < get_or q n 0) → get_or q n 0 ≤ get_or q d 0
                  on (no h) = omega arith
                  on (yes h) = via (least n l (is-dropped n h f))
                    where
                      via : (n ≡ d) ⊎ Before d n → get_or q n 0 ≤ get_or q d 0
                      via (inl e) = rw e (omega arith)
                      via (inr c) = before_rank d n c

          go : (b : Bool) → stays K q n ≡ b → (z : Bool)
              → only (not b) (get_or q n 0 * get_or q n 0) + get_or q d 0 * get_or q d 0 * cond b 1 0
              ≤ only (not z) (get_or q n 0 * get_or q n 0) + get_or q d 0 * get_or q d 0 * cond z 1 0
          go true e true = omega arith
          go true e false = let x = greater (subst T (sym e) tt) in omega arith
          go false e true = let x = lesser (subst (λ (b : Bool). T (not b)) (sym e) tt) in omega arith
          go false e false = omega arith

    -- no other choice of at most K entries leaves out less
    pub stay-best : (z : ℕ → Bool) → Σℕ (length q) (λ n. cond (z n) 1 0) ≤ K
        → Σℕ (length q) (λ n. only (not (stays K q n)) (get_or q n 0 * get_or q n 0)) ≤ Σℕ (length q) (λ n. only (not (z n)) (get_or q n 0 * get_or q n 0))
    stay-best z h = go find-dropped
      where
        f : ℕ → ℕ
        f n = get_or q n 0 * get_or q n 0

        go : dropped-first → Σℕ (length q) (λ n. only (not (stays K q n)) (f n)) ≤ Σℕ (length q) (λ n. only (not (z n)) (f n))
        go (inl none) = Σℕ_mono (length q) (λ n. only (not (stays K q n)) (f n)) (λ n. only (not (z n)) (f n)) (λ n l. rw (none_left n (none n l)) (omega arith))
        go (inr r) =
            let d = r.0 in
            omega (
              arith,
              Σℕ_mono (length q) (λ n. only (not (stays K q n)) (f n) + f d * cond (stays K q n) 1 0) (λ n. only (not (z n)) (f n) + f d * cond (z n) 1 0) (λ n l. price d r.2 r.3 n l (z n)),
              Σℕ_add (length q) (λ n. only (not (stays K q n)) (f n)) (λ n. f d * cond (stays K q n) 1 0),
              Σℕ_add (length q) (λ n. only (not (z n)) (f n)) (λ n. f d * cond (z n) 1 0),
              Σℕ_scale (length q) (f d) (λ n. cond (stays K q n) 1 0),
              Σℕ_scale (length q) (f d) (λ n. cond (z n) 1 0),
              mul-le-mul_left (f d) (le_trans h (enough d r.2 r.3)),
            )

    -- the smaller of K and the number of entries that are not zero stay
    pub stay-total : Σℕ (length q) (λ n. cond (stays K q n) 1 0) ≡ min K (Σℕ (length q) (λ n. cond (ltb 0 (get_or q n 0)) 1 0))
    stay-total = go find-dropped
      where
        at_most : Σℕ (length q) (λ n. cond (stays K q n) 1 0) ≤ Σℕ (length q) (λ n. cond (ltb 0 (get_or q n 0)) 1 0)
        at_most = Σℕ_mono (length q) (λ n. cond (stays K q n) 1 0) (λ n. cond (ltb 0 (get_or q n 0)) 1 0) (λ n l. one_if (stays K q n) (ltb 0 (get_or q n 0)) (λ t. lt→ltb 0 (get_or q n 0) (stay-rank n t)))

        stays_all : (n : ℕ) → (T (dropped n) → ⊥) → T (ltb 0 (get_or q n 0)) → T (stays K q n)
        stays_all n f t = on (decided (stays K q n))
          where
            on : T (stays K q n) ⊎ T (not (stays K q n)) → T (stays K q n)
            on (inl s) = s
            on (inr s) = absurd (f (is-dropped n (ltb→lt 0 (get_or q n 0) t) s))

        go : dropped-first → Σℕ (length q) (λ n. cond (stays K q n) 1 0) ≡ min K (Σℕ (length q) (λ n. cond (ltb 0 (get_or q n 0)) 1 0))
        go (inl none) =
            let all = Σℕ_mono (length q) (λ n. cond (ltb 0 (get_or q n 0)) 1 0) (λ n. cond (stays K q n) 1 0) (λ n l. one_if (ltb 0 (get_or q n 0)) (stays K q n) (stays_all n (none n l))) in
            let few = stay-count in
            omega (arith, at_most)
        go (inr r) =
            let most = stay-count in
            let least = enough r.0 r.2 r.3 in
            omega (arith, at_most)

-- what stays under a quota stays under a larger one
pub stay_more : (q : List ℕ) (K L n : ℕ) → K ≤ L → T (stays K q n) → T (stays L q n)
stay_more q K L n h t = go (decided (stays L q n))
  where
    go : T (stays L q n) ⊎ T (not (stays L q n)) → T (stays L q n)
    go (inl s) = s
    go (inr s) = absurd (let x = stay-ahead q K n t in let y = drop-ahead q L n (stay-rank q K n t) s in omega arith)

-- q' is what keeping L leaves of q
module _ (q q' : List ℕ) (L K : ℕ) (long : length q' ≡ length q) (left : (m : ℕ) → m < length q → get_or q' m 0 ≡ cond (stays L q m) (get_or q m 0) 0) where
  as_before : (m : ℕ) → m < length q → T (stays L q m) → get_or q' m 0 ≡ get_or q m 0
  as_before m k t = left m k ∙ ap (λ (b : Bool). cond b (get_or q m 0) 0) (is_true (stays L q m) t)

  gone : (m : ℕ) → m < length q → T (not (stays L q m)) → get_or q' m 0 ≡ 0
  gone m k t = left m k ∙ ap (λ (b : Bool). cond b (get_or q m 0) 0) (is_false (stays L q m) (T_not (stays L q m) t))

  -- those that go before an entry that stayed have stayed too
  before_again : (m n : ℕ) → m < length q → n < length q → T (stays L q n) → before q' m n ≡ before q m n
  before_again m n k l t = go (decided (stays L q m))
    where
      go : T (stays L q m) ⊎ T (not (stays L q m)) → before q' m n ≡ before q m n
      go (inl s) = λ i. ltb (as_before n l t i) (as_before m k s i) || (eqb (as_before n l t i) (as_before m k s i) && ltb m n)
      go (inr s) = is_false (before q' m n) (λ b. never (of_before q' m n b)) ∙ sym (is_false (before q m n) (λ b. neither (of_before q m n b)))
        where
          never : Before q' m n → ⊥
          never b = let r = before_rank q' m n b in let z = gone m k s in let e = as_before n l t in let x = stay-rank q L n t in omega arith

          neither : Before q m n → ⊥
          neither b =
              let r = before_rank q m n b in let x = stay-rank q L n t in
              let y = drop-ahead q L m (omega arith) s in let a = ahead_mono q m n b in let z = stay-ahead q L n t in omega arith

  ahead_again : (n : ℕ) → n < length q → T (stays L q n) → ahead q' n ≡ ahead q n
  unfolding ahead
  ahead_again n l t =
      ap {B = ℕ} (λ (k : ℕ). Σℕ k (λ m. cond (before q' m n) 1 0)) long
      ∙ Σℕ_cong (length q) (λ m. cond (before q' m n) 1 0) (λ m. cond (before q m n) 1 0) (λ m k. ap {B = ℕ} (λ (b : Bool). cond b 1 0) (before_again m n k l t))

  pub stays_again : (n : ℕ) → n < length q → stays K q' n ≡ stays (min L K) q n
  unfolding stays ahead
  stays_again n l = go (decided (stays L q n))
    where
      go : T (stays L q n) ⊎ T (not (stays L q n)) → stays K q' n ≡ stays (min L K) q n
      go (inr s) =
          is_false (stays K q' n) (λ t. let x = stay-rank q' K n t in let z = gone n l s in omega arith)
          ∙ sym (is_false (stays (min L K) q n) (λ t. T_not (stays L q n) s (stay_more q (min L K) L n (omega arith) t)))
      go (inl s) = (λ i. ltb 0 (as_before n l s i) && ltb (ahead_again n l s i) K) ∙ ap (λ (b : Bool). ltb 0 (get_or q n 0) && b) (on (dec_lt (ahead q n) K) (stay-ahead q L n s))
        where
          on : Dec (ahead q n < K) → ahead q n < L → ltb (ahead q n) K ≡ ltb (ahead q n) (min L K)
          on (yes h) g = true_at (ahead q n) K h ∙ sym (true_at (ahead q n) (min L K) (omega arith))
          on (no h) g = false_at (ahead q n) K (omega arith) ∙ sym (false_at (ahead q n) (min L K) (omega arith))
