-- Keep without sorting: with a rank t that splits the list at K, an entry stays if its rank is above t, or is t and its turn among those of rank t comes early enough.
-- What a search for t and one pass in plane order need. Assumes nothing.
use mathlib.Core.Path.{◌≡◌, refl, sym, ap, ◌∙◌, subst}
use mathlib.Core.Logic.{◌⊎◌, inl, inr}
use mathlib.Core.Bool.{Bool, true, false, cond, ◌&&◌, ◌||◌}
use mathlib.Core.List.{List}
use Prim.Native.Nat.{ℕ, ◌+◌, ◌*◌, ◌-◌, ◌≤◌, ◌<◌}
use native.Mathlib.Omega.{arith}
use native.Mathlib.Decide.{dec_lt}
use lib.Dec.{T, eqb, ltb, eqb→eq, eqb_refl}
use lib.ListN.{length, get_or}
use Rattle.integers.specs.Sum.{Σℕ}
use Rattle.integers.proofs.Sums.{Σℕ_cong, Σℕ_mono, Σℕ_add, Σℕ_split, Σℕ_zero, δ, δ_same, δ_other, pick_out}
use Rattle.integers.proofs.Tests.{is_true, is_false, true_at, false_at}
use Rattle.quota.specs.Quota.{before, stays}

-- how many ranks are above t, and how many of the first n are t
abbrev pub above : List ℕ → ℕ → ℕ
above q t = Σℕ (length q) (λ m. cond (ltb t (get_or q m 0)) 1 0)

abbrev pub ties : List ℕ → ℕ → ℕ → ℕ
ties q t n = Σℕ n (λ m. cond (eqb t (get_or q m 0)) 1 0)

equal : (m n : ℕ) → m ≡ n → eqb m n ≡ true
equal m n e = is_true (eqb m n) (subst (λ (k : ℕ). T (eqb m k)) e (eqb_refl m))

unequal : (m n : ℕ) → (m ≡ n → ⊥) → eqb m n ≡ false
unequal m n f = is_false (eqb m n) (λ t. f (eqb→eq m n t))

-- the sum over the first n, as a sum over all
restrict : (n d : ℕ) (g : ℕ → Bool) → Σℕ (n + d) (λ m. cond (g m && ltb m n) 1 0) ≡ Σℕ n (λ m. cond (g m) 1 0)
restrict n d g =
    Σℕ_split n d (λ m. cond (g m && ltb m n) 1 0)
    ∙ (λ i. Σℕ_cong n (λ m. cond (g m && ltb m n) 1 0) (λ m. cond (g m) 1 0) (λ m l. inside (g m) (ltb m n) (true_at m n l)) i
    + (Σℕ_cong d (λ m. cond (g (n + m) && ltb (n + m) n) 1 0) (λ m. 0) (λ m l. outside (g (n + m)) (ltb (n + m) n) (false_at (n + m) n (omega arith))) ∙ Σℕ_zero d) i)
    ∙ no_more (Σℕ n (λ m. cond (g m) 1 0))
  where
    inside : (a b : Bool) → b ≡ true → ◌≡◌ {A = ℕ} (cond (a && b) 1 0) (cond a 1 0)
    inside true b e = ap {B = ℕ} (λ (c : Bool). cond c 1 0) e
    inside false b e = refl

    outside : (a b : Bool) → b ≡ false → ◌≡◌ {A = ℕ} (cond (a && b) 1 0) 0
    outside true b e = ap {B = ℕ} (λ (c : Bool). cond c 1 0) e
    outside false b e = refl

    no_more : (x : ℕ) → x + 0 ≡ x
    no_more x = omega arith

module _ (q : List ℕ) (t n : ℕ) (l : n < length q) where
  abbrev r : ℕ → ℕ
  r m = get_or q m 0

  abbrev ahead : ℕ
  ahead = Σℕ (length q) (λ m. cond (before q m n) 1 0)

  -- one entry more, n itself
  above_n : t < get_or q n 0 → ahead < above q t
  above_n h =
      omega (
        arith,
        Σℕ_mono (length q) (λ m. cond (before q m n) 1 0 + δ n m * 1) (λ m. cond (ltb t (r m)) 1 0) (λ m k. one m),
        Σℕ_add (length q) (λ m. cond (before q m n) 1 0) (λ m. δ n m * 1),
        pick_out (length q) n (λ m. 1) l,
      )
    where
      one : (m : ℕ) → cond (before q m n) 1 0 + δ n m * 1 ≤ cond (ltb t (r m)) 1 0
      one m = go (dec_lt (r n) (r m)) (dec_lt (r m) (r n)) (dec_lt m n) (dec_lt n m)
        where
          go : Dec (r n < r m) → Dec (r m < r n) → Dec (m < n) → Dec (n < m) → cond (ltb (r n) (r m) || (eqb (r n) (r m) && ltb m n)) 1 0 + δ n m * 1 ≤ cond (ltb t (r m)) 1 0
          go (yes a) b c d = rw (true_at (r n) (r m) a, true_at t (r m) (omega arith)) (rw (δ_other n m (λ e. absurd (differ e a))) (omega arith))
            where
              differ : n ≡ m → r n < r m → ⊥
              differ e a = let x = ap r e in omega arith
          go (no a) (yes b) c d = rw (false_at (r n) (r m) (omega arith), unequal (r n) (r m) (omega arith)) (rw (δ_other n m (λ e. absurd (differ e b))) (omega arith))
            where
              differ : n ≡ m → r m < r n → ⊥
              differ e a = let x = ap r e in omega arith
          go (no a) (no b) (yes c) d = rw (false_at (r n) (r m) (omega arith), equal (r n) (r m) (omega arith), true_at m n c, true_at t (r m) (omega arith)) (rw (δ_other n m (omega arith)) (omega arith))
          go (no a) (no b) (no c) (yes d) = rw (false_at (r n) (r m) (omega arith), equal (r n) (r m) (omega arith), false_at m n (omega arith)) (rw (δ_other n m (omega arith)) (omega arith))
          go (no a) (no b) (no c) (no d) =
              let e : n ≡ m = omega arith in
              rw (false_at (r n) (r m) (omega arith), equal (r n) (r m) (omega arith), false_at m n (omega arith), true_at t (r m) (omega arith)) (rw (ap (λ (k : ℕ). δ n k) (sym e) ∙ δ_same n) (omega arith))

  at_n : t ≡ get_or q n 0 → ahead ≡ above q t + ties q t n
  at_n e =
      Σℕ_cong (length q) (λ m. cond (before q m n) 1 0) (λ m. cond (ltb t (r m)) 1 0 + cond (eqb t (r m) && ltb m n) 1 0) (λ m k. rw (← e) (one m))
      ∙ Σℕ_add (length q) (λ m. cond (ltb t (r m)) 1 0) (λ m. cond (eqb t (r m) && ltb m n) 1 0)
      ∙ ap (λ (x : ℕ). above q t + x) all
    where
      all : Σℕ (length q) (λ m. cond (eqb t (r m) && ltb m n) 1 0) ≡ ties q t n
      all = go (length q) l
        where
          go : (k : ℕ) → n < k → Σℕ k (λ m. cond (eqb t (r m) && ltb m n) 1 0) ≡ ties q t n
          go k h = let x : n + (k - n) ≡ k = omega arith in subst (λ (j : ℕ). Σℕ j (λ m. cond (eqb t (r m) && ltb m n) 1 0) ≡ ties q t n) x (restrict n (k - n) (λ m. eqb t (r m)))

      one : (m : ℕ) → cond (ltb t (r m) || (eqb t (r m) && ltb m n)) 1 0 ≡ cond (ltb t (r m)) 1 0 + cond (eqb t (r m) && ltb m n) 1 0
      one m = go (dec_lt t (r m))
        where
          go : Dec (t < r m) → cond (ltb t (r m) || (eqb t (r m) && ltb m n)) 1 0 ≡ cond (ltb t (r m)) 1 0 + cond (eqb t (r m) && ltb m n) 1 0
          go (yes h) = rw (true_at t (r m) h, unequal t (r m) (omega arith)) refl
          go (no h) = rw (false_at t (r m) (omega arith)) (omega arith)

  below_n : get_or q n 0 < t → above q t + ties q t (length q) ≤ ahead
  below_n h =
      omega (
        arith,
        Σℕ_mono (length q) (λ m. cond (ltb t (r m)) 1 0 + cond (eqb t (r m)) 1 0) (λ m. cond (before q m n) 1 0) (λ m k. one m),
        Σℕ_add (length q) (λ m. cond (ltb t (r m)) 1 0) (λ m. cond (eqb t (r m)) 1 0),
      )
    where
      one : (m : ℕ) → cond (ltb t (r m)) 1 0 + cond (eqb t (r m)) 1 0 ≤ cond (before q m n) 1 0
      one m = go (dec_lt t (r m)) (dec_lt (r m) t)
        where
          go : Dec (t < r m) → Dec (r m < t) → cond (ltb t (r m)) 1 0 + cond (eqb t (r m)) 1 0 ≤ cond (ltb (r n) (r m) || (eqb (r n) (r m) && ltb m n)) 1 0
          go (yes a) b = rw (true_at t (r m) a, unequal t (r m) (omega arith), true_at (r n) (r m) (omega arith)) (omega arith)
          go (no a) (yes b) = rw (false_at t (r m) (omega arith), unequal t (r m) (omega arith)) (omega arith)
          go (no a) (no b) = rw (false_at t (r m) (omega arith), equal t (r m) (omega arith), true_at (r n) (r m) (omega arith)) (omega arith)

  -- t is 0 and at most K ranks are above it, or it splits the list at K
  pub stays_threshold : (K : ℕ) → above q t ≤ K → (t ≡ 0) ⊎ (K ≤ above q t + ties q t (length q))
      → stays K q n ≡ ltb 0 (get_or q n 0) && (ltb t (get_or q n 0) || (eqb t (get_or q n 0) && ltb (above q t + ties q t n) K))
  unfolding stays
  stays_threshold K few split = go (dec_lt 0 (r n)) (dec_lt t (r n)) (dec_lt (r n) t)
    where
      go : Dec (0 < r n) → Dec (t < r n) → Dec (r n < t) → ltb 0 (r n) && ltb ahead K ≡ ltb 0 (r n) && (ltb t (r n) || (eqb t (r n) && ltb (above q t + ties q t n) K))
      go (no z) b c = rw (false_at 0 (r n) (omega arith)) refl
      go (yes z) (yes b) c = rw (true_at 0 (r n) z, true_at t (r n) b, true_at ahead K (omega (arith, above_n b))) refl
      go (yes z) (no b) (yes c) = rw (true_at 0 (r n) z, false_at t (r n) (omega arith), unequal t (r n) (omega arith), false_at ahead K (many split)) refl
        where
          many : (t ≡ 0) ⊎ (K ≤ above q t + ties q t (length q)) → K ≤ ahead
          many (inl e) = absurd (omega arith)
          many (inr e) = omega (arith, below_n c)
      go (yes z) (no b) (no c) = rw (true_at 0 (r n) z, false_at t (r n) (omega arith), equal t (r n) (omega arith)) (ap (λ (x : ℕ). ltb x K) (at_n (omega arith)))
