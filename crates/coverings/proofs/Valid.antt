-- Tests of one word and of two, and what they tell: that a word is canonical, and that one word comes before another.
-- Assumes nothing.
use mathlib.Core.Path.{◌≡◌, refl, sym, ap, subst, subst⁻¹, ◌∙◌}
use mathlib.Core.Logic.{◌⊎◌, inl, inr, ◌↔◌}
use mathlib.Core.Bool.{Bool, true, false, not, ◌&&◌, ◌||◌}
use mathlib.Core.List.{List, [], ◌∷◌}
use Prim.Native.Nat.{ℕ, zero, suc, ◌<◌, suc-le-suc, zero-le}
use native.Mathlib.Nat.{not-suc-le-zero, le_of_suc-le-suc}
use native.Mathlib.Omega.{arith}
use lib.Dec.{T, eqb, eqb→eq, eqb_refl, ltb, ltb→lt, nltb→le}
use lib.ListN.{length, get_or}
use lib.Seq.{ext_get_or}
use Rattle.coverings.specs.Block.{filter, cells, beside, Walk, stay, step, Tetromino, part, Same, name_of, Smallest, Canonical, Before}
use Rattle.integers.proofs.Tests.{both_left, both_right, either, or_left, or_right, decided, refused, eq→eqb, up_to, up_to_at}
use Rattle.coverings.proofs.Lists.{any, all, mem, any_at, all_at, filter_in, in_filter, in_cells, cell_below}
use Rattle.coverings.proofs.Search.{grow, grown}

-- A piece.

abbrev reaches_all : List ℕ → List ℕ → Bool
reaches_all p r = all (λ b. mem b r) p

abbrev pub is_piece : (ℕ → Bool) → Bool
is_piece s = eqb (length (filter s cells)) 4 && all (λ a. reaches_all (filter s cells) (grown (filter s cells) a)) (filter s cells)

grow_walk : (s : ℕ → Bool) (a : ℕ) (r : List ℕ) → ((x : ℕ) → T (mem x r) → Walk s a x) → (x : ℕ) → T (mem x (grow (filter s cells) r)) → Walk s a x
grow_walk s a r h x m =
    let i = filter_in (λ x. any (λ b. eqb b x || beside b x) r) (filter s cells) x m in
    let j = filter_in s cells x i.1 in
    let k = any_at (λ b. eqb b x || beside b x) r i.0 in
    go k.0 (h k.0 k.1) j.0 (cell_below x j.1) (either (eqb k.0 x) (beside k.0 x) k.2)
  where
    go : (b : ℕ) → Walk s a b → T (s x) → x < 16 → T (eqb b x) ⊎ T (beside b x) → Walk s a x
    go b w t l (inl e) = subst (λ (y : ℕ). Walk s a y) (eqb→eq b x e) w
    go b w t l (inr e) = step x w l t e

grown_walk : (s : ℕ → Bool) (a x : ℕ) → T (mem x (grown (filter s cells) a)) → Walk s a x
grown_walk s a x m =
    let p = filter s cells in
    grow_walk s a (grow p (grow p (a ∷ []))) (grow_walk s a (grow p (a ∷ [])) (grow_walk s a (a ∷ []) first)) x m
  where
    first : (y : ℕ) → T (mem y (a ∷ [])) → Walk s a y
    first y m = go (either (eqb y a) false m)
      where
        go : T (eqb y a) ⊎ ⊥ → Walk s a y
        go (inl e) = subst⁻¹ (λ (z : ℕ). Walk s a z) (eqb→eq y a e) stay
        go (inr e) = absurd e

piece : (s : ℕ → Bool) → T (is_piece s) → Tetromino s
piece s t =
    let p = filter s cells in
    let l = both_left (eqb (length p) 4) (all (λ a. reaches_all p (grown p a)) p) t in
    let r = both_right (eqb (length p) 4) (all (λ a. reaches_all p (grown p a)) p) t in
    record {
      four = eqb→eq (length p) 4 l;
      joined = λ a b ha hb ia ib.
          grown_walk s a b
          (all_at (λ b. mem b (grown p a)) p (all_at (λ a. reaches_all p (grown p a)) p r a (in_filter s cells a ia (in_cells a ha))) b (in_filter s cells b ib (in_cells b hb)));
    }

-- A canonical word.

-- the test passes at a number below n
abbrev pub any_to : ℕ → (ℕ → Bool) → Bool
any_to zero g = false
any_to (suc n) g = g n || any_to n g

any_to_at : (n : ℕ) (g : ℕ → Bool) → T (any_to n g) → (b : ℕ) × (b < n) × T (g b)
any_to_at zero g t = absurd t
any_to_at (suc n) g t = go (any_to_at n g) (either (g n) (any_to n g) t)
  where
    go : (T (any_to n g) → (b : ℕ) × (b < n) × T (g b)) → T (g n) ⊎ T (any_to n g) → (b : ℕ) × (b < suc n) × T (g b)
    go ih (inl h) = (n, omega arith, h)
    go ih (inr h) = let r = ih h in (r.0, omega arith, r.2)

abbrev all_cut : List ℕ → Bool
all_cut w = up_to 4 (λ k. is_piece (λ a. eqb (name_of w a) k))

abbrev all_named : List ℕ → Bool
all_named w = up_to 16 (λ a. ltb (name_of w a) 4)

-- each lesser name than that of a cell stands at an earlier cell
abbrev all_earlier : List ℕ → Bool
all_earlier w = up_to 16 (λ a. up_to (name_of w a) (λ k. any_to a (λ b. eqb (name_of w b) k)))

-- the first place of k in a list
abbrev first_of : ℕ → List ℕ → ℕ
first_of k [] = 0
first_of k (x ∷ xs) = elim (eqb x k) [ true ↦ 0 | false ↦ suc (first_of k xs) ]

abbrev is_first : List ℕ → ℕ → ℕ → Bool
is_first w k m = ltb m 16 && (eqb (name_of w m) k && up_to m (λ b. not (eqb (name_of w b) k)))

abbrev all_first : List ℕ → Bool
all_first w = up_to 4 (λ k. is_first w k (first_of k w)) && up_to 3 (λ k. ltb (first_of k w) (first_of (suc k) w))

abbrev pub is_canonical : List ℕ → Bool
is_canonical w = eqb (length w) 16 && (all_cut w && (all_named w && (all_earlier w && all_first w)))

-- what the test tells, part by part
module _ (w : List ℕ) (t : T (is_canonical w)) where
  rest₁ : T (all_cut w && (all_named w && (all_earlier w && all_first w)))
  rest₁ = both_right (eqb (length w) 16) (all_cut w && (all_named w && (all_earlier w && all_first w))) t

  rest₂ : T (all_named w && (all_earlier w && all_first w))
  rest₂ = both_right (all_cut w) (all_named w && (all_earlier w && all_first w)) rest₁

  rest₃ : T (all_earlier w && all_first w)
  rest₃ = both_right (all_named w) (all_earlier w && all_first w) rest₂

  rest₄ : T (all_first w)
  rest₄ = both_right (all_earlier w) (all_first w) rest₃

  named : (a : ℕ) → a < 16 → name_of w a < 4
  named a h = ltb→lt (name_of w a) 4 (up_to_at 16 (λ a. ltb (name_of w a) 4) (both_left (all_named w) (all_earlier w && all_first w) rest₂) a h)

  earlier : (a k : ℕ) → a < 16 → k < name_of w a → (b : ℕ) × (b < a) × (name_of w b ≡ k)
  earlier a k ha hk =
      let t₁ = up_to_at 16 (λ a. up_to (name_of w a) (λ k. any_to a (λ b. eqb (name_of w b) k))) (both_left (all_earlier w) (all_first w) rest₃) a ha in
      let r = any_to_at a (λ b. eqb (name_of w b) k) (up_to_at (name_of w a) (λ k. any_to a (λ b. eqb (name_of w b) k)) t₁ k hk) in
      (r.0, r.1, eqb→eq (name_of w r.0) k r.2)

  first_test : (k : ℕ) → k < 4 → T (is_first w k (first_of k w))
  first_test k h =
      up_to_at 4 (λ k. is_first w k (first_of k w))
      (both_left (up_to 4 (λ k. is_first w k (first_of k w))) (up_to 3 (λ k. ltb (first_of k w) (first_of (suc k) w))) rest₄) k h

  first_below : (k : ℕ) → k < 4 → first_of k w < 16
  first_below k h =
      let m = first_of k w in
      ltb→lt m 16 (both_left (ltb m 16) (eqb (name_of w m) k && up_to m (λ b. not (eqb (name_of w b) k))) (first_test k h))

  first_named : (k : ℕ) → k < 4 → name_of w (first_of k w) ≡ k
  first_named k h =
      let m = first_of k w in
      let t₁ = both_right (ltb m 16) (eqb (name_of w m) k && up_to m (λ b. not (eqb (name_of w b) k))) (first_test k h) in
      eqb→eq (name_of w m) k (both_left (eqb (name_of w m) k) (up_to m (λ b. not (eqb (name_of w b) k))) t₁)

  first_least : (k : ℕ) → k < 4 → (b : ℕ) → b < first_of k w → ¬ (name_of w b ≡ k)
  first_least k h b l e =
      let m = first_of k w in
      let t₁ = both_right (ltb m 16) (eqb (name_of w m) k && up_to m (λ b. not (eqb (name_of w b) k))) (first_test k h) in
      let t₂ = both_right (eqb (name_of w m) k) (up_to m (λ b. not (eqb (name_of w b) k))) t₁ in
      refused (eqb (name_of w b) k) (up_to_at m (λ b. not (eqb (name_of w b) k)) t₂ b l) (eq→eqb e)

  first_rise : (k : ℕ) → k < 3 → first_of k w < first_of (suc k) w
  first_rise k h =
      ltb→lt (first_of k w) (first_of (suc k) w)
      (up_to_at 3 (λ k. ltb (first_of k w) (first_of (suc k) w))
      (both_right (up_to 4 (λ k. is_first w k (first_of k w))) (up_to 3 (λ k. ltb (first_of k w) (first_of (suc k) w))) rest₄) k h)

  -- of two smallest cells the later has the greater name: an equal name, or a lesser one, would stand before it
  ordered : (a b : ℕ) → a < 16 → Smallest w a → Smallest w b → a < b → name_of w a < name_of w b
  ordered a b ha sa sb l = go (decided (ltb (name_of w a) (name_of w b))) (decided (eqb (name_of w a) (name_of w b)))
    where
      go : T (ltb (name_of w a) (name_of w b)) ⊎ T (not (ltb (name_of w a) (name_of w b))) → T (eqb (name_of w a) (name_of w b)) ⊎ T (not (eqb (name_of w a) (name_of w b))) → name_of w a < name_of w b
      go (inl h) d = ltb→lt (name_of w a) (name_of w b) h
      go (inr h) (inl e) = absurd (sb a l (eqb→eq (name_of w a) (name_of w b) e))
      go (inr h) (inr e) =
          let ne : name_of w a ≡ name_of w b → ⊥ = (λ q. refused (eqb (name_of w a) (name_of w b)) e (eq→eqb q)) in
          let less : name_of w b < name_of w a = omega (arith, ne, nltb→le (name_of w a) (name_of w b) h) in
          let r = earlier a (name_of w b) ha less in
          absurd (sb r.0 (omega arith) r.2)

  pub canonical : Canonical w
  canonical =
      record {
        sixteen = eqb→eq (length w) 16 (both_left (eqb (length w) 16) (all_cut w && (all_named w && (all_earlier w && all_first w))) t);
        cuts = λ c h. piece (part (name_of w) c) (up_to_at 4 (λ k. is_piece (λ a. eqb (name_of w a) k)) (both_left (all_cut w) (all_named w && (all_earlier w && all_first w)) rest₁) (name_of w c) (named c h));
        names = named;
        in_order = λ a b ha hb sa sb l. ordered a b ha sa sb l;
      }

-- Two canonical words that cut the block into the same parts are one word. Of the second the test is asked.
module _ (v w : List ℕ) (cv : Canonical v) (t : T (is_canonical w)) (same : Same (name_of v) (name_of w)) where
  -- the smallest cells of w's pieces are those of v's
  smallest : (k : ℕ) → k < 4 → Smallest v (first_of k w)
  smallest k h b l e =
      let hm = first_below w t k h in
      let hb : b < 16 = omega arith in
      first_least w t k h b l ((same b (first_of k w) hb hm).0 e ∙ first_named w t k h)

  -- so v's names rise there, from 0 to 3
  rises : (k : ℕ) → k < 3 → name_of v (first_of k w) < name_of v (first_of (suc k) w)
  rises k h =
      let h₀ : k < 4 = omega arith in
      let h₁ : suc k < 4 = omega arith in
      cv.in_order (first_of k w) (first_of (suc k) w) (first_below w t k h₀) (first_below w t (suc k) h₁) (smallest k h₀) (smallest (suc k) h₁) (first_rise w t k h)

  fixed : (k : ℕ) → k < 4 → name_of v (first_of k w) ≡ k
  fixed k h = go k h
    where
      r₀ : name_of v (first_of 0 w) < name_of v (first_of 1 w)
      r₀ = rises 0 (omega arith)

      r₁ : name_of v (first_of 1 w) < name_of v (first_of 2 w)
      r₁ = rises 1 (omega arith)

      r₂ : name_of v (first_of 2 w) < name_of v (first_of 3 w)
      r₂ = rises 2 (omega arith)

      r₃ : name_of v (first_of 3 w) < 4
      r₃ = cv.names (first_of 3 w) (first_below w t 3 (omega arith))

      go : (k : ℕ) → k < 4 → name_of v (first_of k w) ≡ k
      go zero h = omega (arith, r₀, r₁, r₂, r₃)
      go (suc zero) h = omega (arith, r₀, r₁, r₂, r₃)
      go (suc (suc zero)) h = omega (arith, r₀, r₁, r₂, r₃)
      go (suc (suc (suc zero))) h = omega (arith, r₀, r₁, r₂, r₃)
      go (suc (suc (suc (suc k)))) h = absurd (omega arith)

  equal_at : (c : ℕ) → c < 16 → name_of v c ≡ name_of w c
  equal_at c h =
      let k = name_of w c in
      let hk : k < 4 = named w t c h in
      (same c (first_of k w) h (first_below w t k hk)).1 (sym (first_named w t k hk)) ∙ fixed k hk

  pub unique : v ≡ w
  unique = ext_get_or 0 v w (cv.sixteen ∙ sym (canonical w t).sixteen) (λ i h. equal_at i (rw (sym cv.sixteen) h))

-- The order of words.

abbrev pub is_before : List ℕ → List ℕ → Bool
is_before [] w = false
is_before (x ∷ xs) [] = false
is_before (x ∷ xs) (y ∷ ys) = ltb x y || (eqb x y && is_before xs ys)

differ : (v w : List ℕ) → T (is_before v w) → (i : ℕ) × (i < length v) × ((b : ℕ) → b < i → name_of v b ≡ name_of w b) × (name_of v i < name_of w i)
differ [] w t = absurd t
differ (x ∷ xs) [] t = absurd t
differ (x ∷ xs) (y ∷ ys) t = go (differ xs ys) (either (ltb x y) (eqb x y && is_before xs ys) t)
  where
    D : List ℕ → List ℕ → Type 0
    D v w = (i : ℕ) × (i < length v) × ((b : ℕ) → b < i → name_of v b ≡ name_of w b) × (name_of v i < name_of w i)

    under : (i : ℕ) → x ≡ y → ((b : ℕ) → b < i → name_of xs b ≡ name_of ys b) → (b : ℕ) → b < suc i → name_of (x ∷ xs) b ≡ name_of (y ∷ ys) b
    under i e h zero l = e
    under i e h (suc b) l = h b (le_of_suc-le-suc l)

    go : (T (is_before xs ys) → D xs ys) → T (ltb x y) ⊎ T (eqb x y && is_before xs ys) → D (x ∷ xs) (y ∷ ys)
    go ih (inl l) = (0, suc-le-suc zero-le, (λ b h. absurd (not-suc-le-zero h)), ltb→lt x y l)
    go ih (inr l) =
        let r = ih (both_right (eqb x y) (is_before xs ys) l) in
        (suc r.0, suc-le-suc r.1, under r.0 (eqb→eq x y (both_left (eqb x y) (is_before xs ys) l)) r.2, r.3)

pub before : (v w : List ℕ) → length v ≡ 16 → T (is_before v w) → Before v w
before v w e t = let r = differ v w t in record { place = r.0; inside = omega arith; equal = r.2; less = r.3 }
