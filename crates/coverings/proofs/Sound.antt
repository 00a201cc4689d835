-- The search is sound: where it passes, each cutting agrees with one of the words.
-- Assumes nothing.
use mathlib.Core.Path.{◌≡◌, refl, sym, ap, subst, subst⁻¹, ◌∙◌}
use mathlib.Core.Logic.{◌⊎◌, inl, inr, ◌↔◌}
use mathlib.Core.Bool.{Bool, true, false, not, ◌&&◌, ◌||◌}
use mathlib.Core.List.{List, [], ◌∷◌}
use Prim.Native.Nat.{ℕ, zero, suc, ◌<◌}
use native.Mathlib.Omega.{arith}
use lib.Dec.{T, eqb, eqb→eq, eqb_refl}
use lib.ListN.{length}
use Rattle.coverings.specs.Block.{filter, with_if, cells, beside, Walk, stay, step, Tetromino, part, Cutting, Same, name_of}
use Rattle.integers.proofs.Tests.{is_false, both_left, both_right, either, or_left, or_right, decided, refused, eq→eqb}
use Rattle.coverings.proofs.Lists.{any, all, mem, any_at, all_at, filter_in, in_filter, filter_filter, kept, left_out, in_cells, cell_below, same_cells}
use Rattle.coverings.proofs.Search.{grow, grown, splits, apart, choices, eq_list, word_if, narrow, found, search}

-- A choice is made for each set that has n of the entries.

none_kept : (s : ℕ → Bool) (xs : List ℕ) → length (filter s xs) ≡ 0 → (filter s xs ≡ []) × (filter (λ a. not (s a)) xs ≡ xs)
none_kept s [] e = (refl, refl)
none_kept s (x ∷ xs) e = go (s x) e (none_kept s xs)
  where
    go : (b : Bool) → length (with_if b x (filter s xs)) ≡ 0 → (length (filter s xs) ≡ 0 → (filter s xs ≡ []) × (filter (λ a. not (s a)) xs ≡ xs)) → (with_if b x (filter s xs) ≡ []) × (with_if (not b) x (filter (λ a. not (s a)) xs) ≡ x ∷ xs)
    go true q ih = absurd (omega arith)
    go false q ih = ((ih q).0, ap {B = List ℕ} (λ (l : List ℕ). x ∷ l) (ih q).1)

chosen : (s : ℕ → Bool) (cs : List ℕ) (n : ℕ) (k : List ℕ → List ℕ → Bool) → length (filter s cs) ≡ n → T (choices cs n k) → T (k (filter s cs) (filter (λ a. not (s a)) cs))
chosen s cs zero k e t =
    let h = none_kept s cs e in
    rw (h.0, h.1) t
chosen s [] (suc n) k e t = absurd (omega arith)
chosen s (c ∷ cs) (suc n) k e t =
    go (s c) e
    (λ q. chosen s cs n (λ p r. k (c ∷ p) r) q (both_left (choices cs n (λ p r. k (c ∷ p) r)) (choices cs (suc n) (λ p r. k p (c ∷ r))) t))
    (λ q. chosen s cs (suc n) (λ p r. k p (c ∷ r)) q (both_right (choices cs n (λ p r. k (c ∷ p) r)) (choices cs (suc n) (λ p r. k p (c ∷ r))) t))
  where
    go : (b : Bool) → length (with_if b c (filter s cs)) ≡ suc n → (length (filter s cs) ≡ n → T (k (c ∷ filter s cs) (filter (λ a. not (s a)) cs))) → (length (filter s cs) ≡ suc n → T (k (filter s cs) (c ∷ filter (λ a. not (s a)) cs))) → T (k (with_if b c (filter s cs)) (with_if (not b) c (filter (λ a. not (s a)) cs)))
    go true q i j = i (omega arith)
    go false q i j = j q

-- A piece is not apart.

stays : (s : ℕ → Bool) (c : ℕ) (r : List ℕ) → T (mem c r) → ((b a : ℕ) → T (mem b r) → T (mem a (filter s cells)) → T (beside b a) → T (mem a r)) → {a : ℕ} → Walk s c a → T (mem a r)
stays s c r m h stay = m
stays s c r m h (step {b} a w below i e) = h b a (stays s c r m h w) (in_filter s cells a i (in_cells a below)) e

pub not_split : (s : ℕ → Bool) → Tetromino s → (c : ℕ) → T (mem c (filter s cells)) → (r : List ℕ) → T (splits c (filter s cells) r) → ⊥
not_split s p c m r t =
    let t₁ = both_right (mem c r) (any (λ a. not (mem a r)) (filter s cells) && all (λ b. all (λ a. not (beside b a) || mem a r) (filter s cells)) r) t in
    let out = any_at (λ a. not (mem a r)) (filter s cells) (both_left (any (λ a. not (mem a r)) (filter s cells)) (all (λ b. all (λ a. not (beside b a) || mem a r) (filter s cells)) r) t₁) in
    let shut = both_right (any (λ a. not (mem a r)) (filter s cells)) (all (λ b. all (λ a. not (beside b a) || mem a r) (filter s cells)) r) t₁ in
    let cin = filter_in s cells c m in
    let oin = filter_in s cells out.0 out.1 in
    let walk = p.joined c out.0 (cell_below c cin.1) (cell_below out.0 oin.1) cin.0 oin.0 in
    refused (mem out.0 r) out.2
    (stays s c r (both_left (mem c r) (any (λ a. not (mem a r)) (filter s cells) && all (λ b. all (λ a. not (beside b a) || mem a r) (filter s cells)) r) t)
    (λ b a mb ma e. held b a e (either (not (beside b a)) (mem a r) (all_at (λ a. not (beside b a) || mem a r) (filter s cells) (all_at (λ b. all (λ a. not (beside b a) || mem a r) (filter s cells)) r shut b mb) a ma)))
    walk)
  where
    held : (b a : ℕ) → T (beside b a) → T (not (beside b a)) ⊎ T (mem a r) → T (mem a r)
    held b a e (inl n) = absurd (refused (beside b a) n e)
    held b a e (inr h) = h

-- The words that go on.

pub eq_list→eq : (xs ys : List ℕ) → T (eq_list xs ys) → xs ≡ ys
eq_list→eq [] [] t = refl
eq_list→eq [] (y ∷ ys) t = absurd t
eq_list→eq (x ∷ xs) [] t = absurd t
eq_list→eq (x ∷ xs) (y ∷ ys) t =
    let e = eqb→eq x y (both_left (eqb x y) (eq_list xs ys) t) in
    let es = eq_list→eq xs ys (both_right (eqb x y) (eq_list xs ys) t) in
    λ i. e i ∷ es i

abbrev pub Each : (List ℕ → Type 0) → List (List ℕ) → Type 0
Each P [] = Unit {0}
Each P (w ∷ ws) = P w × Each P ws

each_narrow : (P Q : List ℕ → Type 0) (c : ℕ) (p : List ℕ) → ((w : List ℕ) → filter (part (name_of w) c) cells ≡ p → P w → Q w) → (ws : List (List ℕ)) → Each P ws → Each Q (narrow c p ws)
each_narrow P Q c p h [] e = tt
each_narrow P Q c p h (w ∷ ws) e = go (eq_list (filter (part (name_of w) c) cells) p) refl (each_narrow P Q c p h ws e.1)
  where
    go : (b : Bool) → eq_list (filter (part (name_of w) c) cells) p ≡ b → Each Q (narrow c p ws) → Each Q (word_if b w (narrow c p ws))
    go true q r = (h w (eq_list→eq (filter (part (name_of w) c) cells) p (subst⁻¹ T q tt)) e.0, r)
    go false q r = r

-- The soundness.

module _ (Listed : List ℕ → Type 0) (f : ℕ → ℕ) (cut : Cutting f) where
  -- a word has the same part around the cell a
  abbrev Agrees : List ℕ → ℕ → Type 0
  Agrees w a = (b : ℕ) → b < 16 → (f b ≡ f a) ↔ (name_of w b ≡ name_of w a)

  -- a word of the table that agrees at the cells that are not left
  abbrev Good : List ℕ → List ℕ → Type 0
  Good u w = Listed w × ((a : ℕ) → a < 16 → T (mem a u) ⊎ Agrees w a)

  -- the cells that are left are whole parts
  abbrev Whole : List ℕ → Type 0
  Whole u = (a : ℕ) → T (mem a u) → (a < 16) × (filter (part f a) cells ≡ filter (part f a) u)

  abbrev Found : Type 0
  Found = (w : List ℕ) × Listed w × Same f (name_of w)

  leaf : (ws : List (List ℕ)) → Each (Good []) ws → T (found ws) → Found
  leaf [] e t = absurd t
  leaf (w ∷ ws) e t = (w, e.0.0, (λ a b ha hb. go b (e.0.1 b hb) a ha))
    where
      go : (b : ℕ) → T (mem b []) ⊎ Agrees w b → (a : ℕ) → a < 16 → (f a ≡ f b) ↔ (name_of w a ≡ name_of w b)
      go b (inl h) a ha = absurd h
      go b (inr h) a ha = h a ha

  -- one part is taken away
  less_whole : (c : ℕ) (u : List ℕ) → Whole u → Whole (filter (λ a. not (part f c a)) u)
  less_whole c u h a m =
      let i = filter_in (λ a. not (part f c a)) u a m in (
        (h a i.1).0,
        (h a i.1).1 ∙ sym (filter_filter (part f a) (λ x. not (part f c x)) (λ x t. other x t i.0) u),
      )
    where
      other : (x : ℕ) → T (part f a x) → T (not (part f c a)) → T (not (part f c x))
      other x t n = go (decided (part f c x))
        where
          go : T (part f c x) ⊎ T (not (part f c x)) → T (not (part f c x))
          go (inl y) = absurd (refused (part f c a) n (eq→eqb (sym (eqb→eq (f x) (f a) t) ∙ eqb→eq (f x) (f c) y)))
          go (inr y) = y

  less_good : (c : ℕ) (u : List ℕ) → c < 16 → (w : List ℕ) → filter (part (name_of w) c) cells ≡ filter (part f c) cells → Good u w → Good (filter (λ a. not (part f c a)) u) w
  less_good c u hc w e g = (g.0, λ a ha. go a ha (g.1 a ha) (decided (part f c a)))
    where
      agrees : (a : ℕ) → a < 16 → T (part f c a) → Agrees w a
      agrees a ha t b hb =
          let wa : name_of w a ≡ name_of w c = eqb→eq (name_of w a) (name_of w c) (same_cells (part f c) (part (name_of w) c) (sym e) a ha t) in
          let fa : f a ≡ f c = eqb→eq (f a) (f c) t in (
            (λ q. eqb→eq (name_of w b) (name_of w c) (same_cells (part f c) (part (name_of w) c) (sym e) b hb (eq→eqb (q ∙ fa))) ∙ sym wa),
            (λ q. eqb→eq (f b) (f c) (same_cells (part (name_of w) c) (part f c) e b hb (eq→eqb (q ∙ wa))) ∙ sym fa),
          )

      go : (a : ℕ) → a < 16 → T (mem a u) ⊎ Agrees w a → T (part f c a) ⊎ T (not (part f c a)) → T (mem a (filter (λ a. not (part f c a)) u)) ⊎ Agrees w a
      go a ha (inr g) d = inr g
      go a ha (inl m) (inl t) = inr (agrees a ha t)
      go a ha (inl m) (inr t) = inl (in_filter (λ a. not (part f c a)) u a t m)

  -- what one round of the search leaves: the part of the least cell that is left is one of the choices, and is not dropped
  round : (c : ℕ) (u : List ℕ) → Whole (c ∷ u) → (k : List ℕ → List ℕ → Bool) → T (choices u 3 (λ p r. elim (apart c (c ∷ p)) [ true ↦ true | false ↦ k p r ])) → T (k (filter (part f c) u) (filter (λ a. not (part f c a)) u))
  round c u h k t =
      let m = or_left (eqb c c) (mem c u) (eqb_refl c) in
      let e : filter (part f c) cells ≡ c ∷ filter (part f c) u = (h c m).1 ∙ kept (part f c c) c (filter (part f c) u) (eqb_refl (f c)) in
      let q : suc (length (filter (part f c) u)) ≡ 4 = ap length (sym e) ∙ (cut c (h c m).0).four in
      let shape : apart c (c ∷ filter (part f c) u) ≡ false =
      is_false (apart c (c ∷ filter (part f c) u))
      (λ y. not_split (part f c) (cut c (h c m).0) c (in_filter (part f c) cells c (eqb_refl (f c)) (in_cells c (h c m).0)) (grown (filter (part f c) cells) c)
      (subst⁻¹ (λ (l : List ℕ). T (splits c l (grown l c))) e y)) in
      subst (λ (b : Bool). T (elim b [ true ↦ true | false ↦ k (filter (part f c) u) (filter (λ a. not (part f c a)) u) ])) shape
      (chosen (part f c) u 3 (λ p r. elim (apart c (c ∷ p)) [ true ↦ true | false ↦ k p r ]) (omega arith) t)

  sound : (n : ℕ) (u : List ℕ) (ws : List (List ℕ)) → Whole u → Each (Good u) ws → T (search n u ws) → Found
  sound zero [] ws h g t = leaf ws g t
  sound zero (c ∷ u) ws h g t = absurd t
  sound (suc n) [] ws h g t = leaf ws g t
  sound (suc n) (c ∷ u) ws h g t =
      let m = or_left (eqb c c) (mem c u) (eqb_refl c) in
      let e : filter (part f c) cells ≡ c ∷ filter (part f c) u = (h c m).1 ∙ kept (part f c c) c (filter (part f c) u) (eqb_refl (f c)) in
      let r : filter (λ a. not (part f c a)) (c ∷ u) ≡ filter (λ a. not (part f c a)) u = left_out (part f c c) c (filter (λ a. not (part f c a)) u) (eqb_refl (f c)) in
      sound n (filter (λ a. not (part f c a)) u) (narrow c (c ∷ filter (part f c) u) ws)
      (subst Whole r (less_whole c (c ∷ u) h))
      (subst (λ (v : List ℕ). Each (Good v) (narrow c (c ∷ filter (part f c) u) ws)) r
      (each_narrow (Good (c ∷ u)) (Good (filter (λ a. not (part f c a)) (c ∷ u))) c (c ∷ filter (part f c) u) (λ w q. less_good c (c ∷ u) (h c m).0 w (q ∙ sym e)) ws g))
      (round c u h (λ p r. search n r (narrow c (c ∷ p) ws)) t)

  pub every_cutting : (ws : List (List ℕ)) → Each Listed ws → T (search 4 cells ws) → Found
  every_cutting ws l t = sound 4 cells ws (λ a m. (cell_below a m, refl)) (start ws l) t
    where
      start : (ws : List (List ℕ)) → Each Listed ws → Each (Good cells) ws
      start [] l = tt
      start (w ∷ ws) l = ((l.0, λ a ha. inl (in_cells a ha)), start ws l.1)
