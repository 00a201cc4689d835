-- Values at places, put into a plane and taken out again. Assumes nothing.
use mathlib.Core.Path.{◌≡◌, refl, sym, ap, ◌∙◌, subst}
use mathlib.Core.Bool.{Bool, true, false}
use mathlib.Core.List.{List, [], ◌∷◌, ◌++◌, map}
use mathlib.Core.Logic.{◌⊎◌, inl, inr, ⊎_elim, ◌≢◌}
use Prim.Native.Nat.{ℕ, zero, suc, ◌+◌, ◌<◌, ◌≤◌}
use native.Mathlib.Omega.{arith}
use borrow.Author.Tests.{eqb-true, eqb-false}
use lib.Dec.{eqb}
use lib.IntN.{ℤ, pos}
use lib.ListN.{length, get_or, set, length-set}
use lib.Seq.{get_or-set_same, get_or-set_other, ext_get_or}
use Rattle.pyramid.specs.Places.{Place, no_place, at}
use Rattle.pyramid.specs.Slices.{image_of}
use Rattle.places.specs.Walk.{index_in}
use Rattle.sheet_text.specs.Rows.{spread}
use Rattle.sheet_text.proofs.Each.{Each, Pairs}

module _ (h : ℕ) where
  abbrev pub OtherIndex : Place → Place → Type 0
  OtherIndex p q = index_in h q ≢ index_in h p

  -- some place stands at k
  unfoldable pub AtIndex : ℕ → List Place → Type 0
  AtIndex k [] = ⊥
  AtIndex k (p ∷ ps) = (index_in h p ≡ k) ⊎ AtIndex k ps

  pub at_number : (k : ℕ) (ps : List Place) (n : ℕ) → n < length ps → index_in h (get_or ps n no_place) ≡ k → AtIndex k ps
  unfolding AtIndex
  at_number k [] n l e = absurd (omega arith)
  at_number k (p ∷ ps) zero l e = inl e
  at_number k (p ∷ ps) (suc n) l e = inr (at_number k ps n (omega arith) e)

  abbrev pub values_at : List ℤ → List Place → List ℤ
  values_at plane ps = map (at (image_of h plane)) ps

  pub length_spread : (ps : List Place) (vs plane : List ℤ) → length (spread h ps vs plane) ≡ length plane
  unfolding spread
  length_spread [] vs plane = refl
  length_spread (p ∷ ps) [] plane = refl
  length_spread (p ∷ ps) (v ∷ vs) plane = length_spread ps vs (set plane (index_in h p) v) ∙ length-set plane (index_in h p) v

  -- an index at which no place stands keeps its value
  spread_apart : (k : ℕ) (ps : List Place) (vs plane : List ℤ) → Each (λ q. index_in h q ≢ k) ps → get_or (spread h ps vs plane) k (pos 0) ≡ get_or plane k (pos 0)
  unfolding spread Each
  spread_apart k [] vs plane a = refl
  spread_apart k (p ∷ ps) [] plane a = refl
  spread_apart k (p ∷ ps) (v ∷ vs) plane a =
      spread_apart k ps vs (set plane (index_in h p) v) a.1 ∙ get_or-set_other plane (index_in h p) k v (pos 0) (λ e. a.0 (sym e))

  -- what is put is found again
  pub values_spread : (ps : List Place) (vs plane : List ℤ) → Pairs OtherIndex ps → Each (λ p. index_in h p < length plane) ps → length vs ≡ length ps → values_at (spread h ps vs plane) ps ≡ vs
  unfolding spread Pairs Each
  values_spread [] [] plane d i e = refl
  values_spread [] (v ∷ vs) plane d i e = absurd (omega arith)
  values_spread (p ∷ ps) [] plane d i e = absurd (omega arith)
  values_spread (p ∷ ps) (v ∷ vs) plane d i e =
      let l = length-set plane (index_in h p) v in
      let g : get_or (spread h ps vs (set plane (index_in h p) v)) (index_in h p) (pos 0) ≡ v =
      spread_apart (index_in h p) ps vs (set plane (index_in h p) v) d.0 ∙ get_or-set_same plane (index_in h p) v (pos 0) i.0 in
      let t = values_spread ps vs (set plane (index_in h p) v) d.1 (subst (λ n. Each (λ p. index_in h p < n) ps) (sym l) i.1) (omega arith) in
      ap (λ x. x ∷ values_at (spread h ps vs (set plane (index_in h p) v)) ps) g ∙ ap (λ x. v ∷ x) t

  -- a plane's own values, put into a plane as long, give it back at each index at which a place stands
  spread_at : (k : ℕ) (ps : List Place) (plane base : List ℤ) → k < length base → AtIndex k ps ⊎ (get_or base k (pos 0) ≡ get_or plane k (pos 0)) →
      get_or (spread h ps (values_at plane ps) base) k (pos 0) ≡ get_or plane k (pos 0)
  unfolding spread AtIndex
  spread_at k [] plane base l a = ⊎_elim (λ a. absurd a) (λ e. e) a
  spread_at k (p ∷ ps) plane base l a =
      spread_at k ps plane (set base i v) (omega (arith, length-set base i v)) (go (eqb i k) refl a)
    where
      i : ℕ
      i = index_in h p

      v : ℤ
      v = get_or plane (index_in h p) (pos 0)

      go : (x : Bool) → eqb i k ≡ x → ((i ≡ k) ⊎ AtIndex k ps) ⊎ (get_or base k (pos 0) ≡ get_or plane k (pos 0)) →
          AtIndex k ps ⊎ (get_or (set base i v) k (pos 0) ≡ get_or plane k (pos 0))
      go true e g =
          let e' = eqb-true i k e in
          inr (subst (λ j. get_or (set base j (get_or plane j (pos 0))) k (pos 0) ≡ get_or plane k (pos 0)) (sym e') (get_or-set_same base k (get_or plane k (pos 0)) (pos 0) l))
      go false e g =
          let n : i ≢ k = eqb-false i k e in
          ⊎_elim
          (λ a. ⊎_elim (λ z. absurd (n z)) (λ z. inl z) a)
          (λ a. inr (get_or-set_other base i k v (pos 0) (λ z. n (sym z)) ∙ a))
          g

  pub spread_values : (ps : List Place) (plane base : List ℤ) → length base ≡ length plane → ((k : ℕ) → k < length plane → AtIndex k ps) →
      spread h ps (values_at plane ps) base ≡ plane
  spread_values ps plane base e a =
      let l = length_spread ps (values_at plane ps) base ∙ e in
      ext_get_or (pos 0) (spread h ps (values_at plane ps) base) plane l
      (λ k b. spread_at k ps plane base (omega arith) (inl (a k (omega arith))))
