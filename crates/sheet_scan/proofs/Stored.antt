-- Lines stored in a plane: what it held before does not matter; and, in a plane of zeros, each line at its own place is all there is to store.
-- Assumes nothing.
use mathlib.Core.Path.{◌≡◌, refl, sym, ap, ◌∙◌, subst}
use mathlib.Core.Bool.{Bool, true, false, not, cond}
use mathlib.Core.List.{List, [], ◌∷◌, ◌++◌, map}
use Prim.Native.Nat.{ℕ, zero, suc, ◌*◌, ◌<◌}
use native.Mathlib.Omega.{arith}
use borrow.Author.Tests.{not-true}
use lib.IntN.{ℤ, pos}
use lib.ListN.{length, get_or, set, length-set, replicate, length-replicate, get_or-replicate}
use lib.Seq.{get_or-set_other, set-get_or}
use Rattle.integers.proofs.Tests.{both_true}
use Rattle.pyramid.specs.Places.{Place, plane_places, at}
use Rattle.pyramid.specs.Slices.{image_of}
use Rattle.places.specs.Walk.{index_in}
use Rattle.places.proofs.Sides.{Passed}
use Rattle.sheet_text.specs.Rows.{is_place, spread}
use Rattle.sheet_text.proofs.Each.{Each, Pairs}
use Rattle.sheet_text.proofs.Spread.{OtherIndex, length_spread, values_spread, spread_values}
use Rattle.sheet_text.proofs.Layouts.{indexes, inside, onto}
use Rattle.sheet_scan.specs.Scan.{value_here, lines_past, stored_along}
use Rattle.sheet_scan.proofs.Scans.{values_along, Others}

abbrev pub zeros : ℕ → ℕ → List ℤ
zeros h w = replicate (w * h) (pos 0)

pub along_length : (ps : List Place) (rs : List (List ℤ)) → length (values_along ps rs) ≡ length ps
unfolding values_along
along_length [] rs = refl
along_length (p ∷ ps) rs = ap suc (along_length ps _)

-- what was put is found again
pub taken : (h w R : ℕ) → Passed h w R → (vs : List ℤ) → length vs ≡ length (plane_places R h w) → map (at (image_of h (spread h (plane_places R h w) vs (zeros h w)))) (plane_places R h w) ≡ vs
taken h w zero q vs e = absurd (omega (arith, q.some_level))
taken h w (suc R) q vs e =
    values_spread h (plane_places (suc R) h w) vs (zeros h w) (indexes R h w q.fits)
    (subst (λ (m : ℕ). Each (λ p. index_in h p < m) (plane_places (suc R) h w)) (sym (length-replicate (w * h) (pos 0))) (inside R h w q.fits)) e

-- what is stored are the values along the places
stored_is : (h : ℕ) (ps : List Place) (rs : List (List ℤ)) (old : List ℤ) → stored_along h ps rs old ≡ spread h ps (values_along ps rs) old
unfolding stored_along spread values_along
stored_is h [] rs old = refl
stored_is h (p ∷ ps) rs old = stored_is h ps (lines_past p rs) (set old (index_in h p) (value_here p rs))

-- what the plane held before does not matter
pub same_plane : (h w R : ℕ) → Passed h w R → (rs : List (List ℤ)) (old : List ℤ) → length old ≡ w * h
    → stored_along h (plane_places R h w) rs old ≡ spread h (plane_places R h w) (values_along (plane_places R h w) rs) (zeros h w)
same_plane h w zero q rs old l = absurd (omega (arith, q.some_level))
same_plane h w (suc R) q rs old l =
    let ps = plane_places (suc R) h w in
    let vs = values_along ps rs in
    let Q = spread h ps vs (zeros h w) in
    let m = length_spread h ps vs (zeros h w) ∙ length-replicate (w * h) (pos 0) in
    stored_is h ps rs old ∙ ap (λ x. spread h ps x old) (sym (taken h w (suc R) q vs (along_length ps rs))) ∙ spread_values h ps Q old (l ∙ sym m) (λ k b. onto R h w q.fits k (omega arith))

-- ---- in a plane of zeros

module _ (h : ℕ) where
  -- a place of the plane that holds 0
  abbrev pub Blank : List ℤ → Place → Type 0
  Blank plane p = (index_in h p < length plane) × (get_or plane (index_in h p) (pos 0) ≡ pos 0)

  -- lines are left to store along places that hold 0, no two at one index, so that the plane becomes W
  pub record Filling (W plane : List ℤ) (ps : List Place) (rs : List (List ℤ)) : Type 0 where
    pub apart : Pairs (OtherIndex h) ps
    pub blank : Each (Blank plane) ps
    pub rest : stored_along h ps rs plane ≡ W

  still_blank : (plane : List ℤ) (p : Place) (v : ℤ) (ps : List Place) → Each (OtherIndex h p) ps → Each (Blank plane) ps → Each (Blank (set plane (index_in h p) v)) ps
  unfolding Each
  still_blank plane p v [] a o = tt
  still_blank plane p v (q ∷ ps) a o =
      ((omega (arith, o.0.0, length-set plane (index_in h p) v), get_or-set_other plane (index_in h p) (index_in h q) v (pos 0) a.0 ∙ o.0.1), still_blank plane p v ps a.1 o.1)

  set_zero : (plane : List ℤ) (i : ℕ) → get_or plane i (pos 0) ≡ pos 0 → set plane i (pos 0) ≡ plane
  set_zero plane i e = ap (set plane i) (sym e) ∙ set-get_or plane i (pos 0)

  -- where no line is left, nothing is
  stored_none : (ps : List Place) (plane : List ℤ) → Each (Blank plane) ps → stored_along h ps [] plane ≡ plane
  unfolding Each stored_along
  stored_none [] plane o = refl
  stored_none (p ∷ ps) plane o = ap (stored_along h ps []) (set_zero plane (index_in h p) o.0.1) ∙ stored_none ps plane o.1

  pub all_lines : (W plane : List ℤ) (ps : List Place) (l : List (List ℤ)) → Filling W plane ps l → l ≡ [] → plane ≡ W
  all_lines W plane ps l s e = sym (stored_none ps plane s.blank) ∙ sym (ap (λ l. stored_along h ps l plane) e) ∙ s.rest

  -- nor where no place is
  pub all_places : (W plane : List ℤ) (ps : List Place) (l : List (List ℤ)) → Filling W plane ps l → ps ≡ [] → plane ≡ W
  unfolding stored_along
  all_places W plane ps l s e = sym (ap (λ q. stored_along h q l plane) e) ∙ s.rest

  -- past places of which the next line is not
  pass : (W plane : List ℤ) (r : List ℤ) (rs : List (List ℤ)) (qs ps : List Place) → Others r rs qs → Filling W plane (qs ++ ps) (r ∷ rs) → Filling W plane ps (r ∷ rs)
  unfolding Pairs Each stored_along
  pass W plane r rs [] ps o s = s
  pass W plane r rs (q ∷ qs) ps o s =
      let n = both_true (not (is_place q r)) _ o in
      pass W plane r rs qs ps n.1
      (record { apart = s.apart.1; blank = s.blank.1; rest = sym (ap (stored_along h (qs ++ ps) (r ∷ rs)) (set_zero plane (index_in h q) s.blank.0.1)) ∙ sym (at_other (is_place q r) (not-true (is_place q r) n.0)) ∙ s.rest })
    where
      at_other : (x : Bool) → x ≡ false → stored_along h (qs ++ ps) (cond x rs (r ∷ rs)) (set plane (index_in h q) (cond x (get_or r 4 (pos 0)) (pos 0))) ≡ stored_along h (qs ++ ps) (r ∷ rs) (set plane (index_in h q) (pos 0))
      at_other x e = ap (λ (x : Bool). stored_along h (qs ++ ps) (cond x rs (r ∷ rs)) (set plane (index_in h q) (cond x (get_or r 4 (pos 0)) (pos 0)))) e

  pub pass_others : (W plane : List ℤ) (r : List ℤ) (rs l : List (List ℤ)) (qs K K' : List Place) → Filling W plane K l → l ≡ r ∷ rs → K ≡ qs ++ K' → Others r rs qs → Filling W plane K' (r ∷ rs)
  pass_others W plane r rs l qs K K' s e f o = pass W plane r rs qs K' o (subst (λ q. Filling W plane q (r ∷ rs)) f (subst (λ l. Filling W plane K l) e s))

  -- the line of the next place stored there
  put : (W plane : List ℤ) (r : List ℤ) (rs : List (List ℤ)) (p : Place) (ps : List Place) → is_place p r ≡ true → Filling W plane (p ∷ ps) (r ∷ rs) → Filling W (set plane (index_in h p) (get_or r 4 (pos 0))) ps rs
  unfolding Pairs Each stored_along
  put W plane r rs p ps e s =
      record {
        apart = s.apart.1;
        blank = still_blank plane p (get_or r 4 (pos 0)) ps s.apart.0 s.blank.1;
        rest = sym (ap (λ (x : Bool). stored_along h ps (cond x rs (r ∷ rs)) (set plane (index_in h p) (cond x (get_or r 4 (pos 0)) (pos 0)))) e) ∙ s.rest;
      }

  pub put_line : (W plane : List ℤ) (r : List ℤ) (rs : List (List ℤ)) (p : Place) (K K' : List Place) → Filling W plane K (r ∷ rs) → K ≡ p ∷ K' → is_place p r ≡ true → Filling W (set plane (index_in h p) (get_or r 4 (pos 0))) K' rs
  put_line W plane r rs p K K' s e o = put W plane r rs p K' o (subst (λ q. Filling W plane q (r ∷ rs)) e s)

-- at the start all places hold 0
all_blank : (h w : ℕ) (ps : List Place) → Each (λ p. index_in h p < w * h) ps → Each (Blank h (zeros h w)) ps
unfolding Each
all_blank h w [] i = tt
all_blank h w (p ∷ ps) i = ((omega (arith, i.0, length-replicate (w * h) (pos 0)), get_or-replicate (w * h) (index_in h p) (pos 0) (pos 0) i.0), all_blank h w ps i.1)

pub cleared : (h w R : ℕ) → Passed h w R → (rs : List (List ℤ)) (plane : List ℤ) → plane ≡ zeros h w → Filling h (stored_along h (plane_places R h w) rs plane) plane (plane_places R h w) rs
cleared h w zero q rs plane e = absurd (omega (arith, q.some_level))
cleared h w (suc R) q rs plane e =
    record {
      apart = indexes R h w q.fits;
      blank = subst (λ P. Each (Blank h P) (plane_places (suc R) h w)) (sym e) (all_blank h w (plane_places (suc R) h w) (inside R h w q.fits));
      rest = refl;
    }
