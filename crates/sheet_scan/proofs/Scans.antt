-- Lines along places, one place at a time. Assumes nothing.
use mathlib.Core.Path.{◌≡◌, refl, sym, ap, ◌∙◌}
use mathlib.Core.Bool.{Bool, true, false, cond, not, ◌&&◌}
use mathlib.Core.List.{List, [], ◌∷◌, ◌++◌, map}
use mathlib.Core.Option.{Option, none, some}
use Prim.Native.Nat.{ℕ, suc, ◌*◌, ◌-◌, ◌^◌}
use native.Mathlib.Omega.{arith}
use borrow.Author.Tests.{le-leb, not-true}
use lib.Dec.{eqb, leb}
use lib.IntN.{ℤ, pos}
use lib.ListN.{get_or, length}
use Rattle.integers.specs.Lists.{every}
use Rattle.integers.proofs.Tests.{both_true, and_false}
use Rattle.coverings.specs.Entry.{is_number}
use Rattle.text.specs.Lines.{cell_at}
use Rattle.pyramid.specs.Plane.{Image}
use Rattle.pyramid.specs.Places.{Place, BlockPlace, at}
use Rattle.pyramid.specs.Ranges.{fits_range}
use Rattle.integers.specs.Zero.{is_zero}
use Rattle.sheet_text.specs.Rows.{is_place, before, values_of, covers_of, is_block}
use Rattle.sheet_text.specs.Sheet.{is_some, list_in}
use Rattle.sheet_scan.specs.Scan.{value_here, lines_past, zero_here, fit_along, covers_along}

-- the values along places, 0 where there is no line
unfoldable pub values_along : List Place → List (List ℤ) → List ℤ
values_along [] rs = []
values_along (p ∷ ps) rs = value_here p rs ∷ values_along ps (lines_past p rs)

-- the values of a place and of those behind it
pub values_cons : (p : Place) (ps : List Place) (rs : List (List ℤ)) → values_of (p ∷ ps) rs ≡ cond (zero_here p rs) none (before (value_here p rs) (values_of ps (lines_past p rs)))
unfolding values_of
values_cons p ps [] = refl
values_cons p ps (r ∷ rs) = go (is_place p r) (is_zero (get_or r 4 (pos 0)))
  where
    go : (x y : Bool) → cond x (cond y none (before (get_or r 4 (pos 0)) (values_of ps rs))) (before (pos 0) (values_of ps (r ∷ rs)))
        ≡ cond (x && y) none (before (cond x (get_or r 4 (pos 0)) (pos 0)) (values_of ps (cond x rs (r ∷ rs))))
    go true true = refl
    go true false = refl
    go false y = refl

some_before : {A : Type 0} (a : A) (o : Option (List A)) → is_some (before a o) ≡ is_some o
some_before a none = refl
some_before a (some l) = refl

some_cons : (p : Place) (ps : List Place) (rs : List (List ℤ)) → is_some (values_of (p ∷ ps) rs) ≡ (not (zero_here p rs) && is_some (values_of ps (lines_past p rs)))
some_cons p ps rs = ap is_some (values_cons p ps rs) ∙ go (zero_here p rs)
  where
    go : (z : Bool) → is_some (cond z none (before (value_here p rs) (values_of ps (lines_past p rs)))) ≡ (not z && is_some (values_of ps (lines_past p rs)))
    go true = refl
    go false = some_before (value_here p rs) (values_of ps (lines_past p rs))

-- where no line is left, no entry has one
none_some : (ps : List Place) → is_some (values_of ps []) ≡ true
unfolding values_of
none_some [] = refl
none_some (p ∷ ps) = some_before (pos 0) (values_of ps []) ∙ none_some ps

some_over : (r : List ℤ) (rs l : List (List ℤ)) → l ≡ r ∷ rs → is_some (values_of [] l) ≡ false
unfolding values_of
some_over r rs l e = ap (λ l. is_some (values_of [] l)) e

-- where the lines are in order, the values are those along the places
pub along : (ps : List Place) (rs : List (List ℤ)) → is_some (values_of ps rs) ≡ true → list_in (values_of ps rs) ≡ values_along ps rs
unfolding values_of values_along
along [] [] e = refl
along [] (r ∷ rs) e = refl
along (p ∷ ps) rs e =
    ap list_in (values_cons p ps rs) ∙ go (zero_here p rs) (values_of ps (lines_past p rs)) refl (sym (ap is_some (values_cons p ps rs)) ∙ e) (along ps (lines_past p rs))
  where
    v : ℤ
    v = value_here p rs

    go : (z : Bool) (o : Option (List ℤ)) → values_of ps (lines_past p rs) ≡ o → is_some (cond z none (before v (values_of ps (lines_past p rs)))) ≡ true
        → (is_some (values_of ps (lines_past p rs)) ≡ true → list_in (values_of ps (lines_past p rs)) ≡ values_along ps (lines_past p rs))
        → list_in (cond z none (before v (values_of ps (lines_past p rs)))) ≡ v ∷ values_along ps (lines_past p rs)
    go true o q e ih = absurd (let z : ◌≡◌ {A = ℕ} 0 1 = cc in omega arith)
    go false none q e ih = absurd (let z : false ≡ true = sym (ap (λ o. is_some (before v o)) q) ∙ e in let y : ◌≡◌ {A = ℕ} 0 1 = cc in omega arith)
    go false (some l) q e ih = ap (λ o. list_in (before v o)) q ∙ ap (λ x. v ∷ x) (sym (ap list_in q) ∙ ih (ap is_some q))

-- ranges along the lines are ranges of a plane with these values
pub fit_plane : (R : ℕ) (P : Image) (ps : List Place) (rs : List (List ℤ)) → map (at P) ps ≡ values_along ps rs → every (λ p. fits_range R p (at P p)) ps ≡ fit_along R ps rs
unfolding values_along fit_along
fit_plane R P [] rs e = refl
fit_plane R P (p ∷ ps) rs e =
    let h : at P p ≡ value_here p rs = cc in
    let t : map (at P) ps ≡ values_along ps (lines_past p rs) = cc in
    (λ i. fits_range R p (h i) && fit_plane R P ps (lines_past p rs) t i)

fit_cons : (R : ℕ) (p : Place) (ps : List Place) (rs : List (List ℤ)) → fit_along R (p ∷ ps) rs ≡ (fits_range R p (value_here p rs) && fit_along R ps (lines_past p rs))
unfolding fit_along
fit_cons R p ps rs = refl

fit_end : (R : ℕ) (rs : List (List ℤ)) → fit_along R [] rs ≡ true
unfolding fit_along
fit_end R rs = refl

-- 0 is in every range
zero_fits : (R : ℕ) (p : Place) → fits_range R p (pos 0) ≡ true
zero_fits R p = either (eqb p.band 0)
  where
    either : (b : Bool) → cond b (leb 0 (4095 * 4 ^ R)) (leb 0 (2 * 4 ^ (p.level - 1) * 4095)) ≡ true
    either true = le-leb 0 (4095 * 4 ^ R) (omega arith)
    either false = le-leb 0 (2 * 4 ^ (p.level - 1) * 4095) (omega arith)

none_fits : (R : ℕ) (ps : List Place) → fit_along R ps [] ≡ true
unfolding fit_along
none_fits R [] = refl
none_fits R (p ∷ ps) = λ i. zero_fits R p i && none_fits R ps i

-- two tests and what is left of a third
and_assoc : (a b c : Bool) → ((a && b) && c) ≡ (a && (b && c))
and_assoc true b c = refl
and_assoc false b c = refl

and_true : (a : Bool) → (a && true) ≡ a
and_true true = refl
and_true false = refl

-- a pass along the places: what was found so far, and what is left
some_again : (p : Place) (t ps : List Place) (rs rs' : List (List ℤ)) (a z c : Bool) → ps ≡ p ∷ t → rs' ≡ lines_past p rs → c ≡ (a && not z) → z ≡ zero_here p rs
    → (c && is_some (values_of t rs')) ≡ (a && is_some (values_of ps rs))
some_again p t ps rs rs' a z c e f g h =
    (λ i. g i && is_some (values_of t (f i))) ∙ and_assoc a (not z) (is_some (values_of t (lines_past p rs)))
    ∙ ap (λ (x : Bool). a && x) ((λ i. not (h i) && is_some (values_of t (lines_past p rs))) ∙ sym (some_cons p t rs) ∙ sym (ap (λ l. is_some (values_of l rs)) e))

fit_again : (R : ℕ) (p : Place) (t ps : List Place) (rs rs' : List (List ℤ)) (a b c : Bool) → ps ≡ p ∷ t → rs' ≡ lines_past p rs → c ≡ (a && b) → b ≡ fits_range R p (value_here p rs)
    → (c && fit_along R t rs') ≡ (a && fit_along R ps rs)
fit_again R p t ps rs rs' a b c e f g h =
    (λ i. g i && fit_along R t (f i)) ∙ and_assoc a b (fit_along R t (lines_past p rs))
    ∙ ap (λ (x : Bool). a && x) ((λ i. h i && fit_along R t (lines_past p rs)) ∙ sym (fit_cons R p t rs) ∙ sym (ap (λ l. fit_along R l rs) e))

pub some_stop : (a : Bool) (ps : List Place) (rs : List (List ℤ)) → rs ≡ [] → a ≡ (a && is_some (values_of ps rs))
some_stop a ps rs e = sym (ap (λ (x : Bool). a && x) (ap (λ l. is_some (values_of ps l)) e ∙ none_some ps) ∙ and_true a)

pub fit_stop : (R : ℕ) (a : Bool) (ps : List Place) (rs : List (List ℤ)) → rs ≡ [] → a ≡ (a && fit_along R ps rs)
fit_stop R a ps rs e = sym (ap (λ (x : Bool). a && x) (ap (λ l. fit_along R ps l) e ∙ none_fits R ps) ∙ and_true a)

pub some_left : (a : Bool) (ps : List Place) (r : List ℤ) (rs l : List (List ℤ)) → ps ≡ [] → l ≡ r ∷ rs → false ≡ (a && is_some (values_of ps l))
some_left a ps r rs l e f = sym (ap (λ (x : Bool). a && x) (ap (λ q. is_some (values_of q l)) e ∙ some_over r rs l f) ∙ and_false a)

pub fit_done : (R : ℕ) (a : Bool) (ps : List Place) (rs : List (List ℤ)) → ps ≡ [] → a ≡ (a && fit_along R ps rs)
fit_done R a ps rs e = sym (ap (λ (x : Bool). a && x) (ap (λ l. fit_along R l rs) e ∙ fit_end R rs) ∙ and_true a)

-- ---- a line that is of no entry of some, or of one of them

not_here : (p : Place) (r : List ℤ) → not (is_place p r) ≡ true → is_place p r ≡ false
not_here p r e = not-true (is_place p r) e

module _ (r : List ℤ) (rs : List (List ℤ)) where
  abbrev pub Others : List Place → Type 0
  Others qs = every (λ p. not (is_place p r)) qs ≡ true

  some_others : (qs ps : List Place) → Others qs → is_some (values_of (qs ++ ps) (r ∷ rs)) ≡ is_some (values_of ps (r ∷ rs))
  unfolding values_of
  some_others [] ps e = refl
  some_others (q ∷ qs) ps e =
      let o = both_true (not (is_place q r)) _ e in
      rw (not_here q r o.0) (some_before (pos 0) (values_of (qs ++ ps) (r ∷ rs)) ∙ some_others qs ps o.1)

  fit_others : (R : ℕ) (qs ps : List Place) → Others qs → fit_along R (qs ++ ps) (r ∷ rs) ≡ fit_along R ps (r ∷ rs)
  unfolding fit_along
  fit_others R [] ps e = refl
  fit_others R (q ∷ qs) ps e =
      let o = both_true (not (is_place q r)) _ e in
      rw (not_here q r o.0, zero_fits R q) (fit_others R qs ps o.1)

  -- what was found so far, and what is left behind them
  pub some_skip : (a : Bool) (qs K K' : List Place) (l : List (List ℤ)) → Others qs → K ≡ qs ++ K' → l ≡ r ∷ rs → (a && is_some (values_of K' l)) ≡ (a && is_some (values_of K l))
  some_skip a qs K K' l o e f = ap (λ (x : Bool). a && x) ((λ i. is_some (values_of K' (f i))) ∙ sym ((λ i. is_some (values_of (e i) (f i))) ∙ some_others qs K' o))

  pub fit_skip : (R : ℕ) (a : Bool) (qs K K' : List Place) (l : List (List ℤ)) → Others qs → K ≡ qs ++ K' → l ≡ r ∷ rs → (a && fit_along R K' l) ≡ (a && fit_along R K l)
  fit_skip R a qs K K' l o e f = ap (λ (x : Bool). a && x) ((λ i. fit_along R K' (f i)) ∙ sym ((λ i. fit_along R (e i) (f i)) ∙ fit_others R qs K' o))

  -- the line of the present entry
  line_here : (p : Place) (l : List (List ℤ)) → is_place p r ≡ true → l ≡ r ∷ rs → (value_here p l ≡ get_or r 4 (pos 0)) × (zero_here p l ≡ is_zero (get_or r 4 (pos 0))) × (lines_past p l ≡ rs)
  line_here p l e f = (ap (value_here p) f ∙ rw e refl, ap (zero_here p) f ∙ rw e refl, ap (lines_past p) f ∙ rw e refl)

  -- past entries of which the line is not, and past its own
  pub some_line : (a z c : Bool) (qs K t : List Place) (p : Place) (l : List (List ℤ)) → Others qs → K ≡ qs ++ (p ∷ t) → l ≡ r ∷ rs → is_place p r ≡ true → c ≡ (a && not z) → z ≡ is_zero (get_or r 4 (pos 0))
      → (c && is_some (values_of t rs)) ≡ (a && is_some (values_of K l))
  some_line a z c qs K t p l o e f h g y =
      let x = line_here p l h f in
      some_again p t (p ∷ t) l rs a z c refl (sym x.2) g (y ∙ sym x.1) ∙ some_skip a qs K (p ∷ t) l o e f

  pub fit_line : (R : ℕ) (a b c : Bool) (qs K t : List Place) (p : Place) (l : List (List ℤ)) → Others qs → K ≡ qs ++ (p ∷ t) → l ≡ r ∷ rs → is_place p r ≡ true → c ≡ (a && b) → b ≡ fits_range R p (get_or r 4 (pos 0))
      → (c && fit_along R t rs) ≡ (a && fit_along R K l)
  fit_line R a b c qs K t p l o e f h g y =
      let x = line_here p l h f in
      fit_again R p t (p ∷ t) l rs a b c refl (sym x.2) g (y ∙ ap (fits_range R p) (sym x.0)) ∙ fit_skip R a qs K (p ∷ t) l o e f

-- ---- blocks

covers_cons : (b : BlockPlace) (bs : List BlockPlace) (r : List ℤ) (rs l : List (List ℤ)) → l ≡ r ∷ rs → is_some (covers_of (b ∷ bs) l) ≡ (is_block b r && is_some (covers_of bs rs))
unfolding covers_of
covers_cons b bs r rs l e = ap (λ l. is_some (covers_of (b ∷ bs) l)) e ∙ go (is_block b r)
  where
    go : (x : Bool) → is_some (cond x (before (cell_at r 3) (covers_of bs rs)) none) ≡ (x && is_some (covers_of bs rs))
    go true = some_before (cell_at r 3) (covers_of bs rs)
    go false = refl

covers_none : (b : BlockPlace) (bs : List BlockPlace) (l : List (List ℤ)) → l ≡ [] → is_some (covers_of (b ∷ bs) l) ≡ false
unfolding covers_of
covers_none b bs l e = ap (λ l. is_some (covers_of (b ∷ bs) l)) e

covers_end : (l : List (List ℤ)) → l ≡ [] → is_some (covers_of [] l) ≡ true
unfolding covers_of
covers_end l e = ap (λ l. is_some (covers_of [] l)) e

covers_over : (r : List ℤ) (rs l : List (List ℤ)) → l ≡ r ∷ rs → is_some (covers_of [] l) ≡ false
unfolding covers_of
covers_over r rs l e = ap (λ l. is_some (covers_of [] l)) e

-- a pass along the blocks: what was found so far, and what is left
pub covers_again : (b : BlockPlace) (bs ps : List BlockPlace) (r : List ℤ) (rs l : List (List ℤ)) (a x c : Bool) → ps ≡ b ∷ bs → l ≡ r ∷ rs → c ≡ (a && x) → x ≡ is_block b r
    → (c && is_some (covers_of bs rs)) ≡ (a && is_some (covers_of ps l))
covers_again b bs ps r rs l a x c e f g h =
    (λ i. g i && is_some (covers_of bs rs)) ∙ and_assoc a x (is_some (covers_of bs rs))
    ∙ ap (λ (y : Bool). a && y) ((λ i. h i && is_some (covers_of bs rs)) ∙ sym (covers_cons b bs r rs l f) ∙ sym (ap (λ q. is_some (covers_of q l)) e))

pub covers_short : (a : Bool) (b : BlockPlace) (bs ps : List BlockPlace) (l : List (List ℤ)) → ps ≡ b ∷ bs → l ≡ [] → false ≡ (a && is_some (covers_of ps l))
covers_short a b bs ps l e f = sym (ap (λ (x : Bool). a && x) (ap (λ q. is_some (covers_of q l)) e ∙ covers_none b bs l f) ∙ and_false a)

pub covers_done : (a : Bool) (ps : List BlockPlace) (l : List (List ℤ)) → ps ≡ [] → l ≡ [] → a ≡ (a && is_some (covers_of ps l))
covers_done a ps l e f = sym (ap (λ (x : Bool). a && x) (ap (λ q. is_some (covers_of q l)) e ∙ covers_end l f) ∙ and_true a)

pub covers_left : (a : Bool) (ps : List BlockPlace) (r : List ℤ) (rs l : List (List ℤ)) → ps ≡ [] → l ≡ r ∷ rs → false ≡ (a && is_some (covers_of ps l))
covers_left a ps r rs l e f = sym (ap (λ (x : Bool). a && x) (ap (λ q. is_some (covers_of q l)) e ∙ covers_over r rs l f) ∙ and_false a)

pub numbers_again : (r : List ℤ) (rs l : List (List ℤ)) (n : ℕ) (a x c : Bool) → l ≡ r ∷ rs → n ≡ cell_at r 3 → c ≡ (a && x) → x ≡ is_number n
    → (c && every is_number (covers_along rs)) ≡ (a && every is_number (covers_along l))
numbers_again r rs l n a x c e f g h =
    (λ i. g i && every is_number (covers_along rs)) ∙ and_assoc a x (every is_number (covers_along rs))
    ∙ ap (λ (y : Bool). a && y) ((λ i. (h ∙ ap is_number f) i && every is_number (covers_along rs)) ∙ sym (ap (λ q. every is_number (covers_along q)) e))

pub numbers_done : (a : Bool) (l : List (List ℤ)) → l ≡ [] → a ≡ (a && every is_number (covers_along l))
numbers_done a l e = sym (ap (λ q. a && every is_number (covers_along q)) e ∙ and_true a)

-- lines that are the blocks have their coverings, as many as there are blocks
pub covers_said : (bs : List BlockPlace) (rs : List (List ℤ)) → is_some (covers_of bs rs) ≡ true → (list_in (covers_of bs rs) ≡ covers_along rs) × (length rs ≡ length bs)
unfolding covers_of
covers_said [] [] e = (refl, refl)
covers_said [] (r ∷ rs) e = absurd (let z : ◌≡◌ {A = ℕ} 0 1 = cc in omega arith)
covers_said (b ∷ bs) [] e = absurd (let z : ◌≡◌ {A = ℕ} 0 1 = cc in omega arith)
covers_said (b ∷ bs) (r ∷ rs) e = go (is_block b r) (covers_of bs rs) refl e (covers_said bs rs)
  where
    go : (x : Bool) (o : Option (List ℕ)) → covers_of bs rs ≡ o → is_some (cond x (before (cell_at r 3) (covers_of bs rs)) none) ≡ true
        → (is_some (covers_of bs rs) ≡ true → (list_in (covers_of bs rs) ≡ covers_along rs) × (length rs ≡ length bs))
        → (list_in (cond x (before (cell_at r 3) (covers_of bs rs)) none) ≡ cell_at r 3 ∷ covers_along rs) × (suc (length rs) ≡ suc (length bs))
    go false o q e ih = absurd (let z : ◌≡◌ {A = ℕ} 0 1 = cc in omega arith)
    go true none q e ih = absurd (let z : false ≡ true = sym (ap (λ o. is_some (before (cell_at r 3) o)) q) ∙ e in let y : ◌≡◌ {A = ℕ} 0 1 = cc in omega arith)
    go true (some l) q e ih =
        let i = ih (ap is_some q) in
        (ap (λ o. list_in (before (cell_at r 3) o)) q ∙ ap (λ x. cell_at r 3 ∷ x) (sym (ap list_in q) ∙ i.0), ap suc i.1)
