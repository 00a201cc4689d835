-- The lines of a sheet: what is written of coverings and of a plane along its places is read back, and what is read is what is written. Assumes nothing.
use mathlib.Core.Path.{◌≡◌, refl, sym, ap, ◌∙◌, subst}
use mathlib.Core.Bool.{Bool, true, false, cond, ◌&&◌}
use mathlib.Core.List.{List, [], ◌∷◌, ◌++◌, map}
use mathlib.Core.Option.{Option, none, some}
use Prim.Native.Nat.{ℕ, zero, suc, ◌+◌, ◌<◌, ◌≤◌}
use native.Mathlib.Omega.{arith}
use borrow.Author.Tests.{eq-eqb, eqb-true}
use lib.Dec.{eqb}
use lib.IntN.{ℤ, pos, negsuc, nat_abs}
use lib.ListN.{length, get_or}
use Rattle.integers.proofs.Tests.{both_true}
use Rattle.text.specs.Text.{plain, FitsValue, FitsRow, FitsRows}
use Rattle.text.specs.Lines.{three, four, five, cell_at}
use Rattle.pyramid.specs.Plane.{Image}
use Rattle.pyramid.specs.Places.{Place, BlockPlace, at}
use Rattle.integers.specs.Zero.{is_zero}
use Rattle.integers.proofs.Zero.{zero_is}
use Rattle.sheet_text.specs.Rows.{block_row, entry_row, with_row, block_rows, entry_rows, is_block, is_place, before, covers_of, values_of}
use Rattle.sheet_text.proofs.Each.{Each, Pairs}

pub same : (n : ℕ) → eqb n n ≡ true
same n = eq-eqb n n refl

no_value : {A : Type 0} {a : A} → ◌≡◌ {A = Option A} none (some a) → ⊥
no_value e = let z : ◌≡◌ {A = ℕ} 0 1 = cc in omega arith

the_value : {A : Type 0} {a b : A} → ◌≡◌ {A = Option A} (some a) (some b) → a ≡ b
the_value e = cc

-- where the other way out is nothing
cond_some : {A : Type 0} (x : Bool) (p : Option A) (a : A) → cond x p none ≡ some a → (x ≡ true) × (p ≡ some a)
cond_some true p a e = (refl, e)
cond_some false p a e = absurd (no_value e)

before_some : {A : Type 0} (a : A) (o : Option (List A)) (l : List A) → before a o ≡ some l → (l' : List A) × (o ≡ some l') × (l ≡ a ∷ l')
before_some a none l e = absurd (no_value e)
before_some a (some l') l e = (l', refl, sym (the_value e))

-- ---- lines that fit

plain_is : (v : ℤ) → FitsValue plain v → v ≡ pos (nat_abs v)
unfolding FitsValue
plain_is (pos n) h = refl
plain_is (negsuc n) h = absurd h

pub three_is : (r : List ℤ) → FitsRow three r → r ≡ pos (cell_at r 0) ∷ pos (cell_at r 1) ∷ pos (cell_at r 2) ∷ []
unfolding FitsRow
three_is [] h = absurd h
three_is (a ∷ []) h = absurd h.1
three_is (a ∷ b ∷ []) h = absurd h.1.1
three_is (a ∷ b ∷ c ∷ []) h = let pa = plain_is a h.0 in let pb = plain_is b h.1.0 in let pc = plain_is c h.1.1.0 in cc
three_is (a ∷ b ∷ c ∷ d ∷ l) h = absurd h.1.1.1

four_is : (r : List ℤ) → FitsRow four r → r ≡ pos (cell_at r 0) ∷ pos (cell_at r 1) ∷ pos (cell_at r 2) ∷ pos (cell_at r 3) ∷ []
unfolding FitsRow
four_is [] h = absurd h
four_is (a ∷ []) h = absurd h.1
four_is (a ∷ b ∷ []) h = absurd h.1.1
four_is (a ∷ b ∷ c ∷ []) h = absurd h.1.1.1
four_is (a ∷ b ∷ c ∷ d ∷ []) h =
    let pa = plain_is a h.0 in let pb = plain_is b h.1.0 in let pc = plain_is c h.1.1.0 in let pd = plain_is d h.1.1.1.0 in cc
four_is (a ∷ b ∷ c ∷ d ∷ e ∷ l) h = absurd h.1.1.1.1

five_is : (r : List ℤ) → FitsRow five r → r ≡ pos (cell_at r 0) ∷ pos (cell_at r 1) ∷ pos (cell_at r 2) ∷ pos (cell_at r 3) ∷ get_or r 4 (pos 0) ∷ []
unfolding FitsRow
five_is [] h = absurd h
five_is (a ∷ []) h = absurd h.1
five_is (a ∷ b ∷ []) h = absurd h.1.1
five_is (a ∷ b ∷ c ∷ []) h = absurd h.1.1.1
five_is (a ∷ b ∷ c ∷ d ∷ []) h = absurd h.1.1.1.1
five_is (a ∷ b ∷ c ∷ d ∷ e ∷ []) h =
    let pa = plain_is a h.0 in let pb = plain_is b h.1.0 in let pc = plain_is c h.1.1.0 in let pd = plain_is d h.1.1.1.0 in cc
five_is (a ∷ b ∷ c ∷ d ∷ e ∷ f ∷ l) h = absurd h.1.1.1.1.1

-- ---- coverings

pub covers_back : (bs : List BlockPlace) (cs : List ℕ) → length cs ≡ length bs → covers_of bs (block_rows bs cs) ≡ some cs
unfolding covers_of block_rows
covers_back [] [] e = refl
covers_back [] (c ∷ cs) e = absurd (omega arith)
covers_back (b ∷ bs) [] e = absurd (omega arith)
covers_back (b ∷ bs) (c ∷ cs) e = simp (same, covers_back bs cs (omega arith))

block_is : (b : BlockPlace) (r : List ℤ) → FitsRow four r → is_block b r ≡ true → block_row b (cell_at r 3) ≡ r
block_is b r h e =
    let p = both_true (eqb (cell_at r 0) b.level) (eqb (cell_at r 1) b.row && eqb (cell_at r 2) b.col) e in
    let q = both_true (eqb (cell_at r 1) b.row) (eqb (cell_at r 2) b.col) p.1 in
    let h₀ = eqb-true (cell_at r 0) b.level p.0 in
    let h₁ = eqb-true (cell_at r 1) b.row q.0 in
    let h₂ = eqb-true (cell_at r 2) b.col q.1 in
    rw (← h₀, ← h₁, ← h₂) (sym (four_is r h))

pub record Rows (bs : List BlockPlace) (cs : List ℕ) (rs : List (List ℤ)) : Type 0 where
  pub lines : block_rows bs cs ≡ rs
  pub length : length cs ≡ length bs

pub covers_rows : (bs : List BlockPlace) (rs : List (List ℤ)) (cs : List ℕ) → FitsRows four rs → covers_of bs rs ≡ some cs → Rows bs cs rs
unfolding covers_of block_rows FitsRows
covers_rows [] [] cs h e = subst (λ x. Rows [] x []) (the_value e) (record { lines = refl; length = refl })
covers_rows [] (r ∷ rs) cs h e = absurd (no_value e)
covers_rows (b ∷ bs) [] cs h e = absurd (no_value e)
covers_rows (b ∷ bs) (r ∷ rs) cs h e =
    let p = cond_some (is_block b r) (before (cell_at r 3) (covers_of bs rs)) cs e in
    let q = before_some (cell_at r 3) (covers_of bs rs) cs p.1 in
    let i = covers_rows bs rs q.0 h.1 q.1 in
    subst (λ x. Rows (b ∷ bs) x (r ∷ rs)) (sym q.2)
    (record { lines = ap (λ x. x ∷ block_rows bs q.0) (block_is b r h.0 p.0) ∙ ap (λ x. r ∷ x) i.lines; length = ap suc i.length })

-- ---- values along places

-- q has not the level, band, row and column of p
abbrev pub OtherKey : Place → Place → Type 0
OtherKey p q = is_place p (entry_row q (pos 0)) ≡ false

NotFirst : Place → List (List ℤ) → Type 0
NotFirst p [] = Unit
NotFirst p (r ∷ rs) = is_place p r ≡ false

not_first : (p : Place) (P : Image) (ps : List Place) → Each (OtherKey p) ps → NotFirst p (entry_rows P ps)
unfolding Each NotFirst entry_rows
not_first p P [] h = tt
not_first p P (q ∷ qs) h = go (is_zero (at P q)) (not_first p P qs h.1)
  where
    go : (x : Bool) → NotFirst p (entry_rows P qs) → NotFirst p (cond x (entry_rows P qs) (entry_row q (at P q) ∷ entry_rows P qs))
    go true i = i
    go false i = h.0

values_skip : (p : Place) (ps : List Place) (rs : List (List ℤ)) → NotFirst p rs → values_of (p ∷ ps) rs ≡ before (pos 0) (values_of ps rs)
unfolding NotFirst values_of
values_skip p ps [] h = refl
values_skip p ps (r ∷ rs) h = rw h

pub values_back : (P : Image) (ps : List Place) → Pairs OtherKey ps → values_of ps (entry_rows P ps) ≡ some (map (at P) ps)
unfolding values_of entry_rows Pairs
values_back P [] d = refl
values_back P (p ∷ ps) d = go (is_zero (at P p)) refl (values_back P ps d.1)
  where
    go : (x : Bool) → is_zero (at P p) ≡ x → values_of ps (entry_rows P ps) ≡ some (map (at P) ps) → values_of (p ∷ ps) (cond x (entry_rows P ps) (entry_row p (at P p) ∷ entry_rows P ps)) ≡ some (at P p ∷ map (at P) ps)
    go true z i = values_skip p ps (entry_rows P ps) (not_first p P ps d.0) ∙ rw i (rw (zero_is (at P p) z))
    go false z i = simp (same, z, i)

place_is : (p : Place) (r : List ℤ) → FitsRow five r → is_place p r ≡ true → entry_row p (get_or r 4 (pos 0)) ≡ r
place_is p r h e =
    let a = both_true (eqb (cell_at r 0) p.level) (eqb (cell_at r 1) p.band && (eqb (cell_at r 2) p.row && eqb (cell_at r 3) p.col)) e in
    let b = both_true (eqb (cell_at r 1) p.band) (eqb (cell_at r 2) p.row && eqb (cell_at r 3) p.col) a.1 in
    let c = both_true (eqb (cell_at r 2) p.row) (eqb (cell_at r 3) p.col) b.1 in
    let h₀ = eqb-true (cell_at r 0) p.level a.0 in
    let h₁ = eqb-true (cell_at r 1) p.band b.0 in
    let h₂ = eqb-true (cell_at r 2) p.row c.0 in
    let h₃ = eqb-true (cell_at r 3) p.col c.1 in
    rw (← h₀, ← h₁, ← h₂, ← h₃) (sym (five_is r h))

-- the lines of values along places
unfoldable pub value_rows : List Place → List ℤ → List (List ℤ)
value_rows [] vs = []
value_rows (p ∷ ps) [] = []
value_rows (p ∷ ps) (v ∷ vs) = with_row p v (value_rows ps vs)

pub rows_values : (P : Image) (ps : List Place) → value_rows ps (map (at P) ps) ≡ entry_rows P ps
unfolding value_rows entry_rows
rows_values P [] = refl
rows_values P (p ∷ ps) = ap (with_row p (at P p)) (rows_values P ps)

pub record Values (ps : List Place) (vs : List ℤ) (rs : List (List ℤ)) : Type 0 where
  pub lines : value_rows ps vs ≡ rs
  pub length : length vs ≡ length ps

values_zero : (p : Place) (ps : List Place) (vs : List ℤ) (rs : List (List ℤ)) → Values ps vs rs → Values (p ∷ ps) (pos 0 ∷ vs) rs
unfolding value_rows
values_zero p ps vs rs h = record { lines = h.lines; length = ap suc h.length }

values_here : (p : Place) (ps : List Place) (v : ℤ) (vs : List ℤ) (r : List ℤ) (rs : List (List ℤ)) → is_zero v ≡ false → entry_row p v ≡ r → Values ps vs rs → Values (p ∷ ps) (v ∷ vs) (r ∷ rs)
unfolding value_rows
values_here p ps v vs r rs z e h =
    record { lines = rw z (ap (λ x. x ∷ value_rows ps vs) e ∙ ap (λ x. r ∷ x) h.lines); length = ap suc h.length }

pub values_rows : (ps : List Place) (rs : List (List ℤ)) (vs : List ℤ) → FitsRows five rs → values_of ps rs ≡ some vs → Values ps vs rs
unfolding values_of value_rows FitsRows
values_rows [] [] vs h e = subst (λ x. Values [] x []) (the_value e) (record { lines = refl; length = refl })
values_rows [] (r ∷ rs) vs h e = absurd (no_value e)
values_rows (p ∷ ps) [] vs h e =
    let q = before_some (pos 0) (values_of ps []) vs e in
    subst (λ x. Values (p ∷ ps) x []) (sym q.2) (values_zero p ps q.0 [] (values_rows ps [] q.0 h q.1))
values_rows (p ∷ ps) (r ∷ rs) vs h e = go (is_place p r) refl (is_zero v) refl e (λ vs'. values_rows ps rs vs' h.1) (λ vs'. values_rows ps (r ∷ rs) vs' h)
  where
    v : ℤ
    v = get_or r 4 (pos 0)

    go : (x : Bool) → is_place p r ≡ x → (y : Bool) → is_zero v ≡ y → cond x (cond y none (before v (values_of ps rs))) (before (pos 0) (values_of ps (r ∷ rs))) ≡ some vs →
        ((vs' : List ℤ) → values_of ps rs ≡ some vs' → Values ps vs' rs) →
        ((vs' : List ℤ) → values_of ps (r ∷ rs) ≡ some vs' → Values ps vs' (r ∷ rs)) → Values (p ∷ ps) vs (r ∷ rs)
    go true f true g e' i j = absurd (no_value e')
    go true f false g e' i j =
        let q = before_some v (values_of ps rs) vs e' in
        subst (λ x. Values (p ∷ ps) x (r ∷ rs)) (sym q.2) (values_here p ps v q.0 r rs g (place_is p r h.0 f) (i q.0 q.1))
    go false f y g e' i j =
        let q = before_some (pos 0) (values_of ps (r ∷ rs)) vs e' in
        subst (λ x. Values (p ∷ ps) x (r ∷ rs)) (sym q.2) (values_zero p ps q.0 (r ∷ rs) (j q.0 q.1))
