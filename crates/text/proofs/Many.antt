-- As many lines as there are, one by one. Assumes nothing.
use mathlib.Core.Path.{◌≡◌, refl, sym, ap, ◌∙◌, subst}
use Rattle.std.specs.Prelude.{Option, Some, None, MatchOption}
use mathlib.Core.List.{List, [], ◌∷◌}
use Prim.Native.Nat.{ℕ, zero, suc, ◌-◌, ◌<◌, ◌≤◌}
use native.Mathlib.Omega.{arith}
use lib.IntN.{ℤ, pos, nat_abs}
use lib.ListN.{get_or, length, length-append, drop}
use Rattle.text.specs.Text.{Parsed, bad, got, and_then, row, many, rows, any, row_text, rows_text, skip, Column, limit, FitsRow, FitsValue}
use Rattle.text.specs.At.{skip_of, skip_at}
use Rattle.text.specs.declared.lines.Three.{Three}
use Rattle.text.proofs.Exact.{skip_sound}
use Rattle.text.proofs.Read.{bad_got}
use Rattle.text.specs.Lines.{three, four, five, three_of, three_at, four_of, four_at, five_of, five_at, past_of, cell_at, lines_of, lines_at, RowRead}
use Rattle.text.specs.declared.lines.Four.{Four}
use Rattle.text.specs.declared.lines.Five.{Five}
use Rattle.text.proofs.Rows.{rows_sound, row_sound, row_length, row_stops, stops_nil, step, many_suc}
use Rattle.text.proofs.Cursor.{rest, place}

-- a line is not empty
pub row_shorter : (ks : List Column) (t : List ℕ) (v : List ℤ) (r : List ℕ) → 0 < length ks → row ks t ≡ got v r → length r < length t
row_shorter ks t v r p e =
    let h = row_sound ks t v r e in
    omega (arith, row_length ks v p h.fits, ap length h.text, length-append (row_text v) r)

-- enough is enough
many_fuel : (n m : ℕ) (ks : List Column) (t : List ℕ) → 0 < length ks → length t ≤ n → length t ≤ m → many n ks t ≡ many m ks t
unfolding many step
many_fuel zero zero ks t p h l = refl
many_fuel zero (suc m) ks [] p h l = sym (many_suc m ks [] ∙ rw (row_stops ks [] p stops_nil))
many_fuel zero (suc m) ks (b ∷ bs) p h l = absurd (omega arith)
many_fuel (suc n) zero ks [] p h l = many_suc n ks [] ∙ rw (row_stops ks [] p stops_nil)
many_fuel (suc n) zero ks (b ∷ bs) p h l = absurd (omega arith)
many_fuel (suc n) (suc m) ks t p h l = many_suc n ks t ∙ go (row ks t) refl (λ r a b. many_fuel n m ks r p a b) ∙ sym (many_suc m ks t)
  where
    go : (o : Parsed (List ℤ)) → row ks t ≡ o → ((r : List ℕ) → length r ≤ n → length r ≤ m → many n ks r ≡ many m ks r) → step t o (many n ks) ≡ step t o (many m ks)
    go bad e ih = refl
    go (got v r) e ih =
        let s = row_shorter ks t v r p e in
        let i = ih r (omega arith) (omega arith) in
        ap (λ x. and_then x (λ vs r'. got (v ∷ vs) r')) i

pub rows_none : (ks : List Column) (t : List ℕ) → row ks t ≡ bad → rows any ks t ≡ got [] t
unfolding rows many step
rows_none ks [] e = refl
rows_none ks (b ∷ bs) e = many_suc (length bs) ks (b ∷ bs) ∙ rw e

pub rows_one : (ks : List Column) (t : List ℕ) (v : List ℤ) (r : List ℕ) → 0 < length ks → row ks t ≡ got v r →
    rows any ks t ≡ and_then (rows any ks r) (λ vs r'. got (v ∷ vs) r')
unfolding rows step
rows_one ks [] v r p e = absurd (omega (arith, row_shorter ks [] v r p e))
rows_one ks (b ∷ bs) v r p e =
    let s = row_shorter ks (b ∷ bs) v r p e in
    let f : many (length bs) ks r ≡ many (length r) ks r = many_fuel (length bs) (length r) ks r p (omega arith) (omega arith) in
    many_suc (length bs) ks (b ∷ bs) ∙ rw e (ap (λ x. and_then x (λ vs r'. got (v ∷ vs) r')) f)

past_cons : (n : ℕ) (v : List ℤ) (p : Parsed (List (List ℤ))) → past_of n (and_then p (λ vs r. got (v ∷ vs) r)) ≡ past_of n p
past_cons n v bad = refl
past_cons n v (got vs r) = refl

-- the place past the lines does not change when one is read
pub past_next : (ks : List Column) (s : List ℕ) (p q : ℕ) (v : List ℤ) → 0 < length ks → row ks (drop p s) ≡ got v (drop q s) →
    past_of (length s) (rows any ks (drop p s)) ≡ past_of (length s) (rows any ks (drop q s))
past_next ks s p q v h e = ap (past_of (length s)) (rows_one ks (drop p s) v (drop q s) h e) ∙ past_cons (length s) v (rows any ks (drop q s))

-- ---- the answers of `read_four` and `read_five`, as what was read

row_read : (ks : List Column) (s : List ℕ) (at next : ℕ) (v : List ℤ) (r : List ℕ) → 0 < length ks → row ks (drop at s) ≡ got v r → next ≡ length s - length r → RowRead ks s at next
row_read ks s at next v r p e n =
    let h = row_sound ks (drop at s) v r e in
    let f : drop next s ≡ r = ap (λ x. drop x s) n ∙ rest s at (row_text v) r h.text in
    record {
      cells = v;
      read = e ∙ ap (got v) (sym f);
      within = omega (arith, n);
      less = subst (λ x. length x < length (drop at s)) (sym f) (row_shorter ks (drop at s) v r p e);
    }

four_got : (s : List ℕ) (at : ℕ) (o : Parsed (List ℤ)) (f : Four) → row four (drop at s) ≡ o → four_of (length s) o ≡ Some f → RowRead four s at f.next
four_got s at bad f h e = absurd (let z : ◌≡◌ {A = ℕ} 0 1 = cc in omega arith)
four_got s at (got v r) f h e = row_read four s at f.next v r (omega arith) h (sym (ap (λ x. x.next) (the e)))
  where
    the : {x y : Four} → Some x ≡ Some y → x ≡ y
    the q = cc

pub four_at_law : (s : List ℕ) (at : ℕ) (f : Four) → four_at s at ≡ Some f → RowRead four s at f.next
four_at_law s at f e = four_got s at (row four (drop at s)) f refl e

four_no : (n : ℕ) (o : Parsed (List ℤ)) → four_of n o ≡ None → o ≡ bad
four_no n bad e = refl
four_no n (got v r) e = absurd (let z : ◌≡◌ {A = ℕ} 0 1 = cc in omega arith)

pub four_none : (s : List ℕ) (at : ℕ) → four_at s at ≡ None → row four (drop at s) ≡ bad
four_none s at e = four_no (length s) (row four (drop at s)) e

pub four_read : (s : List ℕ) (at : ℕ) → MatchOption (four_at s at) (row four (drop at s) ≡ bad) (λ f. RowRead four s at f.next)
four_read s at = go (four_at s at) refl
  where
    go : (o : Option Four) → four_at s at ≡ o → MatchOption o (row four (drop at s) ≡ bad) (λ f. RowRead four s at f.next)
    go None e = four_none s at e
    go (Some f) e = four_at_law s at f e

five_got : (s : List ℕ) (at : ℕ) (o : Parsed (List ℤ)) (f : Five) → row five (drop at s) ≡ o → five_of (length s) o ≡ Some f → RowRead five s at f.next
five_got s at bad f h e = absurd (let z : ◌≡◌ {A = ℕ} 0 1 = cc in omega arith)
five_got s at (got v r) f h e = row_read five s at f.next v r (omega arith) h (sym (ap (λ x. x.next) (the e)))
  where
    the : {x y : Five} → Some x ≡ Some y → x ≡ y
    the q = cc

pub five_at_law : (s : List ℕ) (at : ℕ) (f : Five) → five_at s at ≡ Some f → RowRead five s at f.next
five_at_law s at f e = five_got s at (row five (drop at s)) f refl e

five_no : (n : ℕ) (o : Parsed (List ℤ)) → five_of n o ≡ None → o ≡ bad
five_no n bad e = refl
five_no n (got v r) e = absurd (let z : ◌≡◌ {A = ℕ} 0 1 = cc in omega arith)

pub five_none : (s : List ℕ) (at : ℕ) → five_at s at ≡ None → row five (drop at s) ≡ bad
five_none s at e = five_no (length s) (row five (drop at s)) e

pub five_read : (s : List ℕ) (at : ℕ) → MatchOption (five_at s at) (row five (drop at s) ≡ bad) (λ f. RowRead five s at f.next)
five_read s at = go (five_at s at) refl
  where
    go : (o : Option Five) → five_at s at ≡ o → MatchOption o (row five (drop at s) ≡ bad) (λ f. RowRead five s at f.next)
    go None e = five_none s at e
    go (Some f) e = five_at_law s at f e

-- where no line is, the lines end
pub past_stop : (ks : List Column) (s : List ℕ) (p : ℕ) → p ≤ length s → row ks (drop p s) ≡ bad → p ≡ past_of (length s) (rows any ks (drop p s))
past_stop ks s p h e = sym (ap (past_of (length s)) (rows_none ks (drop p s) e) ∙ place s p h)

-- ---- names, a line of three, and lines, at a place

pub record SkipRead (ns s : List ℕ) (at next : ℕ) : Type 0 where
  pub read : skip ns (drop at s) ≡ got tt (drop next s)
  pub within : next ≤ length s

skip_got : (ns s : List ℕ) (at next : ℕ) (o : Parsed Unit) → skip ns (drop at s) ≡ o → skip_of (length s) o ≡ Some next → SkipRead ns s at next
skip_got ns s at next bad h e = absurd (let z : ◌≡◌ {A = ℕ} 0 1 = cc in omega arith)
skip_got ns s at next (got u r) h e =
    let n : length s - length r ≡ next = cc in
    record { read = h ∙ ap (got tt) (sym (rest s at ns r (skip_sound ns (drop at s) u r h)) ∙ ap (λ x. drop x s) n); within = omega (arith, n) }

pub skip_at_law : (ns s : List ℕ) (at next : ℕ) → skip_at s at ns ≡ Some next → SkipRead ns s at next
skip_at_law ns s at next e = skip_got ns s at next (skip ns (drop at s)) refl e

skip_no : (n : ℕ) (o : Parsed Unit) → skip_of n o ≡ None → o ≡ bad
skip_no n bad e = refl
skip_no n (got u r) e = absurd (let z : ◌≡◌ {A = ℕ} 0 1 = cc in omega arith)

pub skip_none : (ns s : List ℕ) (at : ℕ) → skip_at s at ns ≡ None → skip ns (drop at s) ≡ bad
skip_none ns s at e = skip_no (length s) (skip ns (drop at s)) e

three_got : (s : List ℕ) (at : ℕ) (o : Parsed (List ℤ)) (f : Three) → row three (drop at s) ≡ o → three_of (length s) o ≡ Some f → RowRead three s at f.next
three_got s at bad f h e = absurd (let z : ◌≡◌ {A = ℕ} 0 1 = cc in omega arith)
three_got s at (got v r) f h e = row_read three s at f.next v r (omega arith) h (sym (ap (λ x. x.next) (the e)))
  where
    the : {x y : Three} → Some x ≡ Some y → x ≡ y
    the q = cc

pub three_at_law : (s : List ℕ) (at : ℕ) (f : Three) → three_at s at ≡ Some f → RowRead three s at f.next
three_at_law s at f e = three_got s at (row three (drop at s)) f refl e

three_no : (n : ℕ) (o : Parsed (List ℤ)) → three_of n o ≡ None → o ≡ bad
three_no n bad e = refl
three_no n (got v r) e = absurd (let z : ◌≡◌ {A = ℕ} 0 1 = cc in omega arith)

pub three_none : (s : List ℕ) (at : ℕ) → three_at s at ≡ None → row three (drop at s) ≡ bad
three_none s at e = three_no (length s) (row three (drop at s)) e

-- lines that there may be any number of are never bad
many_good : (n : ℕ) (ks : List Column) (t : List ℕ) → many n ks t ≡ bad → ⊥
unfolding many step
many_good zero ks t e = bad_got (sym e)
many_good (suc n) ks t e = go (row ks t) (sym (many_suc n ks t) ∙ e) (many_good n ks)
  where
    go : (o : Parsed (List ℤ)) → step t o (many n ks) ≡ bad → ((r : List ℕ) → many n ks r ≡ bad → ⊥) → ⊥
    go bad f ih = bad_got (sym f)
    go (got v r) f ih = go' (many n ks r) refl f
      where
        go' : (p : Parsed (List (List ℤ))) → many n ks r ≡ p → and_then p (λ vs r'. got (v ∷ vs) r') ≡ bad → ⊥
        go' bad g f' = ih r g
        go' (got vs r') g f' = bad_got (sym f')

pub record RowsRead (ks : List Column) (s : List ℕ) (at next : ℕ) : Type 0 where
  pub lines : List (List ℤ)
  pub read : rows any ks (drop at s) ≡ got lines (drop next s)
  pub within : next ≤ length s

pub rows_at : (ks : List Column) (s : List ℕ) (at next : ℕ) → next ≡ past_of (length s) (rows any ks (drop at s)) → RowsRead ks s at next
unfolding rows
rows_at ks s at next e = go (rows any ks (drop at s)) refl e
  where
    go : (o : Parsed (List (List ℤ))) → rows any ks (drop at s) ≡ o → next ≡ past_of (length s) o → RowsRead ks s at next
    go bad h f = absurd (many_good (length (drop at s)) ks (drop at s) h)
    go (got rs r) h f =
        let x = (rows_sound any ks (drop at s) rs r h).1 in
        record { lines = rs; read = h ∙ ap (got rs) (sym (rest s at (rows_text rs) r x.text) ∙ ap (λ y. drop y s) (sym f)); within = omega (arith, f) }

-- ---- the lines at a place, one by one

lines_cons : (v : List ℤ) (p : Parsed (List (List ℤ))) → (p ≡ bad → ⊥) → lines_of (and_then p (λ vs r. got (v ∷ vs) r)) ≡ v ∷ lines_of p
lines_cons v bad h = absurd (h refl)
lines_cons v (got vs r) h = refl

pub lines_next : (ks : List Column) (s : List ℕ) (at next : ℕ) (v : List ℤ) → 0 < length ks → row ks (drop at s) ≡ got v (drop next s) → lines_at ks s at ≡ v ∷ lines_at ks s next
unfolding lines_at rows
lines_next ks s at next v p e = ap lines_of (rows_one ks (drop at s) v (drop next s) p e) ∙ lines_cons v (rows any ks (drop next s)) (many_good (length (drop next s)) ks (drop next s))

pub lines_stop : (ks : List Column) (s : List ℕ) (at : ℕ) → row ks (drop at s) ≡ bad → lines_at ks s at ≡ []
unfolding lines_at
lines_stop ks s at e = ap lines_of (rows_none ks (drop at s) e)

-- an answer of `read_four` and of `read_five`: the first of the lines, with its values
row_is : (ks : List Column) (s : List ℕ) (at next : ℕ) (v : List ℤ) (r : List ℕ) → row ks (drop at s) ≡ got v r → next ≡ length s - length r → row ks (drop at s) ≡ got v (drop next s)
row_is ks s at next v r e n = e ∙ ap (got v) (sym (ap (λ x. drop x s) n ∙ rest s at (row_text v) r (row_sound ks (drop at s) v r e).text))

pub record FourLine (s : List ℕ) (at : ℕ) (f : Four) : Type 0 where
  pub cells : List ℤ
  pub lines : lines_at four s at ≡ cells ∷ lines_at four s f.next
  pub first : f.first ≡ cell_at cells 0
  pub second : f.second ≡ cell_at cells 1
  pub third : f.third ≡ cell_at cells 2
  pub fourth : f.fourth ≡ cell_at cells 3

pub four_line : (s : List ℕ) (at : ℕ) (f : Four) → four_at s at ≡ Some f → FourLine s at f
four_line s at f e = go (row four (drop at s)) refl e
  where
    the : {x y : Four} → Some x ≡ Some y → x ≡ y
    the q = cc

    go : (o : Parsed (List ℤ)) → row four (drop at s) ≡ o → four_of (length s) o ≡ Some f → FourLine s at f
    go bad h g = absurd (let z : ◌≡◌ {A = ℕ} 0 1 = cc in omega arith)
    go (got v r) h g =
        let i = the g in
        record {
          cells = v;
          lines = lines_next four s at f.next v (omega arith) (row_is four s at f.next v r h (sym (ap (λ x. x.next) i)));
          first = sym (ap (λ x. x.first) i);
          second = sym (ap (λ x. x.second) i);
          third = sym (ap (λ x. x.third) i);
          fourth = sym (ap (λ x. x.fourth) i);
        }

five_small : (v : List ℤ) → FitsRow five v → nat_abs (get_or v 4 (pos 0)) ≤ limit
unfolding FitsRow FitsValue
five_small [] h = absurd h
five_small (a ∷ []) h = absurd h.1
five_small (a ∷ b ∷ []) h = absurd h.1.1
five_small (a ∷ b ∷ c ∷ []) h = absurd h.1.1.1
five_small (a ∷ b ∷ c ∷ d ∷ []) h = absurd h.1.1.1.1
five_small (a ∷ b ∷ c ∷ d ∷ e ∷ l) h = h.1.1.1.1.0

pub record FiveLine (s : List ℕ) (at : ℕ) (f : Five) : Type 0 where
  pub cells : List ℤ
  pub lines : lines_at five s at ≡ cells ∷ lines_at five s f.next
  pub first : f.first ≡ cell_at cells 0
  pub second : f.second ≡ cell_at cells 1
  pub third : f.third ≡ cell_at cells 2
  pub fourth : f.fourth ≡ cell_at cells 3
  pub value : f.value ≡ get_or cells 4 (pos 0)
  pub small : nat_abs (get_or cells 4 (pos 0)) ≤ limit

pub five_line : (s : List ℕ) (at : ℕ) (f : Five) → five_at s at ≡ Some f → FiveLine s at f
five_line s at f e = go (row five (drop at s)) refl e
  where
    the : {x y : Five} → Some x ≡ Some y → x ≡ y
    the q = cc

    go : (o : Parsed (List ℤ)) → row five (drop at s) ≡ o → five_of (length s) o ≡ Some f → FiveLine s at f
    go bad h g = absurd (let z : ◌≡◌ {A = ℕ} 0 1 = cc in omega arith)
    go (got v r) h g =
        let i = the g in
        record {
          cells = v;
          lines = lines_next five s at f.next v (omega arith) (row_is five s at f.next v r h (sym (ap (λ x. x.next) i)));
          first = sym (ap (λ x. x.first) i);
          second = sym (ap (λ x. x.second) i);
          third = sym (ap (λ x. x.third) i);
          fourth = sym (ap (λ x. x.fourth) i);
          value = sym (ap (λ x. x.value) i);
          small = five_small v (row_sound five (drop at s) v r h).fits;
        }

pub record ThreeLine (s : List ℕ) (at : ℕ) (f : Three) : Type 0 where
  pub cells : List ℤ
  pub read : row three (drop at s) ≡ got cells (drop f.next s)
  pub first : f.first ≡ cell_at cells 0
  pub second : f.second ≡ cell_at cells 1
  pub third : f.third ≡ cell_at cells 2

pub three_line : (s : List ℕ) (at : ℕ) (f : Three) → three_at s at ≡ Some f → ThreeLine s at f
three_line s at f e = go (row three (drop at s)) refl e
  where
    the : {x y : Three} → Some x ≡ Some y → x ≡ y
    the q = cc

    go : (o : Parsed (List ℤ)) → row three (drop at s) ≡ o → three_of (length s) o ≡ Some f → ThreeLine s at f
    go bad h g = absurd (let z : ◌≡◌ {A = ℕ} 0 1 = cc in omega arith)
    go (got v r) h g =
        let i = the g in
        record {
          cells = v;
          read = row_is three s at f.next v r h (sym (ap (λ x. x.next) i));
          first = sym (ap (λ x. x.first) i);
          second = sym (ap (λ x. x.second) i);
          third = sym (ap (λ x. x.third) i);
        }

pub lines_read : (ks : List Column) (s : List ℕ) (at next : ℕ) (r : RowsRead ks s at next) → lines_at ks s at ≡ r.lines
unfolding lines_at
lines_read ks s at next r = ap lines_of r.read
