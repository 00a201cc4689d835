-- The laws of sheets: what is written is read back, what is read is what is written, and the bytes of a sheet. Assumes nothing.
use mathlib.Core.Path.{◌≡◌, refl, sym, ap, ◌∙◌, subst}
use mathlib.Core.Bool.{Bool, true, false, cond, ◌&&◌}
use mathlib.Core.List.{List, [], ◌∷◌, ◌++◌, map, append-nil}
use mathlib.Core.Option.{Option, none, some}
use Prim.Native.Nat.{ℕ, zero, suc, ◌+◌, ◌-◌, ◌*◌, ◌^◌, ◌<◌, ◌≤◌}
use native.Mathlib.Nat.{pow-le-pow_right}
use native.Mathlib.Omega.{arith}
use borrow.Author.Tests.{eqb-true, eq-eqb, leb-true, ltb-false, le-ltb}
use lib.Dec.{leb, ltb, eqb}
use lib.IntN.{ℤ, pos, negsuc, nat_abs}
use lib.ListN.{length, get_or, replicate, length-replicate}
use Rattle.integers.specs.Lists.{every}
use Rattle.refusals.proofs.After.{past}
use Rattle.coverings.specs.Entry.{is_number}
use Rattle.text.specs.Bytes.{bytes}
use Rattle.text.specs.Text.{rows_text, render, parse, Fits, FitsCount, FitsRows, FitsRow, FitsValue, are_sections, is_section}
use Rattle.text.specs.Lines.{three, four, five, cell_at}
use Rattle.text.proofs.Stamp.{three_row}
use Rattle.text.proofs.Exact.{IsText, parse_sound, parse_text}
use Rattle.pyramid.specs.Plane.{Image, all_blocks}
use Rattle.pyramid.specs.Places.{Place, BlockPlace, plane_places, block_places, at}
use Rattle.pyramid.specs.Sides.{is_sides, is_depth, is_plane, is_coverings}
use Rattle.pyramid.specs.Slices.{image_of}
use Rattle.pyramid.specs.Ranges.{is_low, fits_range, in_range}
use Rattle.sheet_text.specs.Forms.{sheet_form}
use Rattle.places.specs.Walk.{index_in}
use Rattle.integers.specs.Zero.{is_zero}
use Rattle.sheet_text.specs.Rows.{entry_row, block_rows, entry_rows, covers_of, values_of, spread}
use Rattle.sheet_text.specs.Sheet.{sheet_rows, head_of, head_part, block_part, entry_part, sheet_text, write_refusal, is_some, list_in, rows_of, height_in, width_in, levels_in, said_coverings, said_values, coverings_in, plane_in, judge, read_refusal}
use Rattle.sheet_text.specs.Claims.{GivesBack, GivesAgain, SheetLaws}
use Rattle.sheet_text.proofs.Each.{Each}
use Rattle.integers.proofs.Tests.{both_true}
use Rattle.sheet_text.proofs.Lines.{three_is, covers_back, values_back, Rows, covers_rows, Values, values_rows, value_rows, rows_values}
use Rattle.sheet_text.proofs.Spread.{length_spread, values_spread, spread_values}
use Rattle.places.proofs.Sides.{Passed, passed, size_past}
use Rattle.sheet_text.proofs.Layouts.{SmallPlace, SmallBlock, places_small, blocks_small, blocks_count, indexes, inside, onto, keys}

-- ---- lines that are written fit

blocks_fit : (bs : List BlockPlace) (cs : List ℕ) → Each SmallBlock bs → every is_number cs ≡ true → FitsRows four (block_rows bs cs)
unfolding FitsRows FitsRow FitsValue block_rows Each
blocks_fit [] cs s e = tt
blocks_fit (b ∷ bs) [] s e = tt
blocks_fit (b ∷ bs) (c ∷ cs) s e =
    let p = both_true (is_number c) (every is_number cs) e in
    let q = leb-true c 117 (both_true (leb 1 c) (leb c 117) p.0).1 in
    let h = s.0 in
    ((omega arith, (omega arith, (omega arith, (omega arith, tt)))), blocks_fit bs cs s.1 p.1)

pow_small : (k : ℕ) → k ≤ 9 → 4 ^ k ≤ 262144
pow_small k h = pow-le-pow_right {n = 4} (omega arith) h

low_small : (R : ℕ) (v : ℤ) → R ≤ 9 → is_low R v ≡ true → nat_abs v ≤ 2147483647
low_small R (pos n) h e = omega (arith, leb-true n (4095 * 4 ^ R) e, pow_small R h)
low_small R (negsuc n) h e = absurd (let z : ◌≡◌ {A = ℕ} 0 1 = cc in omega arith)

pub range_small : (R : ℕ) (p : Place) (v : ℤ) → R ≤ 9 → p.level ≤ 9 → fits_range R p v ≡ true → nat_abs v ≤ 2147483647
range_small R p v hr hl e = go (eqb p.band 0) e
  where
    go : (x : Bool) → cond x (is_low R v) (leb (nat_abs v) (2 * 4 ^ (p.level - 1) * 4095)) ≡ true → nat_abs v ≤ 2147483647
    go true e' = low_small R v hr e'
    go false e' = omega (arith, leb-true (nat_abs v) (2 * 4 ^ (p.level - 1) * 4095) e', pow_small (p.level - 1) (omega arith))

entries_fit : (R : ℕ) (P : Image) (ps : List Place) → R ≤ 9 → Each SmallPlace ps → every (λ p. fits_range R p (at P p)) ps ≡ true → FitsRows five (entry_rows P ps)
unfolding FitsRows FitsRow FitsValue entry_rows Each
entries_fit R P [] h s e = tt
entries_fit R P (p ∷ ps) h s e =
    let q = both_true (fits_range R p (at P p)) (every (λ p. fits_range R p (at P p)) ps) e in
    go (is_zero (at P p)) (range_small R p (at P p) h s.0.level q.0) (entries_fit R P ps h s.1 q.1)
  where
    go : (x : Bool) → nat_abs (at P p) ≤ 2147483647 → FitsRows five (entry_rows P ps) → FitsRows five (cond x (entry_rows P ps) (entry_row p (at P p) ∷ entry_rows P ps))
    go true b i = i
    go false b i = let h = s.0 in ((omega arith, (omega arith, (omega arith, (omega arith, (b, tt))))), i)

-- ---- checks that pass

-- a sheet that write accepts, but for the room
pub record Valid (h w R : ℕ) (P : List ℤ) (cs : List ℕ) : Type 0 where
  pub sides : is_sides h w ≡ true
  pub levels : is_depth R h w ≡ true
  pub plane : is_plane h w P ≡ true
  pub coverings : is_coverings R h w cs ≡ true
  pub numbers : every is_number cs ≡ true
  pub range : in_range R h w (image_of h P) ≡ true

pub write_checks : (h w R : ℕ) (P : List ℤ) (cs buffer : List ℕ) → write_refusal h w R P cs buffer ≡ 0 → Valid h w R P cs
write_checks h w R P cs buffer e =
    let h₂ = size_past h w R (sym e) in
    let h₃ = past (is_plane h w P && is_coverings R h w cs) 2 h₂.1 in
    let l = both_true (is_plane h w P) (is_coverings R h w cs) h₃.0 in
    let h₅ = past (every is_number cs) 4 h₃.1 in
    let h₆ = past (in_range R h w (image_of h P)) 5 h₅.1 in
    record { sides = h₂.0.sided; levels = h₂.0.deep; plane = l.0; coverings = l.1; numbers = h₅.0; range = h₆.0 }

form_good : are_sections sheet_form ≡ true
unfolding are_sections is_section
form_good = refl

-- the places of a plane that passed
module _ (h w R : ℕ) (q : Passed h w (suc R)) where
  abbrev ps : List Place
  ps = plane_places (suc R) h w

  abbrev bs : List BlockPlace
  bs = block_places (suc R) h w

  sheet_fits : (P : List ℤ) (cs : List ℕ) → Valid h w (suc R) P cs → Fits sheet_form (sheet_rows (head_of h w (suc R)) (suc R) h w P cs)
  unfolding Fits FitsCount FitsRows FitsRow FitsValue in_range
  sheet_fits P cs v =
      let a = q.tall in
      let b = q.wide in
      let c = q.few in (
        refl,
        ((omega arith, (omega arith, (omega arith, tt))), tt),
        (
          tt,
          blocks_fit bs cs (blocks_small 0 (suc R) h w (omega arith) a b) v.numbers,
          (tt, entries_fit (suc R) (image_of h P) ps (omega arith) (places_small R h w (omega arith) a b) v.range, tt),
        ),
      )

  -- the plane comes back
  plane_back : (P : List ℤ) → is_plane h w P ≡ true → spread h ps (map (at (image_of h P)) ps) (replicate (w * h) (pos 0)) ≡ P
  plane_back P e =
      let m = eqb-true (length P) (w * h) e in
      spread_values h ps P (replicate (w * h) (pos 0)) (length-replicate (w * h) (pos 0) ∙ sym m) (λ k l. onto R h w q.fits k (omega arith))

  covers_length : (cs : List ℕ) → is_coverings (suc R) h w cs ≡ true → length cs ≡ length bs
  covers_length cs e = eqb-true (length cs) (all_blocks (suc R) h w) e ∙ sym (blocks_count 0 (suc R) h w)

  -- what the lines of a sheet say
  said_covers : (P : List ℤ) (cs : List ℕ) → Valid h w (suc R) P cs → said_coverings (sheet_rows (head_of h w (suc R)) (suc R) h w P cs) ≡ some cs
  said_covers P cs v = covers_back bs cs (covers_length cs v.coverings)

  said_values_law : (P : List ℤ) (cs : List ℕ) → said_values (sheet_rows (head_of h w (suc R)) (suc R) h w P cs) ≡ some (map (at (image_of h P)) ps)
  said_values_law P cs = values_back (image_of h P) ps (keys R h w q.fits)

  plane_is : (P : List ℤ) (cs : List ℕ) → Valid h w (suc R) P cs → plane_in (sheet_rows (head_of h w (suc R)) (suc R) h w P cs) ≡ P
  plane_is P cs v = ap (λ o. spread h ps (list_in o) (replicate (w * h) (pos 0))) (said_values_law P cs) ∙ plane_back P v.plane

  judged : (P : List ℤ) (cs : List ℕ) → Valid h w (suc R) P cs → judge (sheet_rows (head_of h w (suc R)) (suc R) h w P cs) P cs ≡ 0
  judged P cs v =
      rw (v.sides, v.levels, v.plane, v.coverings, said_covers P cs v, said_values_law P cs, v.numbers)
      (rw (plane_back P v.plane, v.range))

-- the same over the rows of a text
record Given (rows : List (List (List ℤ))) (h w R : ℕ) (P : List ℤ) (cs : List ℕ) : Type 0 where
  judged : judge rows P cs ≡ 0
  height : height_in rows ≡ h
  width : width_in rows ≡ w
  levels : levels_in rows ≡ R
  plane : plane_in rows ≡ P
  coverings : coverings_in rows ≡ cs

given : (t : List ℕ) (rows : List (List (List ℤ))) (h w R : ℕ) (P : List ℤ) (cs : List ℕ) → parse sheet_form t ≡ some rows → Given rows h w R P cs → GivesBack t h w R P cs
unfolding rows_of
given t rows h w R P cs e g =
    let e' : rows_of t ≡ rows = ap list_in e in
    let g' = subst (λ r. Given r h w R P cs) (sym e') g in
    record { accepted = rw e g.judged; height = g'.height; width = g'.width; levels = g'.levels; plane = g'.plane; coverings = g'.coverings }

back : (h w R : ℕ) (P : List ℤ) (cs buffer : List ℕ) → write_refusal h w R P cs buffer ≡ 0 → GivesBack (sheet_text h w R P cs) h w R P cs
back h w R P cs buffer e = go R v (passed h w R v.sides v.levels)
  where
    v : Valid h w R P cs
    v = write_checks h w R P cs buffer e

    go : (R : ℕ) → Valid h w R P cs → Passed h w R → GivesBack (sheet_text h w R P cs) h w R P cs
    go zero v q = absurd (omega (arith, q.some_level))
    go (suc R) v q =
        given (sheet_text h w (suc R) P cs) (sheet_rows (head_of h w (suc R)) (suc R) h w P cs) h w (suc R) P cs
        (parse_text sheet_form (sheet_text h w (suc R) P cs) (sheet_rows (head_of h w (suc R)) (suc R) h w P cs) form_good (record { text = refl; fits = sheet_fits h w R q P cs v }))
        (record { judged = judged h w R q P cs v; height = refl; width = refl; levels = refl; plane = plane_is h w R q P cs v; coverings = ap list_in (said_covers h w R q P cs v) })

-- ---- the other way round

some_in : {A : Type 0} (o : Option (List A)) → is_some o ≡ true → o ≡ some (list_in o)
some_in none e = absurd (let z : ◌≡◌ {A = ℕ} 0 1 = cc in omega arith)
some_in (some l) e = refl

-- the rows of a sheet's text
record Parts (rows : List (List (List ℤ))) : Type 0 where
  whole : rows ≡ (head_of (height_in rows) (width_in rows) (levels_in rows) ∷ []) ∷ get_or rows 1 [] ∷ get_or rows 2 [] ∷ []
  blocks_fit : FitsRows four (get_or rows 1 [])
  entries_fit : FitsRows five (get_or rows 2 [])

one_row : (a : List (List ℤ)) → length a ≡ 1 → FitsRows three a → a ≡ head_of (cell_at (get_or a 0 []) 0) (cell_at (get_or a 0 []) 1) (cell_at (get_or a 0 []) 2) ∷ []
unfolding FitsRows
one_row [] e h = absurd (omega arith)
one_row (r ∷ []) e h = ap (λ x. x ∷ []) (three_is r h.0)
one_row (r ∷ r' ∷ rs) e h = absurd (omega arith)

parts_of : (rows : List (List (List ℤ))) → Fits sheet_form rows → Parts rows
unfolding Fits FitsCount
parts_of [] h = absurd h
parts_of (a ∷ []) h = absurd h.2
parts_of (a ∷ b ∷ []) h = absurd h.2.2
parts_of (a ∷ b ∷ c ∷ []) h = record { whole = ap (λ x. x ∷ b ∷ c ∷ []) (one_row a h.0 h.1); blocks_fit = h.2.1; entries_fit = h.2.2.1 }
parts_of (a ∷ b ∷ c ∷ d ∷ l) h = absurd h.2.2.2

-- rows that the checks pass are those of what they say
record Said (rows : List (List (List ℤ))) : Type 0 where
  rows_are : sheet_rows (head_of (height_in rows) (width_in rows) (levels_in rows)) (levels_in rows) (height_in rows) (width_in rows) (plane_in rows) (coverings_in rows) ≡ rows
  valid : Valid (height_in rows) (width_in rows) (levels_in rows) (plane_in rows) (coverings_in rows)

abbrev rows_from : ℕ → ℕ → ℕ → List (List ℤ) → List (List ℤ) → List (List (List ℤ))
rows_from h w R bl en = (head_of h w R ∷ []) ∷ bl ∷ en ∷ []

said_at : (h w R : ℕ) (bl en : List (List ℤ)) → FitsRows four bl → FitsRows five en → (P : List ℤ) (cs : List ℕ) → judge (rows_from h w R bl en) P cs ≡ 0 → Said (rows_from h w R bl en)
unfolding in_range
said_at h w R bl en fb fe P cs e =
    let rows = rows_from h w R bl en in
    let h₂ = size_past h w R (sym e) in
    let h₃ = past (is_plane h w P && is_coverings R h w cs) 2 h₂.1 in
    let h₁₁ = past (is_some (said_coverings rows) && is_some (said_values rows)) 10 h₃.1 in
    let b = both_true (is_some (said_coverings rows)) (is_some (said_values rows)) h₁₁.0 in
    let h₅ = past (every is_number (coverings_in rows)) 4 h₁₁.1 in
    let h₆ = past (in_range R h w (image_of h (plane_in rows))) 5 h₅.1 in
    let c = covers_rows (block_places R h w) bl (coverings_in rows) fb (some_in (said_coverings rows) b.0) in
    let v = values_rows (plane_places R h w) en (list_in (said_values rows)) fe (some_in (said_values rows) b.1) in
    let z = replicate (w * h) (pos 0) in
    let zl = length-replicate (w * h) (pos 0) in
    let q = h₂.0 in
    let pl : length (plane_in rows) ≡ w * h = length_spread h (plane_places R h w) (list_in (said_values rows)) z ∙ zl in
    record {
      rows_are = (λ i. (head_of h w R ∷ []) ∷ c.lines i ∷ (sym (rows_values (image_of h (plane_in rows)) (plane_places R h w)) ∙ ap (value_rows (plane_places R h w)) (taken R q (list_in (said_values rows)) v.length) ∙ v.lines) i ∷ []);
      valid = record {
        sides = q.sided;
        levels = q.deep;
        plane = eq-eqb (length (plane_in rows)) (w * h) pl;
        coverings = eq-eqb (length (coverings_in rows)) (all_blocks R h w) (c.length ∙ blocks_count 0 R h w);
        numbers = h₅.0;
        range = h₆.0;
      };
    }
  where
    -- what was put is found again
    taken : (R : ℕ) → Passed h w R → (vs : List ℤ) → length vs ≡ length (plane_places R h w) → map (at (image_of h (spread h (plane_places R h w) vs (replicate (w * h) (pos 0))))) (plane_places R h w) ≡ vs
    taken zero q vs e = absurd (omega (arith, q.some_level))
    taken (suc R) q vs e =
        values_spread h (plane_places (suc R) h w) vs (replicate (w * h) (pos 0)) (indexes R h w q.fits)
        (subst (λ (m : ℕ). Each (λ p. index_in h p < m) (plane_places (suc R) h w)) (sym (length-replicate (w * h) (pos 0))) (inside R h w q.fits)) e

said : (rows : List (List (List ℤ))) → Parts rows → (P : List ℤ) (cs : List ℕ) → judge rows P cs ≡ 0 → Said rows
said rows p P cs h =
    subst (λ r. Said r) (sym p.whole)
    (said_at (height_in rows) (width_in rows) (levels_in rows) (get_or rows 1 []) (get_or rows 2 []) p.blocks_fit p.entries_fit P cs (subst (λ r. judge r P cs ≡ 0) p.whole h))

accepts : (h w R : ℕ) (P : List ℤ) (cs buffer : List ℕ) → Valid h w R P cs → length (sheet_text h w R P cs) ≤ length buffer → write_refusal h w R P cs buffer ≡ 0
accepts h w R P cs buffer v l =
    rw (v.sides, v.levels, v.plane, v.coverings, v.numbers, v.range, le-ltb (length buffer) (length (sheet_text h w R P cs)) l)

parsed_in : (t : List ℕ) → is_some (parse sheet_form t) ≡ true → parse sheet_form t ≡ some (rows_of t)
unfolding rows_of
parsed_in t e = some_in (parse sheet_form t) e

forth : (t : List ℕ) (P : List ℤ) (cs buffer : List ℕ) → read_refusal t P cs ≡ 0 → GivesAgain t (height_in (rows_of t)) (width_in (rows_of t)) (levels_in (rows_of t)) (plane_in (rows_of t)) (coverings_in (rows_of t)) buffer
forth t P cs buffer h =
    let h₉ = past (is_some (parse sheet_form t)) 8 (sym h) in
    let x = parse_sound sheet_form t (rows_of t) (parsed_in t h₉.0) in
    let s = said (rows_of t) (parts_of (rows_of t) x.fits) P cs (sym h₉.1) in
    let e = ap (render sheet_form) s.rows_are ∙ x.text in
    record { accepted = λ l. accepts _ _ _ _ _ buffer s.valid (subst (λ (u : List ℕ). length u ≤ length buffer) (sym e) l); same = e }

-- the bytes, part by part
pub sheet_parts : (h w R : ℕ) (P : List ℤ) (cs : List ℕ) → sheet_text h w R P cs ≡ head_part h w R ++ (block_part R h w cs ++ entry_part R h w P)
unfolding render rows_text
sheet_parts h w R P cs =
    ap (λ x. bytes "height width levels\n" ++ ((x ++ []) ++ (block_part R h w cs ++ (entry_part R h w P ++ [])))) (three_row h w R)
    ∙ simp (append-nil)

pub laws : SheetLaws
laws = record { parts = sheet_parts; written_is_read = back; read_is_written = forth }
