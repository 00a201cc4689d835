-- A front that goes to the level of a line passes no place of the line; and the line's place is the one with its number. Assumes nothing.
use mathlib.Core.Path.{◌≡◌, refl, sym, ap, ◌∙◌, subst}
use mathlib.Core.Bool.{Bool, true, false, not, ◌&&◌}
use mathlib.Core.List.{List, [], ◌∷◌, ◌++◌, append_assoc}
use Prim.Native.Nat.{ℕ, zero, suc, ◌+◌, ◌*◌, ◌-◌, ◌/◌, ◌%◌, ◌<◌, ◌≤◌}
use native.Mathlib.Nat.{mul_assoc, mul-add-div_right, mul-add-mod_self_right, div-add-mod'}
use native.Mathlib.Omega.{arith}
use borrow.Author.Tests.{eqb-true, eq-eqb, lt-ltb, ltb-true, le-leb, leb-true, leb-false}
use lib.Dec.{T, eqb, leb, ltb}
use lib.IntN.{ℤ, pos, nat_abs}
use lib.ListN.{length, get_or, take, drop, take-append-drop, length-take, length-drop, drop_of_length-le}
use lib.Seq.{get_or-take, get_or-drop, take_all, drop-cons, drop-drop, drop_at}
use mir.Syntax.{w64}
use mir.Val.{to_z, of_z}
use mir.Facts.{to_z-of_z}
use Rattle.integers.specs.Lists.{tabulate, every}
use Rattle.integers.proofs.Index.{index_bound, index_place, column_row, column_col}
use Rattle.integers.proofs.Tabulate.{length_tabulate, get_d_tabulate, tabulate_add, tabulate_same}
use Rattle.integers.proofs.Tests.{is_true, both_true, every_of, every_append}
use Rattle.text.specs.Text.{limit}
use Rattle.text.specs.declared.lines.Five.{Five}
use Rattle.text.proofs.Signed.{sfits}
use Rattle.text.proofs.Many.{FiveLine}
use Rattle.pyramid.specs.Places.{Place, no_place, plane_places}
use Rattle.places.specs.declared.walk.Walk.{Walk}
use Rattle.places.specs.Walk.{entry_at, entry_of, band_cells, bands_from, first_band, levels_from, Inside}
use Rattle.places.proofs.Sides.{Passed}
use Rattle.places.proofs.Steps.{entries_are, entry_start, to_end, to_level}
use Rattle.sheet_text.specs.Rows.{is_place}
use Rattle.sheet_scan.specs.declared.front.Front.{Front}
use Rattle.sheet_scan.specs.Front.{is_of, level_number, level_cells, level_left, left_from, places_left, is_ahead, walk_at, walk_to, past_line, Standing, LevelPassed, Skipped, Sought}
use Rattle.sheet_scan.proofs.Scans.{Others}

-- the line that was read is of the places that its cells say
pub line_of : (s : List ℕ) (at : ℕ) (f : Five) (x : FiveLine s at f) (p : Place) → is_of f p ≡ is_place p x.cells
line_of s at f x p = λ i. eqb (x.first i) p.level && (eqb (x.second i) p.band && (eqb (x.third i) p.row && eqb (x.fourth i) p.col))

-- its value as the code has it
pub value_of : (s : List ℕ) (at : ℕ) (f : Five) (x : FiveLine s at f) → to_z w64 (of_z w64 f.value) ≡ get_or x.cells 4 (pos 0)
value_of s at f x = to_z-of_z {w = w64} (sfits f.value (subst (λ z. nat_abs z ≤ limit) (sym x.value) x.small)) ∙ x.value

pub others_of : (s : List ℕ) (at : ℕ) (f : Five) (x : FiveLine s at f) (rs : List (List ℤ)) (qs : List Place) → every (λ p. not (is_of f p)) qs ≡ true → Others x.cells rs qs
others_of s at f x rs qs e = sym (λ i. every (λ p. not (line_of s at f x p i)) qs) ∙ e

-- ---- the places of a level by their numbers

module _ (h w r : ℕ) where
  abbrev cell : ℕ → Place
  cell j = entry_at h w r (j / h / w) (j % h) (j / h % w)

  four : 4 * (w * h) ≡ 4 * w * h
  four = sym (mul_assoc 4 w h)

  -- the numbers of a place are its band, its row and its column
  parts : (j : ℕ) → j < 4 * (w * h) → (j / h / w < 4) × (j % h < h) × (j / h % w < w)
  parts j l =
      let a = index_place h (4 * w) j (omega (arith, four)) in
      let b = index_place w 4 (j / h) a.1 in
      (b.1, a.0, b.0)

  together : (j : ℕ) → (j / h / w * w + j / h % w) * h + j % h ≡ j
  together j = ap (λ (q : ℕ). q * h + j % h) (div-add-mod' (j / h) w) ∙ div-add-mod' j h

  bound : (b y x : ℕ) → b ≤ 3 → y < h → x < w → (b * w + x) * h + y < 4 * (w * h)
  bound b y x k l m = let z = index_bound (b * w + x) y (4 * w) h (index_bound b x 4 w (omega arith) m) l in omega (arith, four)

  cell_at_law : (b y x : ℕ) → y < h → x < w → cell ((b * w + x) * h + y) ≡ entry_at h w r b y x
  cell_at_law b y x k l =
      let q = column_col (b * w + x) y h k in
      λ i. entry_at h w r ((ap (λ (n : ℕ). n / w) q ∙ column_col b x w l) i) (column_row (b * w + x) y h k i) ((ap (λ (n : ℕ). n % w) q ∙ column_row b x w l) i)

  length_level : length (level_cells h w r) ≡ 4 * (w * h)
  length_level = length_tabulate (4 * (w * h)) cell

  get_d_level : (d : Place) (j : ℕ) → j < 4 * (w * h) → get_or (level_cells h w r) j d ≡ cell j
  get_d_level d j l = get_d_tabulate (4 * (w * h)) cell d j l

  -- band by band
  one_band : (b : ℕ) → tabulate (w * h) (λ j. cell (b * (w * h) + j)) ≡ band_cells entry_at h w r b
  one_band b =
      tabulate_same (w * h) (λ j. cell (b * (w * h) + j)) (λ j. entry_at h w r b (j % h) (j / h))
      (λ j l.
      let p = index_place h w j l in
      let e : b * (w * h) + j ≡ b * w * h + j = ap (λ (n : ℕ). n + j) (sym (mul_assoc b w h)) in
      let q : (b * (w * h) + j) / h ≡ b * w + j / h = ap (λ (n : ℕ). n / h) e ∙ mul-add-div_right (omega (arith, p.0)) (b * w) j in
      let m : (b * (w * h) + j) % h ≡ j % h = ap (λ (n : ℕ). n % h) e ∙ mul-add-mod_self_right (b * w) h j in
      λ i. entry_at h w r ((ap (λ (n : ℕ). n / w) q ∙ column_col b (j / h) w p.1) i) (m i) ((ap (λ (n : ℕ). n % w) q ∙ column_row b (j / h) w p.1) i))

  behind_band : (n b : ℕ) → tabulate (w * h + n) (λ j. cell (b * (w * h) + j)) ≡ band_cells entry_at h w r b ++ tabulate n (λ j. cell ((b + 1) * (w * h) + j))
  behind_band n b =
      tabulate_add (w * h) n (λ j. cell (b * (w * h) + j))
      ∙ (λ i. one_band b i ++ tabulate n (λ j. cell (next j i)))
    where
      next : (j : ℕ) → b * (w * h) + (w * h + j) ≡ (b + 1) * (w * h) + j
      next j = omega arith

  abbrev band : ℕ → List Place
  band b = band_cells entry_at h w r b

  four_bands : level_cells h w r ≡ band 0 ++ (band 1 ++ (band 2 ++ band 3))
  four_bands =
      let n = w * h in
      let e : 4 * n ≡ n + (n + (n + n)) = omega arith in
      let z : (j : ℕ) → j ≡ 0 * n + j = λ j. omega arith in
      (λ i. tabulate (e i) (λ j. cell (z j i)))
      ∙ behind_band (n + (n + n)) 0
      ∙ ap (λ l. band 0 ++ l) (behind_band (n + n) 1 ∙ ap (λ l. band 1 ++ l) (behind_band n 2 ∙ ap (λ l. band 2 ++ l) (one_band 3)))

  -- all bands but band 0, or all four, before t
  last_three : (t : List Place) → (band 1 ++ (band 2 ++ band 3)) ++ t ≡ band 1 ++ (band 2 ++ (band 3 ++ t))
  last_three t = append_assoc (band 1) (band 2 ++ band 3) t ∙ ap (λ l. band 1 ++ l) (append_assoc (band 2) (band 3) t)

  from_one : (t : List Place) → bands_from entry_at h w r 3 1 t ≡ drop (w * h) (level_cells h w r) ++ t
  unfolding bands_from
  from_one t =
      sym
      (ap (λ l. drop (w * h) l ++ t) four_bands
      ∙ ap (λ l. l ++ t) (drop_at (band 0) (band 1 ++ (band 2 ++ band 3)) (w * h) (length_tabulate (w * h) (λ j. entry_at h w r 0 (j % h) (j / h))))
      ∙ last_three t)

  from_zero : (t : List Place) → bands_from entry_at h w r 4 0 t ≡ drop 0 (level_cells h w r) ++ t
  unfolding bands_from
  from_zero t = sym (ap (λ l. l ++ t) four_bands ∙ append_assoc (band 0) (band 1 ++ (band 2 ++ band 3)) t ∙ ap (λ l. band 0 ++ l) (last_three t))

-- ---- at the start of a level: the last one with band 0, the others without

pub first_level : (d R h w : ℕ) → levels_from entry_at 0 1 d (suc (suc R)) h w ≡ drop (w * h) (level_cells h w (suc d)) ++ levels_from entry_at 0 1 (suc d) (suc R) (h / 2) (w / 2)
unfolding levels_from
first_level d R h w = from_one h w (suc d) (levels_from entry_at 0 1 (suc d) (suc R) (h / 2) (w / 2))

pub last_level : (d h w : ℕ) → levels_from entry_at 0 1 d 1 h w ≡ drop 0 (level_cells h w (suc d)) ++ levels_from entry_at 0 1 (suc d) 0 (h / 2) (w / 2)
unfolding levels_from
last_level d h w = from_zero h w (suc d) []

-- another cell of the same level
moved : (h w : ℕ) (k : Walk) (b y x : ℕ) → Inside h w k → b ≤ 3 → y < k.height → x < k.width
    → Inside h w (record { level = k.level; left = k.left; band = b; row = y; col = x; height = k.height; width = k.width; low = k.low; first = k.first })
moved h w k b y x i c a d =
    record {
      row = a;
      col = d;
      band = c;
      level = i.level;
      tall = i.tall;
      wide = i.wide;
      down = i.down;
      across = i.across;
      levels = i.levels;
      halves_down = i.halves_down;
      halves_across = i.halves_across;
      low = i.low;
      first = i.first;
    }

-- its bands are small
pub small : (h w : ℕ) (k : Front) → Standing h w k → (k.height ≤ 256) × (k.width ≤ 256)
small h w k s = (omega (arith, s.tall, s.down), omega (arith, s.wide, s.across))

-- ---- the first front

pub first_last : (h w : ℕ) (q : Passed h w 1) (k : Front) → k ≡ record { level = 1; left = 1; height = h / 2; width = w / 2; from = 0 } → Standing h w k × (0 < k.left) × (places_left k ≡ plane_places 1 h w)
unfolding left_from
first_last h w q k e =
    subst (λ k. Standing h w k × (0 < k.left) × (places_left k ≡ plane_places 1 h w)) (sym e)
    (entry_start h w 1 q 0 (omega arith), omega arith, sym (last_level 0 (h / 2) (w / 2)) ∙ entries_are 0 1 h w)

pub first_other : (h w R : ℕ) (q : Passed h w R) → (R ≡ 1 → ⊥) → (k : Front) → k ≡ record { level = 1; left = R; height = h / 2; width = w / 2; from = w / 2 * (h / 2) } → Standing h w k × (0 < k.left) × (places_left k ≡ plane_places R h w)
unfolding left_from
first_other h w zero q n k e = absurd (omega (arith, q.some_level))
first_other h w (suc zero) q n k e = absurd (n refl)
first_other h w (suc (suc R)) q n k e =
    subst (λ k. Standing h w k × (0 < k.left) × (places_left k ≡ plane_places (suc (suc R)) h w)) (sym e)
    (entry_start h w (suc (suc R)) q 0 (omega arith), omega arith, sym (first_level 0 R (h / 2) (w / 2)) ∙ entries_are 0 (suc (suc R)) h w)

-- ---- the next level

module _ (h w : ℕ) (k : Front) (p : 0 < k.left) (s : Standing h w k) where
  -- the last cell of the level
  at_corner : Inside h w (walk_at k 3 (k.height - 1) (k.width - 1))
  at_corner = moved h w (walk_at k 0 0 0) 3 (k.height - 1) (k.width - 1) s (omega arith) (omega (arith, s.row)) (omega (arith, s.col))

  last_row : k.height - 1 + 1 ≡ k.height
  last_row = omega (arith, s.row)

  last_col : k.width - 1 + 1 ≡ k.width
  last_col = omega (arith, s.col)

  pub to_none : k.left ≡ 1 → LevelPassed h w k (record { level = k.level; left = 0; height = k.height; width = k.width; from = 0 })
  unfolding left_from levels_from
  to_none e =
      record {
        standing = moved h w _ 0 0 0 (to_end h w (walk_at k 3 (k.height - 1) (k.width - 1)) p at_corner last_row last_col e (omega arith)).inside (omega arith) (omega (arith, s.row)) (omega (arith, s.col));
        fewer = omega arith;
        all = ap (λ n. left_from n k) e;
      }

  next_standing : (l : ℕ) → k.left ≡ suc (suc l) → Standing h w (record { level = k.level + 1; left = suc l; height = k.height / 2; width = k.width / 2; from = 0 })
  next_standing l e =
      let i = (to_level h w (walk_at k 3 (k.height - 1) (k.width - 1)) p at_corner last_row last_col l (first_band entry_at 0 1 l) e (omega arith) refl (band l)).inside in
      moved h w _ 0 0 0 i (omega arith) i.row i.col
    where
      band : (l : ℕ) → first_band entry_at 0 1 l ≤ 3
      band zero = omega arith
      band (suc l) = omega arith

  pub to_last : k.left ≡ 2 → LevelPassed h w k (record { level = k.level + 1; left = 1; height = k.height / 2; width = k.width / 2; from = 0 })
  unfolding left_from
  to_last e =
      let z : suc k.level ≡ k.level + 1 = omega arith in
      record {
        standing = next_standing 0 e;
        fewer = omega arith;
        all =
            ap (λ n. left_from n k) e
            ∙ ap (λ l. level_left k ++ l) (last_level k.level (k.height / 2) (k.width / 2) ∙ (λ i. level_cells (k.height / 2) (k.width / 2) (z i) ++ levels_from entry_at 0 1 (z i) 0 (k.height / 2 / 2) (k.width / 2 / 2)));
      }

  pub to_next : (l : ℕ) → k.left ≡ suc (suc (suc l)) → LevelPassed h w k (record { level = k.level + 1; left = suc (suc l); height = k.height / 2; width = k.width / 2; from = k.width / 2 * (k.height / 2) })
  unfolding left_from
  to_next l e =
      let z : suc k.level ≡ k.level + 1 = omega arith in
      record {
        standing = next_standing (suc l) e;
        fewer = omega arith;
        all =
            ap (λ n. left_from n k) e
            ∙ ap (λ m. level_left k ++ m)
            (first_level k.level l (k.height / 2) (k.width / 2)
            ∙ (λ i. drop (k.width / 2 * (k.height / 2)) (level_cells (k.height / 2) (k.width / 2) (z i)) ++ levels_from entry_at 0 1 (z i) (suc l) (k.height / 2 / 2) (k.width / 2 / 2)));
      }

-- ---- a line ahead, by its numbers

module _ (f : Five) (k : Front) where
  abbrev n : ℕ
  n = level_number k.height k.width f

  pub record Ahead : Type 0 where
    pub level : f.first ≡ k.level
    pub band : f.second ≤ 3
    pub row : f.third < k.height
    pub col : f.fourth < k.width
    pub behind : k.from ≤ n

  pub ahead : is_ahead f k ≡ true → Ahead
  ahead e =
      let a = both_true (eqb f.first k.level) _ e in
      let b = both_true (leb f.second 3) _ a.1 in
      let c = both_true (ltb f.third k.height) _ b.1 in
      let d = both_true (ltb f.fourth k.width) _ c.1 in
      record { level = eqb-true _ _ a.0; band = leb-true _ _ b.0; row = ltb-true _ _ c.0; col = ltb-true _ _ d.0; behind = leb-true _ _ d.1 }

  is_ahead_law : Ahead → is_ahead f k ≡ true
  is_ahead_law a =
      rw (
        eq-eqb f.first k.level a.level,
        le-leb f.second 3 a.band,
        lt-ltb f.third k.height a.row,
        lt-ltb f.fourth k.width a.col,
        le-leb k.from n a.behind,
      )

  abbrev size : ℕ
  size = 4 * (k.width * k.height)

  abbrev at : ℕ → Place
  at j = cell k.height k.width k.level j

  -- the line is of the place with the number j
  place_of : (j : ℕ) → j < size → is_of f (at j) ≡ true → (f.first ≡ k.level) × (f.second ≤ 3) × (f.third < k.height) × (f.fourth < k.width) × (n ≡ j)
  place_of j l e =
      let a = both_true (eqb f.first k.level) _ e in
      let b = both_true (eqb f.second (j / k.height / k.width)) _ a.1 in
      let c = both_true (eqb f.third (j % k.height)) _ b.1 in
      let z = eqb-true f.second (j / k.height / k.width) b.0 in
      let y = eqb-true f.third (j % k.height) c.0 in
      let x = eqb-true f.fourth (j / k.height % k.width) c.1 in
      let p = parts k.height k.width k.level j l in
      (eqb-true f.first k.level a.0, omega (arith, z, p.0), omega (arith, y, p.1), omega (arith, x, p.2), (λ i. (z i * k.width + x i) * k.height + y i) ∙ together k.height k.width k.level j)

  -- none of the next m places is the line's
  others : (m : ℕ) → k.from + m ≤ size → ((j : ℕ) → j < m → is_of f (at (k.from + j)) ≡ true → ⊥) → every (λ p. not (is_of f p)) (take m (level_left k)) ≡ true
  others m l g = is_true _ (every_of (λ p. not (is_of f p)) (take m (level_left k)) no_place (λ j b. one j (omega (arith, b, count))))
    where
      cells : List Place
      cells = level_cells k.height k.width k.level

      count : length (take m (level_left k)) ≤ m
      count = omega (arith, length-take m (level_left k))

      no : (b : Bool) → (b ≡ true → ⊥) → T (not b)
      no true h = h refl
      no false h = tt

      one : (j : ℕ) → j < m → T (not (is_of f (get_or (take m (level_left k)) j no_place)))
      one j b =
          subst (λ p. T (not (is_of f p)))
          (sym (get_or-take m (level_left k) j no_place b ∙ get_or-drop k.from cells j no_place ∙ get_d_level k.height k.width k.level no_place (k.from + j) (omega arith)))
          (no (is_of f (at (k.from + j))) (g j b))

  gone : is_ahead f k ≡ false → every (λ p. not (is_of f p)) (level_left k) ≡ true
  gone e = go (leb k.from size) refl
    where
      cells : List Place
      cells = level_cells k.height k.width k.level

      left : length (level_left k) ≡ size - k.from
      left = length-drop k.from cells ∙ ap (λ (m : ℕ). m - k.from) (length_level k.height k.width k.level)

      go : (b : Bool) → leb k.from size ≡ b → every (λ p. not (is_of f p)) (level_left k) ≡ true
      go true q =
          let c : k.from ≤ size = leb-true k.from size q in
          ap (every (λ p. not (is_of f p))) (sym (take_all (size - k.from) (level_left k) (omega (arith, left))))
          ∙ others (size - k.from) (omega (arith, c))
          (λ j l o.
          let z = place_of (k.from + j) (omega (arith, c, l)) o in
          let t = is_ahead_law (record { level = z.0; band = z.1; row = z.2; col = z.3; behind = omega (arith, z.4) }) in
          let y : ◌≡◌ {A = Bool} true false = sym t ∙ e in
          absurd (subst T y tt))
      go false q =
          let m : length cells ≤ k.from = omega (arith, length_level k.height k.width k.level, leb-false k.from size q) in
          ap (every (λ p. not (is_of f p))) (drop_of_length-le cells m)

  -- the places before the line's, the line's, and those behind it
  at_line : is_ahead f k ≡ true → 0 < k.left → places_left k ≡ take (n - k.from) (level_left k) ++ (entry_of (walk_to k f) ∷ places_left (past_line k f))
  unfolding left_from
  at_line e p = go k.left p
    where
      cells : List Place
      cells = level_cells k.height k.width k.level

      a : Ahead
      a = ahead e

      rest : level_left k ≡ take (n - k.from) (level_left k) ++ (entry_of (walk_to k f) ∷ drop (n + 1) cells)
      rest =
          let m : k.from + (n - k.from) ≡ n = omega (arith, a.behind) in
          let z : suc n ≡ n + 1 = omega arith in
          sym (take-append-drop (n - k.from) (level_left k))
          ∙ ap (λ l. take (n - k.from) (level_left k) ++ l)
          (drop-drop (n - k.from) k.from cells
          ∙ ap (λ (j : ℕ). drop j cells) m
          ∙ drop-cons cells n no_place (omega (arith, length_level k.height k.width k.level, bound k.height k.width k.level f.second f.third f.fourth a.band a.row a.col))
          ∙ (λ i. (get_d_level k.height k.width k.level no_place n (bound k.height k.width k.level f.second f.third f.fourth a.band a.row a.col) ∙ cell_at_law k.height k.width k.level f.second f.third f.fourth a.row a.col) i ∷ drop (z i) cells))

      go : (m : ℕ) → 0 < m → left_from m k ≡ take (n - k.from) (level_left k) ++ (entry_of (walk_to k f) ∷ left_from m (past_line k f))
      go zero p = absurd (omega arith)
      go (suc R) p =
          ap (λ l. l ++ levels_from entry_at 0 1 k.level R (k.height / 2) (k.width / 2)) rest
          ∙ append_assoc (take (n - k.from) (level_left k)) (entry_of (walk_to k f) ∷ drop (n + 1) cells) (levels_from entry_at 0 1 k.level R (k.height / 2) (k.width / 2))

  before_line : is_ahead f k ≡ true → every (λ p. not (is_of f p)) (take (n - k.from) (level_left k)) ≡ true
  before_line e =
      let a = ahead e in
      let b = bound k.height k.width k.level f.second f.third f.fourth a.band a.row a.col in
      others (n - k.from) (omega (arith, b, a.behind)) (λ j l o. let z = place_of (k.from + j) (omega (arith, b, a.behind, l)) o in absurd (omega (arith, z.4, l)))

  is_line : is_ahead f k ≡ true → is_of f (entry_of (walk_to k f)) ≡ true
  is_line e = rw (eq-eqb f.first k.level (ahead e).level, eq-eqb f.second f.second refl, eq-eqb f.third f.third refl, eq-eqb f.fourth f.fourth refl)

-- where no level is left, no place is
pub ended : (k : Front) → k.left ≡ 0 → places_left k ≡ []
unfolding left_from
ended k e = ap (λ m. left_from m k) e

-- ---- from level to level

module _ (h w : ℕ) (f : Five) where
  pub skip_none : (k : Front) → Standing h w k → Skipped h w f k k
  skip_none k s = record { standing = s; places = []; all = refl; others = refl }

  pub skip_level : (k₀ k k' : Front) → Skipped h w f k₀ k → LevelPassed h w k k' → is_ahead f k ≡ false → Skipped h w f k₀ k'
  skip_level k₀ k k' s b e =
      record {
        standing = b.standing;
        places = s.places ++ level_left k;
        all = s.all ∙ ap (λ z. s.places ++ z) b.all ∙ sym (append_assoc s.places (level_left k) (places_left k'));
        others = every_append (λ p. not (is_of f p)) s.places (level_left k) ∙ rw s.others (gone f k e);
      }

  pub skip_more : (k k' k'' : Front) → Skipped h w f k k' → Skipped h w f k' k'' → Skipped h w f k k''
  skip_more k k' k'' s t =
      record {
        standing = t.standing;
        places = s.places ++ t.places;
        all = s.all ∙ ap (λ z. s.places ++ z) t.all ∙ sym (append_assoc s.places t.places (places_left k''));
        others = every_append (λ p. not (is_of f p)) s.places t.places ∙ rw s.others t.others;
      }

  -- what is left when a line was sought and its place found: none of the places before it is the line's
  pub record Reached (k k' : Front) : Type 0 where
    pub places : List Place
    pub all : places_left k ≡ places ++ (entry_of (walk_to k' f) ∷ places_left (past_line k' f))
    pub others : every (λ p. not (is_of f p)) places ≡ true
    pub here : is_of f (entry_of (walk_to k' f)) ≡ true

  pub reached : (k k' : Front) → Sought h w f k k' → 0 < k'.left → Reached k k'
  reached k k' s p =
      let e = s.found p in
      let q = s.skipped in
      let ts = take (level_number k'.height k'.width f - k'.from) (level_left k') in
      record {
        places = q.places ++ ts;
        all = q.all ∙ ap (λ z. q.places ++ z) (at_line f k' e p) ∙ sym (append_assoc q.places ts (entry_of (walk_to k' f) ∷ places_left (past_line k' f)));
        others = every_append (λ p. not (is_of f p)) q.places ts ∙ rw q.others (before_line f k' e);
        here = is_line f k' e;
      }
