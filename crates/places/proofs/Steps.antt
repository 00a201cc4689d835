-- A step of a walk leaves all but the present cell; the first step of a walk has all entries, or all blocks, before it. Assumes nothing.
use mathlib.Core.Path.{◌≡◌, refl, sym, ap, ◌∙◌, subst}
use mathlib.Core.Bool.{true, false}
use mathlib.Core.List.{List, [], ◌∷◌, ◌++◌}
use Prim.Native.Nat.{ℕ, zero, suc, ◌+◌, ◌*◌, ◌-◌, ◌/◌, ◌%◌, ◌^◌, ◌<◌, ◌≤◌}
use native.Mathlib.Nat.{pow-succ', pow-le-pow_right}
use native.Mathlib.Omega.{arith}
use lib.ListN.{length, drop, drop_of_length-le}
use lib.Seq.{drop-cons}
use Rattle.integers.proofs.Index.{index_bound, column_row, column_col}
use Rattle.integers.proofs.Tabulate.{length_tabulate, get_d_tabulate}
use Rattle.pyramid.specs.Places.{places_from, blocks_from, plane_places, tetrolet_places, block_places}
use Rattle.pyramid.specs.Plane.{Fits}
use Rattle.pyramid.specs.Sides.{Side}
use Rattle.places.proofs.Sides.{Passed}
use Rattle.places.specs.declared.walk.Walk.{Walk}
use Rattle.places.specs.Walk.{entry_at, block_at, band_cells, bands_from, first_band, levels_from, left_behind, left_in, entries_left, blocks_left, Inside, Stepped}

-- a walk at another cell of its band, at the next band, at its end, and at the next level
abbrev pub at_cell : Walk → ℕ → ℕ → Walk
at_cell k y x = record { level = k.level; left = k.left; band = k.band; row = y; col = x; height = k.height; width = k.width; low = k.low; first = k.first }

abbrev pub at_band : Walk → Walk
at_band k = record { level = k.level; left = k.left; band = k.band + 1; row = 0; col = 0; height = k.height; width = k.width; low = k.low; first = k.first }

abbrev pub at_end : Walk → Walk
at_end k = record { level = k.level; left = 0; band = k.band; row = 0; col = 0; height = k.height; width = k.width; low = k.low; first = k.first }

abbrev pub at_level : Walk → ℕ → ℕ → Walk
at_level k l b = record { level = k.level + 1; left = l; band = b; row = 0; col = 0; height = k.height / 2; width = k.width / 2; low = k.low; first = k.first }

module _ {A : Type 0} (f : ℕ → ℕ → ℕ → ℕ → ℕ → ℕ → A) where
  abbrev cell : Walk → A
  cell k = f k.height k.width k.level k.band k.row k.col

  length_cells : (h w r b : ℕ) → length (band_cells f h w r b) ≡ w * h
  length_cells h w r b = length_tabulate (w * h) (λ k. f h w r b (k % h) (k / h))

  one_cell : (h w r b y x : ℕ) → y < h → x < w → drop (x * h + y) (band_cells f h w r b) ≡ f h w r b y x ∷ drop (suc (x * h + y)) (band_cells f h w r b)
  one_cell h w r b y x k l =
      let d = f 0 0 0 0 0 0 in
      let i = index_bound x y w h l k in
      drop-cons (band_cells f h w r b) (x * h + y) d (omega (arith, length_cells h w r b))
      ∙ ap (λ z. z ∷ drop (suc (x * h + y)) (band_cells f h w r b))
      (get_d_tabulate (w * h) (λ k. f h w r b (k % h) (k / h)) d (x * h + y) i ∙ (λ t. f h w r b (column_row x y h k t) (column_col x y h k t)))

  -- the rest of the present level and the levels behind it
  abbrev rest : ℕ → Walk → List A
  rest R k = bands_from f k.height k.width k.level (3 - k.band) (suc k.band) (levels_from f k.low k.first k.level R (k.height / 2) (k.width / 2))

  behind : (R : ℕ) (k : Walk) → k.row < k.height → k.col < k.width
      → left_behind f (suc R) k ≡ cell k ∷ (drop (suc (k.col * k.height + k.row)) (band_cells f k.height k.width k.level k.band) ++ rest R k)
  unfolding left_behind
  behind R k a b = ap (λ z. z ++ rest R k) (one_cell k.height k.width k.level k.band k.row k.col a b)

  -- in the band
  pub in_band_law : (k : Walk) (y x : ℕ) → 0 < k.left → k.row < k.height → k.col < k.width → suc (k.col * k.height + k.row) ≡ x * k.height + y → left_in f k ≡ cell k ∷ left_in f (at_cell k y x)
  unfolding left_behind
  in_band_law k y x p a b e = go k.left refl p
    where
      go : (n : ℕ) → k.left ≡ n → 0 < n → left_behind f n k ≡ cell k ∷ left_behind f n (at_cell k y x)
      go zero q p = absurd (omega arith)
      go (suc R) q p = behind R k a b ∙ ap (λ i. cell k ∷ (drop i (band_cells f k.height k.width k.level k.band) ++ rest R k)) e

  -- at the band's end
  last_cell : (R : ℕ) (k : Walk) → k.row + 1 ≡ k.height → k.col + 1 ≡ k.width → left_behind f (suc R) k ≡ cell k ∷ rest R k
  last_cell R k a b =
      behind R k (omega arith) (omega arith)
      ∙ ap (λ z. cell k ∷ (z ++ rest R k)) (drop_of_length-le (band_cells f k.height k.width k.level k.band) (past k.row k.col a b))
    where
      past : {h w : ℕ} (y x : ℕ) → y + 1 ≡ h → x + 1 ≡ w → length (band_cells f h w k.level k.band) ≤ suc (x * h + y)
      past {h} {w} y x p q = let z : w * h ≡ x * h + h = ap (λ (i : ℕ). i * h) (sym q) ∙ one_more x h in omega (arith, length_cells h w k.level k.band)
        where
          one_more : (a b : ℕ) → (a + 1) * b ≡ a * b + b
          one_more a b = omega arith

  bands_one : (h w r n b : ℕ) (t : List A) → bands_from f h w r (suc n) b t ≡ drop (0 * h + 0) (band_cells f h w r b) ++ bands_from f h w r n (suc b) t
  unfolding bands_from
  bands_one h w r n b t = let z : 0 * h + 0 ≡ 0 = omega arith in rw z refl

  pub next_band : (k : Walk) → 0 < k.left → k.row + 1 ≡ k.height → k.col + 1 ≡ k.width → k.band < 3 → left_in f k ≡ cell k ∷ left_in f (at_band k)
  unfolding left_behind
  next_band k p a b c = go k.left refl p
    where
      go : (n : ℕ) → k.left ≡ n → 0 < n → left_behind f n k ≡ cell k ∷ left_behind f n (at_band k)
      go zero q p = absurd (omega arith)
      go (suc R) q p =
          let t = levels_from f k.low k.first k.level R (k.height / 2) (k.width / 2) in
          let m : 3 - k.band ≡ suc (3 - (k.band + 1)) = omega arith in
          let s : suc k.band ≡ k.band + 1 = omega arith in
          last_cell R k a b
          ∙ ap (λ z. cell k ∷ z)
          ((λ i. bands_from f k.height k.width k.level (m i) (s i) t) ∙ bands_one k.height k.width k.level (3 - (k.band + 1)) (k.band + 1) t)

  no_bands : (R : ℕ) (k : Walk) → 3 ≤ k.band → rest R k ≡ levels_from f k.low k.first k.level R (k.height / 2) (k.width / 2)
  unfolding bands_from
  no_bands R k c = let m : 3 - k.band ≡ 0 = omega arith in rw m refl

  pub the_end : (k : Walk) → k.left ≡ 1 → k.row + 1 ≡ k.height → k.col + 1 ≡ k.width → 3 ≤ k.band → left_in f k ≡ cell k ∷ left_in f (at_end k)
  unfolding left_behind levels_from
  the_end k e a b c = ap (λ n. left_behind f n k) e ∙ last_cell 0 k a b ∙ ap (λ z. cell k ∷ z) (no_bands 0 k c)

  level_one : (low first d l h w b : ℕ) → b ≡ first_band f low first l → b ≤ 3 → levels_from f low first d (suc l) h w
      ≡ drop (0 * h + 0) (band_cells f h w (d + 1) b) ++ bands_from f h w (d + 1) (3 - b) (suc b) (levels_from f low first (d + 1) l (h / 2) (w / 2))
  unfolding levels_from
  level_one low first d l h w b e c =
      let m : 4 - b ≡ suc (3 - b) = omega arith in
      let s : suc d ≡ d + 1 = omega arith in
      (λ i. bands_from f h w (s i) (4 - sym e i) (sym e i) (levels_from f low first (s i) l (h / 2) (w / 2)))
      ∙ ap (λ n. bands_from f h w (d + 1) n b (levels_from f low first (d + 1) l (h / 2) (w / 2))) m
      ∙ bands_one h w (d + 1) (3 - b) b (levels_from f low first (d + 1) l (h / 2) (w / 2))

  pub next_level : (k : Walk) (l b : ℕ) → k.left ≡ suc (suc l) → k.row + 1 ≡ k.height → k.col + 1 ≡ k.width → 3 ≤ k.band → b ≡ first_band f k.low k.first l → b ≤ 3
      → left_in f k ≡ cell k ∷ left_behind f (suc l) (at_level k (suc l) b)
  unfolding left_behind
  next_level k l b e a c d g h =
      ap (λ n. left_behind f n k) e ∙ last_cell (suc l) k a c
      ∙ ap (λ z. cell k ∷ z) (no_bands (suc l) k d ∙ level_one k.low k.first k.level l (k.height / 2) (k.width / 2) b g h)

  -- a walk at the first cell of a level
  pub from_start : (low first l h w b : ℕ) → b ≡ first_band f low first l → b ≤ 3
      → left_behind f (suc l) (record { level = 1; left = suc l; band = b; row = 0; col = 0; height = h; width = w; low = low; first = first }) ≡ levels_from f low first 0 (suc l) h w
  unfolding left_behind
  from_start low first l h w b e c = sym (level_one low first 0 l h w b e c)

  -- the present cell is the first
  pub present : (k : Walk) → 0 < k.left → k.row < k.height → k.col < k.width → (t : List A) × (left_in f k ≡ cell k ∷ t)
  present k p a b = go k.left p
    where
      go : (n : ℕ) → 0 < n → (t : List A) × (left_behind f n k ≡ cell k ∷ t)
      go zero p = absurd (omega arith)
      go (suc R) p = (_, behind R k a b)

  pub not_ended : (k : Walk) → 0 < length (left_in f k) → 0 < k.left
  unfolding left_behind
  not_ended k p = go k.left p
    where
      go : (n : ℕ) → 0 < length (left_behind f n k) → 0 < n
      go zero p = absurd (omega arith)
      go (suc R) p = omega arith

  pub ended : (k : Walk) → k.left ≡ 0 → left_in f k ≡ []
  unfolding left_behind
  ended k e = ap (λ n. left_behind f n k) e

-- ---- the two kinds of walk

pub entries_are : (d R h w : ℕ) → levels_from entry_at 0 1 d R (h / 2) (w / 2) ≡ places_from true d R h w
unfolding levels_from bands_from places_from
entries_are d zero h w = refl
entries_are d (suc zero) h w = refl
entries_are d (suc (suc R)) h w =
    ap (λ t. band_cells entry_at (h / 2) (w / 2) (suc d) 1 ++ (band_cells entry_at (h / 2) (w / 2) (suc d) 2 ++ (band_cells entry_at (h / 2) (w / 2) (suc d) 3 ++ t)))
    (entries_are (suc d) (suc R) (h / 2) (w / 2))

pub tetrolets_are : (d R h w : ℕ) → levels_from entry_at 1 1 d R (h / 2) (w / 2) ≡ places_from false d R h w
unfolding levels_from bands_from places_from
tetrolets_are d zero h w = refl
tetrolets_are d (suc zero) h w = refl
tetrolets_are d (suc (suc R)) h w =
    ap (λ t. band_cells entry_at (h / 2) (w / 2) (suc d) 1 ++ (band_cells entry_at (h / 2) (w / 2) (suc d) 2 ++ (band_cells entry_at (h / 2) (w / 2) (suc d) 3 ++ t)))
    (tetrolets_are (suc d) (suc R) (h / 2) (w / 2))

pub blocks_are : (d R h w : ℕ) → levels_from block_at 3 3 d R (h / 4) (w / 4) ≡ blocks_from d R h w
unfolding levels_from bands_from blocks_from
blocks_are d zero h w = refl
blocks_are d (suc R) h w =
    ap (λ b. bands_from block_at (h / 4) (w / 4) (suc d) (4 - b) b (levels_from block_at 3 3 (suc d) R (h / 4 / 2) (w / 4 / 2))) (first R)
    ∙ ap (λ t. band_cells block_at (h / 4) (w / 4) (suc d) 3 ++ t)
    ((λ i. levels_from block_at 3 3 (suc d) R (h-half i) (w-half i)) ∙ blocks_are (suc d) R (h / 2) (w / 2))
  where
    h-half : h / 4 / 2 ≡ h / 2 / 4
    h-half = omega arith

    w-half : w / 4 / 2 ≡ w / 2 / 4
    w-half = omega arith

    first : (R : ℕ) → first_band block_at 3 3 R ≡ 3
    first zero = refl
    first (suc R) = refl

-- ---- the first cell

pub next_col : (x y h : ℕ) → y + 1 ≡ h → suc (x * h + y) ≡ (x + 1) * h + 0
next_col x y h e = let z : (x + 1) * h ≡ x * h + h = omega arith in omega arith

pub next_row : (x y h : ℕ) → suc (x * h + y) ≡ x * h + (y + 1)
next_row x y h = omega arith

-- a side that leaves at least two, and its parts
record Parted (R n : ℕ) : Type 0 where
  half_some : 0 < n / 2
  half_most : 2 * (n / 2) ≤ n
  half_enough : 2 ^ R ≤ 2 * (n / 2)
  quarter_some : 0 < n / 4
  quarter_most : 2 * (n / 4) ≤ n
  quarter_enough : 2 ^ R ≤ 2 * (n / 4)

parted : (R n : ℕ) → 1 ≤ R → n % 4 ≡ 0 → (s : Side n) → R < s.log → Parted R n
parted R n l four s f =
    let room : 2 * 2 ^ R ≤ n = subst (λ (m : ℕ). 2 * 2 ^ R ≤ m) (sym s.is) (subst (λ (m : ℕ). m ≤ 2 ^ s.log) (pow-succ' 2 R) (pow-le-pow_right {n = 2} (omega arith) f)) in
    let two : 2 ≤ 2 ^ R = pow-le-pow_right {n = 2} (omega arith) l in
    record { half_some = omega arith; half_most = omega arith; half_enough = omega arith; quarter_some = omega arith; quarter_most = omega arith; quarter_enough = omega arith }

module _ (h w R : ℕ) (q : Passed h w R) where
  quarters : (h % 4 ≡ 0) × (w % 4 ≡ 0)
  quarters = go R q.some_level q.fits
    where
      go : (R : ℕ) → 1 ≤ R → Fits R h w → (h % 4 ≡ 0) × (w % 4 ≡ 0)
      go zero l f = absurd (omega arith)
      go (suc R) l f = (f.0, f.1)

  down : Parted R h
  down = parted R h q.some_level quarters.0 q.sizes.tall q.sizes.fewer

  across : Parted R w
  across = parted R w q.some_level quarters.1 q.sizes.wide q.sizes.narrower

  started : (b y x low first : ℕ) → b ≤ 3 → low ≤ 3 → first ≤ 3 → 0 < y → 2 * y ≤ h → 2 ^ R ≤ 2 * y → 0 < x → 2 * x ≤ w → 2 ^ R ≤ 2 * x
      → Inside h w (record { level = 1; left = R; band = b; row = 0; col = 0; height = y; width = x; low = low; first = first })
  started b y x low first c d e p t g p' t' g' =
      let m = q.few in
      record { row = p; col = p'; band = c; tall = t; wide = t'; down = q.tall; across = q.wide; level = omega arith; levels = omega arith; halves_down = g; halves_across = g'; low = d; first = e }

  halves : (b low first : ℕ) → b ≤ 3 → low ≤ 3 → first ≤ 3 → Inside h w (record { level = 1; left = R; band = b; row = 0; col = 0; height = h / 2; width = w / 2; low = low; first = first })
  halves b low first c d e = started b (h / 2) (w / 2) low first c d e down.half_some down.half_most down.half_enough across.half_some across.half_most across.half_enough

  pub entry_start : (b : ℕ) → b ≤ 3 → Inside h w (record { level = 1; left = R; band = b; row = 0; col = 0; height = h / 2; width = w / 2; low = 0; first = 1 })
  entry_start b c = halves b 0 1 c (omega arith) (omega arith)

  pub tetrolet_start : Inside h w (record { level = 1; left = R; band = 1; row = 0; col = 0; height = h / 2; width = w / 2; low = 1; first = 1 })
  tetrolet_start = halves 1 1 1 (omega arith) (omega arith) (omega arith)

  pub block_start : Inside h w (record { level = 1; left = R; band = 3; row = 0; col = 0; height = h / 4; width = w / 4; low = 3; first = 3 })
  block_start =
      started 3 (h / 4) (w / 4) 3 3 (omega arith) (omega arith) (omega arith) down.quarter_some down.quarter_most down.quarter_enough across.quarter_some across.quarter_most across.quarter_enough

pub entries_all : (h w R b : ℕ) → 1 ≤ R → b ≡ first_band entry_at 0 1 (R - 1) → b ≤ 3
    → entries_left (record { level = 1; left = R; band = b; row = 0; col = 0; height = h / 2; width = w / 2; low = 0; first = 1 }) ≡ plane_places R h w
entries_all h w zero b p e c = absurd (omega arith)
entries_all h w (suc R) b p e c =
    let m : suc R - 1 ≡ R = omega arith in
    from_start entry_at 0 1 R (h / 2) (w / 2) b (e ∙ ap (first_band entry_at 0 1) m) c ∙ entries_are 0 (suc R) h w

pub tetrolets_all : (h w R : ℕ) → entries_left (record { level = 1; left = R; band = 1; row = 0; col = 0; height = h / 2; width = w / 2; low = 1; first = 1 }) ≡ tetrolet_places R h w
unfolding left_behind places_from
tetrolets_all h w zero = refl
tetrolets_all h w (suc R) = from_start entry_at 1 1 R (h / 2) (w / 2) 1 (one R) (omega arith) ∙ tetrolets_are 0 (suc R) h w
  where
    one : (R : ℕ) → 1 ≡ first_band entry_at 1 1 R
    one zero = refl
    one (suc R) = refl

pub blocks_all : (h w R : ℕ) → blocks_left (record { level = 1; left = R; band = 3; row = 0; col = 0; height = h / 4; width = w / 4; low = 3; first = 3 }) ≡ block_places R h w
unfolding left_behind blocks_from
blocks_all h w zero = refl
blocks_all h w (suc R) = from_start block_at 3 3 R (h / 4) (w / 4) 3 (three R) (omega arith) ∙ blocks_are 0 (suc R) h w
  where
    three : (R : ℕ) → 3 ≡ first_band block_at 3 3 R
    three zero = refl
    three (suc R) = refl

-- ---- each way on, with what stays true of a walk

module _ (h w : ℕ) (k : Walk) (p : 0 < k.left) (i : Inside h w k) where
  pub to_cell : (y x : ℕ) → y < k.height → x < k.width → suc (k.col * k.height + k.row) ≡ x * k.height + y → Stepped h w k (at_cell k y x)
  to_cell y x a b e =
      record {
        inside = record {
          row = a;
          col = b;
          band = i.band;
          tall = i.tall;
          wide = i.wide;
          down = i.down;
          across = i.across;
          level = i.level;
          levels = i.levels;
          halves_down = i.halves_down;
          halves_across = i.halves_across;
          low = i.low;
          first = i.first;
        };
        entries = in_band_law entry_at k y x p i.row i.col e;
        blocks = in_band_law block_at k y x p i.row i.col e;
      }

  module _ (a : k.row + 1 ≡ k.height) (b : k.col + 1 ≡ k.width) where
    pub to_band : k.band < 3 → Stepped h w k (at_band k)
    to_band c =
        record {
          inside = record {
            row = omega (arith, i.row);
            col = omega (arith, i.col);
            band = omega arith;
            tall = i.tall;
            wide = i.wide;
            down = i.down;
            across = i.across;
            level = i.level;
            levels = i.levels;
            halves_down = i.halves_down;
            halves_across = i.halves_across;
            low = i.low;
            first = i.first;
          };
          entries = next_band entry_at k p a b c;
          blocks = next_band block_at k p a b c;
        }

    pub to_end : k.left ≡ 1 → 3 ≤ k.band → Stepped h w k (at_end k)
    to_end e c =
        record {
          inside = record {
            row = omega (arith, i.row);
            col = omega (arith, i.col);
            band = i.band;
            tall = i.tall;
            wide = i.wide;
            down = i.down;
            across = i.across;
            level = i.level;
            levels = omega (arith, i.levels);
            halves_down = omega (arith, i.row);
            halves_across = omega (arith, i.col);
            low = i.low;
            first = i.first;
          };
          entries = the_end entry_at k e a b c;
          blocks = the_end block_at k e a b c;
        }

    halved : (l h : ℕ) → 2 ^ suc (suc l) ≤ 2 * h → 2 ^ suc l ≤ 2 * (h / 2)
    halved l h g = go (2 ^ l) (pow-succ' 2 (suc l)) (pow-succ' 2 l)
      where
        go : (x : ℕ) → 2 ^ suc (suc l) ≡ 2 * 2 ^ suc l → 2 ^ suc l ≡ 2 * x → 2 ^ suc l ≤ 2 * (h / 2)
        go x q r =
            let a : 2 * x ≤ h = omega arith in
            let b : x ≤ h / 2 = omega arith in
            omega arith

    positive : (l h : ℕ) → 2 ^ suc l ≤ 2 * h → 0 < h
    positive l h g = let q = pow-succ' 2 l in let r = up l in omega arith
      where
        up : (l : ℕ) → 1 ≤ 2 ^ l
        up l = pow-le-pow_right {n = 2} (omega arith) (zero-le l)
          where
            zero-le : (l : ℕ) → 0 ≤ l
            zero-le l = omega arith

    pub to_level : (l b' : ℕ) → k.left ≡ suc (suc l) → 3 ≤ k.band → b' ≡ first_band entry_at k.low k.first l → b' ≤ 3 → Stepped h w k (at_level k (suc l) b')
    to_level l b' e c g s =
        let d = halved l k.height (subst (λ (m : ℕ). 2 ^ m ≤ 2 * k.height) e i.halves_down) in
        let x = halved l k.width (subst (λ (m : ℕ). 2 ^ m ≤ 2 * k.width) e i.halves_across) in
        record {
          inside = record {
            row = positive l (k.height / 2) d;
            col = positive l (k.width / 2) x;
            band = s;
            tall = omega (arith, i.tall);
            wide = omega (arith, i.wide);
            down = i.down;
            across = i.across;
            level = omega (arith, i.level);
            levels = omega (arith, i.levels);
            halves_down = d;
            halves_across = x;
            low = i.low;
            first = i.first;
          };
          entries = next_level entry_at k l b' e a b c g s;
          blocks = next_level block_at k l b' e a b c g s;
        }
