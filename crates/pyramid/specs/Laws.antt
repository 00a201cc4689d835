-- The laws of the pyramid, as records: what is proved of the definitions once and for all. Assumes nothing.
use Rattle.std.specs.Prelude.{◌≡◌, ◌⊎◌, ◌↔◌, List, ℕ, suc, ◌+◌, ◌*◌, ◌-◌, ◌/◌, ◌%◌, ◌^◌, ◌<◌, ◌≤◌, T, ℤ, pos, nat_abs, ◌+ℤ◌, ◌-ℤ◌, ◌*ℤ◌, ◌≤ℤ◌, ◌<ℤ◌, length, get_or}
use Rattle.integers.specs.Sum.{sq, total}
use Rattle.block.specs.Block.{forward}
use Rattle.integers.specs.Lists.{every, one_of}
use Rattle.terms.specs.Terms.{Terms, within, all_numbers, is_list}
use Rattle.pyramid.specs.Plane.{Image, Fits, blocks, all_blocks, Numbers, halved, block_of, word_at, after, bands_of, analyse, numerators, listed, covers}
use Rattle.pyramid.specs.Places.{Place, no_place, plane_places, tetrolet_places, block_places, at, sum_over}
use Rattle.pyramid.specs.Slices.{picture_of, covers_of, plane_of, covers_by, plane_by, samples_of, nearest}
use Rattle.pyramid.specs.Ranges.{in_range, InRange}
use Rattle.pyramid.specs.Sides.{is_sides, is_depth, Side}
use Rattle.pyramid.specs.Least.{Least}
use Rattle.pyramid.specs.Near.{Near, NearEvery}
use Rattle.pyramid.specs.Settled.{Settled, SettledBy}

-- One level of an h by w image, with R levels after it. Document 01: "low upper left, W1 upper right, W2 lower left, W3 lower right"; "Label s goes to row s
-- mod 2, column s div 2 of the block's 2 by 2 result, for low and each W", which "fills rows 2i and 2i+1, columns 2j and 2j+1 of its band".
pub record LevelLaws (R h w : ℕ) (cs : ℕ → ℕ) (A : Image) : Type 0 where
  pub low : (y x : ℕ) → y < h / 2 → x < w / 2 → analyse (suc R) h w cs A y x ≡ analyse R (h / 2) (w / 2) (after (blocks h w) cs) (bands_of h cs A 0) y x
  pub upper_right : (y x : ℕ) → y < h / 2 → x < w / 2 → analyse (suc R) h w cs A y (w / 2 + x) ≡ bands_of h cs A 1 y x
  pub lower_left : (y x : ℕ) → y < h / 2 → x < w / 2 → analyse (suc R) h w cs A (h / 2 + y) x ≡ bands_of h cs A 2 y x
  pub lower_right : (y x : ℕ) → y < h / 2 → x < w / 2 → analyse (suc R) h w cs A (h / 2 + y) (w / 2 + x) ≡ bands_of h cs A 3 y x
  pub results : (b i j s : ℕ) → s < 4 → bands_of h cs A b (i * 2 + s % 2) (j * 2 + s / 2) ≡ forward (word_at h cs i j) (block_of A i j) b s

-- R levels of an h by w image or plane, by given coverings.
pub record PyramidLaws (R h w : ℕ) (cs : ℕ → ℕ) : Type 0 where
  -- the numerators of an uncut plane are 4 ^ R times the picture
  pub restored : (A : Image) (y x : ℕ) → y < h → x < w → numerators R h w cs (analyse R h w cs A) y x ≡ pos (4 ^ R) *ℤ A y x
  -- and the plane of the numerators of any plane is 4 ^ R times that plane
  pub decomposed : (P : Image) (y x : ℕ) → y < h → x < w → analyse R h w cs (numerators R h w cs P) y x ≡ pos (4 ^ R) *ℤ P y x
  -- the plane and the numerators are additive
  pub analysed : (A B : Image) → analyse R h w cs (λ y x. A y x -ℤ B y x) ≡ (λ y x. analyse R h w cs A y x -ℤ analyse R h w cs B y x)
  pub additive : (P Q : Image) (y x : ℕ) → numerators R h w cs (λ y x. P y x -ℤ Q y x) y x ≡ numerators R h w cs P y x -ℤ numerators R h w cs Q y x
  -- and homogeneous
  pub analysed_times : (c : ℤ) (A : Image) → analyse R h w cs (λ y x. c *ℤ A y x) ≡ (λ y x. c *ℤ analyse R h w cs A y x)
  pub times : (c : ℤ) (P : Image) (y x : ℕ) → numerators R h w cs (λ y x. c *ℤ P y x) y x ≡ c *ℤ numerators R h w cs P y x
  -- their squares: 4 ^ R times those of the low-pass, 4 ^ (2R - r) times those of the level-r tetrolet entries
  pub squares : (P : Image) → total h w (λ y x. sq (numerators R h w cs P y x))
      ≡ 4 ^ R * total (halved R h) (halved R w) (λ y x. sq (P y x)) + sum_over (tetrolet_places R h w) (λ p. 4 ^ (2 * R - p.level) * sq (at P p))
  -- samples up to 4095 give a plane in range
  pub ranges : (A : Image) → ((y x : ℕ) → y < h → x < w → (n : ℕ) × (A y x ≡ pos n) × (n ≤ 4095)) → InRange R h w (analyse R h w cs A)
  -- the numerators of a plane in range are within 4095 times 4 ^ R times (1 + 3R/2) of zero
  pub bounds : (P : Image) → InRange R h w P → (y x : ℕ) → y < h → x < w → 2 * nat_abs (numerators R h w cs P y x) ≤ 4095 * 4 ^ R * (2 + 3 * R)

-- A list of places of an h by w plane: each is in the plane, and no two are one entry.
pub record Places (h w : ℕ) (l : List Place) : Type 0 where
  pub inside : (n : ℕ) → n < length l → let p = get_or l n no_place in (p.down < h) × (p.across < w)
  pub once : (m n : ℕ) → m < length l → n < length l → let p = get_or l m no_place in let q = get_or l n no_place in p.down ≡ q.down → p.across ≡ q.across → m ≡ n

-- The entry in row y, column x is in the list.
abbrev pub Found : ℕ → ℕ → List Place → Type 0
Found y x l = (n : ℕ) × (n < length l) × ((get_or l n no_place).down ≡ y) × ((get_or l n no_place).across ≡ x)

-- R levels of an h by w plane, R at least 1.
pub record PlaceLaws (R h w : ℕ) : Type 0 where
  -- plane order lists each entry of the plane once
  pub plane : Places h w (plane_places R h w)
  pub all : length (plane_places R h w) ≡ w * h
  pub found : (y x : ℕ) → y < h → x < w → Found y x (plane_places R h w)
  -- without band 0 it lists each entry but those of the low-pass
  pub tetrolet : Places h w (tetrolet_places R h w)
  pub count : length (tetrolet_places R h w) + halved R w * halved R h ≡ w * h
  pub cases : (y x : ℕ) → y < h → x < w → ((y < halved R h) × (x < halved R w)) ⊎ Found y x (tetrolet_places R h w)
  -- and it is the list without its entries of band 0
  pub banded : (n : ℕ) → n < length (tetrolet_places R h w) → 0 < (get_or (tetrolet_places R h w) n no_place).band
  -- covering order lists each block
  pub blocks : length (block_places R h w) ≡ all_blocks R h w
  -- the ranges as a test are the ranges as a fact
  pub tested : (P : Image) → T (in_range R h w P) ↔ InRange R h w P

-- The checks 1 and 2 of a height and a width. Document 02, wish 2: "Height and width may each be any power of two from 4 to 512, and levels go up to log2 of
-- the smaller minus 1."
pub record SizeLaws (h w : ℕ) : Type 0 where
  pub sides : T (is_sides h w) ↔ (Side h × Side w)
  pub depths : (s : Side h) (t : Side w) (R : ℕ) → T (is_depth R h w) ↔ ((1 ≤ R) × (R ≤ s.log - 1) × (R ≤ t.log - 1))
  -- what passes them is whole blocks at each level
  pub whole : (R : ℕ) → T (is_sides h w) → T (is_depth R h w) → Fits R h w

-- Document 02, wishes 6 and 7: decomposing R levels of the picture s on terms t whose list is not refused.
pub record ChosenLaws (t : Terms) (R h w : ℕ) (s : List ℕ) : Type 0 where
  -- a covering is chosen for each block, and it is a number of one
  pub lengths : length (covers_by t R h w s) ≡ all_blocks R h w
  pub numbers : Numbers (all_blocks R h w) (listed (covers_by t R h w s))
  -- it is in the list
  pub stand : T (every (one_of t.list) (covers_by t R h w s))
  -- it costs at most t times 2^r more than every other one in the list at level r; with all coverings listed, than every cutting there is
  pub near : Near t R h w (covers_by t R h w s) (picture_of h s)
  pub all : t.list ≡ all_numbers → NearEvery t R h w (covers_by t R h w s) (picture_of h s)
  -- of those that compete the one chosen most often in all earlier blocks wins, then the lowest number; and no other coverings out of the list are so settled
  pub settled : SettledBy t R h w (covers_by t R h w s) (picture_of h s)
  pub only : (cs : List ℕ) → length cs ≡ all_blocks R h w → T (every (one_of t.list) cs) → SettledBy t R h w cs (picture_of h s) → cs ≡ covers_by t R h w s
  -- restoring the plane gives the picture back
  pub exactly : length s ≡ w * h → ((k : ℕ) → k < w * h → get_or s k 0 ≤ 4095) → samples_of R h w (covers_by t R h w s) (plane_by t R h w s) ≡ s

pub record Laws : Type 0 where
  pub by_coverings : (R h w : ℕ) → Fits R h w → (cs : ℕ → ℕ) → Numbers (all_blocks R h w) cs → PyramidLaws R h w cs
  pub level : (R h w : ℕ) (cs : ℕ → ℕ) (A : Image) → LevelLaws R h w cs A
  pub placed : (R h w : ℕ) → Fits R h w → 1 ≤ R → PlaceLaws R h w
  -- a covering is chosen for each block
  pub lengths : (R h w : ℕ) (A : Image) → length (covers R h w A) ≡ all_blocks R h w
  -- the coverings chosen are numbers of coverings, and the least at their blocks
  pub numbers : (R h w : ℕ) (A : Image) → Numbers (all_blocks R h w) (listed (covers R h w A))
  pub least : (R h w : ℕ) → Fits R h w → (A : Image) → Least R h w (listed (covers R h w A)) A
  -- document 02, wish 5: the coverings that decomposing gives are settled by all those listed before them, and no other list of coverings is
  pub settled : (R h w : ℕ) → Fits R h w → (s : List ℕ) → Settled R h w (covers_of R h w s) (picture_of h s)
  pub only : (R h w : ℕ) → Fits R h w → (s cs : List ℕ) → length cs ≡ all_blocks R h w → Numbers (all_blocks R h w) (listed cs) → Settled R h w cs (picture_of h s) → cs ≡ covers_of R h w s
  -- restoring the plane that decomposing gives gives the picture back
  pub exactly : (R h w : ℕ) → Fits R h w → (s : List ℕ) → length s ≡ w * h → ((k : ℕ) → k < w * h → get_or s k 0 ≤ 4095) → samples_of R h w (covers_of R h w s) (plane_of R h w s) ≡ s
  -- on terms, and "With t = 0 everything is as without it"
  pub on_terms : (t : Terms) → T (is_list t.list) → (R h w : ℕ) → Fits R h w → (s : List ℕ) → ChosenLaws t R h w s
  pub without : (R h w : ℕ) (s : List ℕ) → (covers_by (within 0) R h w s ≡ covers_of R h w s) × (plane_by (within 0) R h w s ≡ plane_of R h w s)
  -- rounding is to nearest, halves upward: of n = nearest R y, 2 y + 4 ^ R is at least 2 n 4 ^ R and below 2 (n + 1) 4 ^ R
  pub rounded : (R : ℕ) (y : ℤ) → let m = 2 * 4 ^ R in let n = nearest R y in
      ((pos m *ℤ n) ≤ℤ (pos 2 *ℤ y +ℤ pos (4 ^ R))) × ((pos 2 *ℤ y +ℤ pos (4 ^ R)) <ℤ (pos m *ℤ n +ℤ pos m))
  pub sizes : (h w : ℕ) → SizeLaws h w
