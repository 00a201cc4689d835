-- How far the lines of entries have come along the plane. In a level the places are numbered down columns, band by band from band 0 on, so those that
-- are left are those from a number on. Assumes nothing.
use Rattle.std.specs.Prelude.{◌≡◌, Bool, true, not, ◌&&◌, List, [], ◌++◌, ℕ, zero, suc, ◌+◌, ◌*◌, ◌/◌, ◌%◌, ◌<◌, eqb, leb, ltb, drop}
use Rattle.integers.specs.Lists.{tabulate, every}
use Rattle.text.specs.declared.lines.Five.{Five}
use Rattle.pyramid.specs.Places.{Place}
use Rattle.places.specs.declared.walk.Walk.{Walk}
use Rattle.places.specs.Walk.{entry_at, levels_from, Inside}
use Rattle.sheet_scan.specs.declared.front.Front.{Front}

-- a line is of this entry
abbrev pub is_of : Five → Place → Bool
is_of f p = eqb f.first p.level && (eqb f.second p.band && (eqb f.third p.row && eqb f.fourth p.col))

-- the number of its place in a level with bands of height h and width w
abbrev pub level_number : ℕ → ℕ → Five → ℕ
level_number h w f = (f.second * w + f.fourth) * h + f.third

-- the places of a level by their numbers, band 0 with them
abbrev pub level_cells : ℕ → ℕ → ℕ → List Place
level_cells h w r = tabulate (4 * (w * h)) (λ j. entry_at h w r (j / h / w) (j % h) (j / h % w))

-- what is left of the present level, and in all
abbrev pub level_left : Front → List Place
level_left k = drop k.from (level_cells k.height k.width k.level)

unfoldable pub left_from : ℕ → Front → List Place
left_from zero k = []
left_from (suc R) k = level_left k ++ levels_from entry_at 0 1 k.level R (k.height / 2) (k.width / 2)

abbrev pub places_left : Front → List Place
places_left k = left_from k.left k

-- the line is of a place that is left in the present level
abbrev pub is_ahead : Five → Front → Bool
is_ahead f k =
    eqb f.first k.level
    && (leb f.second 3
    && (ltb f.third k.height
    && (ltb f.fourth k.width
    && leb k.from (level_number k.height k.width f))))

-- a walk at a cell of the present level, at the line's place, and the front behind it
abbrev pub walk_at : Front → ℕ → ℕ → ℕ → Walk
walk_at k b y x = record { level = k.level; left = k.left; band = b; row = y; col = x; height = k.height; width = k.width; low = 0; first = 1 }

abbrev pub walk_to : Front → Five → Walk
walk_to k f = walk_at k f.second f.third f.fourth

abbrev pub past_line : Front → Five → Front
past_line k f = record { level = k.level; left = k.left; height = k.height; width = k.width; from = level_number k.height k.width f + 1 }

-- the front stands in a plane of height h and width w
abbrev pub Standing : ℕ → ℕ → Front → Type 0
Standing h w k = Inside h w (walk_at k 0 0 0)

-- The rest of the present level is behind it.
pub record LevelPassed (h w : ℕ) (k k' : Front) : Type 0 where
  pub standing : Standing h w k'
  pub fewer : k'.left < k.left
  pub all : places_left k ≡ level_left k ++ places_left k'

-- From k to k' it passes no place of the line.
pub record Skipped (h w : ℕ) (f : Five) (k k' : Front) : Type 0 where
  pub standing : Standing h w k'
  pub places : List Place
  pub all : places_left k ≡ places ++ places_left k'
  pub others : every (λ p. not (is_of f p)) places ≡ true

-- So it comes to the level of the line's place, or past the last level.
pub record Sought (h w : ℕ) (f : Five) (k k' : Front) : Type 0 where
  pub skipped : Skipped h w f k k'
  pub found : 0 < k'.left → is_ahead f k' ≡ true
