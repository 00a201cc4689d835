-- The starred examples of document 01, "Reckoned by hand", as one table: what the definitions give, and what was reckoned. Assumes nothing.
use Rattle.std.specs.Prelude.{◌≡◌, List, [], ◌∷◌, ◌++◌, map, ℕ, ◌+◌, ◌*◌, ◌-◌, get_or, take, replicate, ℤ, pos, neg_ℤ}
use Rattle.coverings.specs.Words.{words, word_of}
use Rattle.block.specs.Block.{cost_of, shapes_of, labels_of, pick}
use Rattle.pyramid.specs.Plane.{block_of}
use Rattle.pyramid.specs.Places.{place_at}
use Rattle.quota.specs.Quota.{rank_of, kept_of, cut_of}
use Rattle.pyramid.specs.Slices.{image_of, picture_of, covers_of, plane_of, numerators_of, samples_of}
use Rattle.quota.specs.Claims.{distance_of}

-- A row: the definitions' numbers, and those reckoned.
pub record Row : Type 0 where
  pub given : List ℤ
  pub reckoned : List ℤ

abbrev pub row : List ℤ → List ℤ → Row
row g r = record { given = g; reckoned = r }

abbrev pub numbers : List ℕ → List ℤ
numbers l = map pos l

-- Pictures of 4 by 4 samples, down columns.
abbrev pub flat_picture : List ℕ
flat_picture = replicate 16 7

abbrev pub rows_picture : List ℕ
rows_picture = 0 ∷ 10 ∷ 20 ∷ 30 ∷ 0 ∷ 10 ∷ 20 ∷ 30 ∷ 0 ∷ 10 ∷ 20 ∷ 30 ∷ 0 ∷ 10 ∷ 20 ∷ 30 ∷ []

abbrev pub dot : ℕ → List ℕ
dot n = replicate n 0 ++ (1 ∷ replicate (15 - n) 0)

-- A block's values and its covering.
abbrev pub values : List ℕ → ℕ → ℤ
values s = block_of (picture_of 4 s) 0 0

abbrev pub covering : List ℕ → ℕ
covering s = pick [] (values s)

-- W1, W2 and W3 of the piece with label 0, where they stand in the plane of one level: W1 upper right, W2 lower left, W3 lower right.
abbrev pub wavelets : List ℕ → List ℤ
wavelets s = let p = plane_of 1 4 4 s in get_or p (2 * 4 + 0) (pos 0) ∷ get_or p (0 * 4 + 2) (pos 0) ∷ get_or p (2 * 4 + 2) (pos 0) ∷ []

-- Restoring what Keep 1 leaves of the dot.
abbrev pub dot_kept : List ℤ
dot_kept = kept_of 1 4 4 1 (plane_of 1 4 4 (dot 0))

-- A plane of 8 by 8 and two levels, all 0 but a W1 of level 2, which is 5, in column 2, row 0, and a W1 of level 1, which is 3, in column 4, row 0.
abbrev pub two_levels : List ℤ
two_levels = numbers (replicate 16 0 ++ (5 ∷ replicate 15 0) ++ (3 ∷ replicate 31 0))

unfoldable pub table : List Row
table =
    -- covering 1, covering 117
    row (numbers (word_of 1)) (numbers (0 ∷ 0 ∷ 0 ∷ 0 ∷ 1 ∷ 1 ∷ 1 ∷ 1 ∷ 2 ∷ 2 ∷ 2 ∷ 2 ∷ 3 ∷ 3 ∷ 3 ∷ 3 ∷ [])) ∷
    row (numbers (word_of 117)) (numbers (0 ∷ 1 ∷ 2 ∷ 3 ∷ 0 ∷ 1 ∷ 2 ∷ 3 ∷ 0 ∷ 1 ∷ 2 ∷ 3 ∷ 0 ∷ 1 ∷ 2 ∷ 3 ∷ [])) ∷
    -- flat block: covering 1, labels 0 1 2 3
    row (let c = covering flat_picture in numbers (c ∷ labels_of (word_of c))) (numbers (1 ∷ 0 ∷ 1 ∷ 2 ∷ 3 ∷ [])) ∷
    -- rows 0, 10, 20, 30: covering 117, labels 0 2 1 3; low square rows 0 40 and 80 120, down columns
    row (let c = covering rows_picture in numbers (c ∷ labels_of (word_of c))) (numbers (117 ∷ 0 ∷ 2 ∷ 1 ∷ 3 ∷ [])) ∷
    row (let p = plane_of 1 4 4 rows_picture in get_or p 0 (pos 0) ∷ get_or p 4 (pos 0) ∷ get_or p 1 (pos 0) ∷ get_or p 5 (pos 0) ∷ []) (numbers (0 ∷ 40 ∷ 80 ∷ 120 ∷ [])) ∷
    -- only cell (0, 0) is 1: every cost is 3; covering 1; W 1, 1, 1. Only (1, 0) is 1: W 1, -1, -1
    row (numbers (map (λ w. cost_of (shapes_of w) (values (dot 0))) words)) (numbers (replicate 117 3)) ∷
    row (pos (covering (dot 0)) ∷ wavelets (dot 0)) (numbers (1 ∷ 1 ∷ 1 ∷ 1 ∷ [])) ∷
    row (wavelets (dot 1)) (pos 1 ∷ neg_ℤ (pos 1) ∷ neg_ℤ (pos 1) ∷ []) ∷
    -- only (0, 0) is 1, R = 1, K = 1: numerators of column 0 are 2 2 0 0, samples 1 1 0 0, squared distance 8
    row (let cs = covers_of 1 4 4 (dot 0) in let q = dot_kept in take 4 (numerators_of 1 4 4 cs q)) (numbers (2 ∷ 2 ∷ 0 ∷ 0 ∷ [])) ∷
    row (let cs = covers_of 1 4 4 (dot 0) in let q = dot_kept in numbers (take 4 (samples_of 1 4 4 cs q))) (numbers (1 ∷ 1 ∷ 0 ∷ 0 ∷ [])) ∷
    row (let cs = covers_of 1 4 4 (dot 0) in let q = dot_kept in pos (distance_of 1 4 4 cs (dot 0) q) ∷ []) (pos 8 ∷ []) ∷
    -- R = 2: level-1 W 3 ranks 6, before level-2 W 5: Keep 1 leaves the 3 and drops the 5
    row (let P = image_of 8 two_levels in numbers (rank_of 2 P (place_at 8 8 1 1 0 0) ∷ rank_of 2 P (place_at 4 4 2 1 0 0) ∷ [])) (numbers (6 ∷ 5 ∷ [])) ∷
    row (kept_of 2 8 8 1 two_levels) (numbers (replicate 32 0 ++ 3 ∷ replicate 31 0)) ∷
    -- level 1, T = 1: W 2 stays, 1 goes
    row (take 4 (cut_of 1 4 4 1 (numbers (9 ∷ 9 ∷ 2 ∷ 1 ∷ replicate 12 0)))) (numbers (9 ∷ 9 ∷ 2 ∷ 0 ∷ [])) ∷
    []

-- Each row agrees.
abbrev pub Agrees : List Row → Type 0
Agrees [] = Unit {0}
Agrees (r ∷ rs) = (r.given ≡ r.reckoned) × Agrees rs
