-- The published transform, document 000: the Haar matrix with its factor 1/2, the cost of a covering, the choice and the relaxed choice of section 5 (b), the
-- reshape, and the levels. The paper's numbers have halves. Here the picture is counted in units so small that every half is a whole number: of R levels, the
-- picture times 2 ^ R in units of 1 / 2 ^ R; the tolerance theta is counted in the same units. That no half is ever rounded is the law `Exact` of Laws.antt.
-- What the paper leaves open is document 01's: the numbers of the coverings, the last rule of ties, and which of several best labellings is taken
-- (`labels_of`); and document 02's: that previous blocks are those of the whole picture. Assumes nothing.
use Rattle.std.specs.Prelude.{Bool, ◌&&◌, ◌||◌, not, cond, List, [], ◌∷◌, ◌++◌, map, ℕ, zero, suc, ◌+◌, ◌/◌, ◌%◌, eqb, leb, ltb, length, get_or, ℤ, pos, neg_ℤ, nat_abs, ◌*ℤ◌}
use Rattle.std.specs.Int.Signed.{shr_z}
use Rattle.integers.specs.Sum.{Σℤ, Σℕ}
use Rattle.integers.specs.Lists.{tabulate, every}
use Rattle.coverings.specs.Block.{name_of}
use Rattle.coverings.specs.Words.{word_of}
use Rattle.block.specs.Block.{values_of, shapes_of, place_in, labels_of, count_in}
use Rattle.pyramid.specs.Plane.{Image, Chooser, blocks, block_of, word_at, after, listed}
use Rattle.pyramid.specs.Places.{Place, tetrolet_places}

-- The picture in units of which c make one of its own.
abbrev pub times : ℕ → Image → Image
times c A y x = pos c *ℤ A y x

-- (2.3): the signs of the Haar wavelet transform matrix W, row by row; the matrix is half of them.
abbrev pub signs : List (List ℤ)
signs =
    (pos 1 ∷ pos 1 ∷ pos 1 ∷ pos 1 ∷ [])
    ∷ (pos 1 ∷ pos 1 ∷ neg_ℤ (pos 1) ∷ neg_ℤ (pos 1) ∷ [])
    ∷ (pos 1 ∷ neg_ℤ (pos 1) ∷ pos 1 ∷ neg_ℤ (pos 1) ∷ [])
    ∷ (pos 1 ∷ neg_ℤ (pos 1) ∷ neg_ℤ (pos 1) ∷ pos 1 ∷ [])
    ∷ []

-- Twice the entry ε[l, m] of W.
abbrev pub sign : ℕ → ℕ → ℤ
sign l m = get_or (get_or signs l []) m (pos 0)

-- The sum of four values x 0 to x 3 with the signs of row l.
abbrev pub signed : ℕ → (ℕ → ℤ) → ℤ
signed l x = Σℤ 4 (λ m. sign l m *ℤ x m)

-- "we order the values J by size and map them to {0, 1, 2, 3}": L of the cell a, how many cells of its piece have a smaller index. Indices run down the
-- columns of the block, as J does, and the word w gives the piece of each cell.
abbrev pub order_in : List ℕ → ℕ → ℕ
order_in w a = Σℕ a (λ b. cond (eqb (name_of w b) (name_of w a)) 1 0)

-- (3.1) and (3.2) to the letter, but for the half of ε: over the cells of piece p, the sum of ε[l, L(m,n)] a[m,n].
abbrev pub over_piece : List ℕ → (ℕ → ℤ) → ℕ → ℕ → ℤ
over_piece w v l p = Σℤ 16 (λ a. cond (eqb (name_of w a) p) (sign l (order_in w a) *ℤ v a) (pos 0))

-- The factor 1/2 of (2.3). `shr_z z 2` is z over 2, rounded down.
abbrev pub half : ℤ → ℤ
half z = shr_z z 2

-- (3.1) at l = 0 and (3.2) at l = 1, 2, 3, by the four values of the piece p in the order of L: "the smallest index is identified with the value 0, while
-- the largest with 3". That it is half of `over_piece` for each covering is the law `equations`.
unfoldable pub coefficient : List ℕ → (ℕ → ℤ) → ℕ → ℕ → ℤ
coefficient w v l p = half (signed l (values_of (shapes_of w p) v))

-- (3.3): "the l1-norm of the 12 tetrolet coefficients".
unfoldable pub published_cost : List ℕ → (ℕ → ℤ) → ℕ
published_cost w v = Σℕ 3 (λ l. Σℕ 4 (λ p. nat_abs (coefficient w v (suc l) p)))

-- "we choose the covering such that the l1-norm becomes minimal"; "if the optimal covering is not unique, then we take the tiling that has already been
-- chosen most frequently in the previous blocks": n goes before m.
abbrev pub published_beats : List ℕ → (ℕ → ℤ) → ℕ → ℕ → Bool
published_beats earlier v n m =
    let new = published_cost (word_of n) v in
    let old = published_cost (word_of m) v in
    ltb new old || (eqb new old && ltb (count_in m earlier) (count_in n earlier))

-- The choice among 1 to suc n by an order, where a later one replaces only what it goes before.
abbrev pub first_of : (ℕ → ℕ → Bool) → ℕ → ℕ
first_of before zero = 1
first_of before (suc n) = let m = first_of before n in cond (before (suc (suc n)) m) (suc (suc n)) m

-- The choice among "the 117 admissible tetromino coverings"; what the paper leaves open goes to the lowest number (document 01).
unfoldable pub published_choice : List ℕ → (ℕ → ℤ) → ℕ
published_choice earlier v = first_of (published_beats earlier v) 116

-- Section 5 (b), step 1: "Find the set A' ⊂ A of almost optimal configurations c", whose norm is at most the minimum of (3.3) plus θ, "with a predetermined
-- tolerance parameter θ": n is in the set if it costs at most theta more than each of the 117.
unfoldable pub almost : ℕ → (ℕ → ℤ) → ℕ → Bool
almost theta v n = every (λ m. leb (published_cost (word_of n) v) (published_cost (word_of m) v + theta)) (tabulate 117 suc)

-- Step 2: "Among these tilings take the covering c* ∈ A' which is chosen most frequently in the previous image blocks": n goes before m. Among them the cost
-- does not count.
abbrev pub relaxed_beats : ℕ → List ℕ → (ℕ → ℤ) → ℕ → ℕ → Bool
relaxed_beats theta earlier v n m = almost theta v n && (not (almost theta v m) || ltb (count_in m earlier) (count_in n earlier))

-- "we allow the choice of an almost optimal covering c* in (3.3)": of the 117 again; what the paper leaves open goes to the lowest number (document 01).
unfoldable pub relaxed_choice : ℕ → List ℕ → (ℕ → ℤ) → ℕ
relaxed_choice theta earlier v = first_of (relaxed_beats theta earlier v) 116

-- Step 3: the Haar tiling is the four squares, labelled as the matrix (0 2 | 1 3) has them; a labelling's "number of deviations" is that of the cells whose
-- label differs from their square's. That no labelling has fewer than `labels_of` is the law `labels`.
abbrev pub square_label : ℕ → ℕ
square_label a = cond (ltb (a % 4) 2) (cond (ltb (a / 4) 2) 0 2) (cond (ltb (a / 4) 2) 1 3)

abbrev pub deviations : List ℕ → List ℕ → ℕ
deviations w labels = Σℕ 16 (λ a. cond (eqb (get_or labels (name_of w a) 0) (square_label a)) 0 1)

-- Of the covering with the word w: coefficient l of the piece with the label s.
unfoldable pub published_forward : List ℕ → (ℕ → ℤ) → ℕ → ℕ → ℤ
published_forward w v l s = coefficient w v l (place_in s (labels_of w))

-- Step 3, the reshape R: a[0] a[2] in the upper row, a[1] a[3] in the lower.
abbrev pub reshape : (ℕ → ℤ) → ℕ → ℕ → ℤ
reshape a zero zero = a 0
reshape a zero (suc x) = a 2
reshape a (suc y) zero = a 1
reshape a (suc y) (suc x) = a 3

-- One level: the low-pass matrix at l = 0 and the high-pass matrices at l = 1, 2, 3, each of whose 2 by 2 parts is the reshape of one block.
unfoldable pub published_bands : ℕ → (ℕ → ℕ) → Image → ℕ → Image
published_bands h cs A l y x =
    reshape (published_forward (word_at h cs (y / 2) (x / 2)) (block_of A (y / 2) (x / 2)) l) (y % 2) (x % 2)

-- Step 4 and "Apply step 1 to 4 to the low-pass image": the matrix l of level r, a^r at l = 0 and w_l^r at l = 1, 2, 3, by given coverings; level 0 is the
-- image. Each level works on the low-pass matrix of the one before.
unfoldable pub published_level : ℕ → ℕ → ℕ → (ℕ → ℕ) → Image → ℕ → Image
published_level zero h w cs A l = A
published_level (suc zero) h w cs A l = published_bands h cs A l
published_level (suc (suc r)) h w cs A l = published_level (suc r) (h / 2) (w / 2) (after (blocks h w) cs) (published_bands h cs A 0) l

-- The published number at a place, told by level, band, row and column. Where the bands stand in one matrix is document 01's, after 001 (document 000 prints
-- w1 and w2 the other way round): only our plane has it.
abbrev pub published_at : ℕ → ℕ → (ℕ → ℕ) → Image → Place → ℤ
published_at h w cs A p = published_level p.level h w cs A p.band p.row p.col

-- One list holds the coverings of all blocks, and each block adds its own, by a rule of choice: here the first n blocks of a level, in column order. "The
-- previous blocks" are all that the list holds, those of the levels before too (document 02, wish 5).
unfoldable pub published_to : Chooser → List ℕ → ℕ → Image → ℕ → List ℕ
published_to choose previous h A zero = previous
published_to choose previous h A (suc n) =
    let earlier = published_to choose previous h A n in
    earlier ++ (choose earlier (block_of A (n % (h / 4)) (n / (h / 4))) ∷ [])

-- "For each block we have to store the covering that has been chosen": the list after R more levels, level by level. The rule is the same at every level.
unfoldable pub published_from : Chooser → List ℕ → ℕ → ℕ → ℕ → Image → List ℕ
published_from choose previous zero h w A = previous
published_from choose previous (suc R) h w A =
    let chosen = published_to choose previous h A (blocks h w) in
    published_from choose chosen R (h / 2) (w / 2) (published_bands h (after (length previous) (listed chosen)) A 0)

-- At the start it is empty.
abbrev pub published_covers : ℕ → ℕ → ℕ → Image → List ℕ
published_covers R h w A = published_from published_choice [] R h w A

-- Section 5 (b), "we replace (3.3) by the two steps": the relaxed choice, with the same theta at every level.
abbrev pub relaxed_covers : ℕ → ℕ → ℕ → ℕ → Image → List ℕ
relaxed_covers theta R h w A = published_from (relaxed_choice theta) [] R h w A

-- The absolute tetrolet coefficients Q, in plane order.
abbrev pub sizes : ℕ → ℕ → ℕ → (Place → ℤ) → List ℕ
sizes R h w Q = map (λ p. nat_abs (Q p)) (tetrolet_places R h w)

-- "the hard threshold function" S of section 3, and rule (3.6) of document 002.
abbrev pub hard : ℕ → ℤ → ℤ
hard t x = cond (leb t (nat_abs x)) x (pos 0)
