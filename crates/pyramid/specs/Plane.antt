-- Images, planes and levels: decomposing by given coverings, the choice of the coverings, and the numerators of a plane.
-- An image, and a plane, is a function of the row and the column. Its height h and its width w are given beside it, with R levels to go.
-- Coverings are a function of the block's number: blocks in column order, level by level. Assumes nothing.
use Rattle.std.specs.Prelude.{◌≡◌, cond, List, [], ◌∷◌, ◌++◌, ℕ, zero, suc, ◌+◌, ◌*◌, ◌-◌, ◌/◌, ◌%◌, ◌^◌, ◌<◌, ltb, get_or, ℤ, pos, ◌*ℤ◌}
use Rattle.coverings.specs.Words.{word_of}
use Rattle.coverings.specs.Rule.{Number}
use Rattle.block.specs.Block.{forward, inverse, pick}
use Rattle.terms.specs.Terms.{Terms, at_level, pick_terms}

abbrev pub Image : Type 0
Image = ℕ → ℕ → ℤ

-- Each of R levels halves sides that are whole blocks.
abbrev pub Fits : ℕ → ℕ → ℕ → Type 0
Fits zero h w = Unit {0}
Fits (suc R) h w = (h % 4 ≡ 0) × (w % 4 ≡ 0) × Fits R (h / 2) (w / 2)

-- Document 01: "Level r works on the low-pass square of side N/2^(r-1)"; document 02, wish 2: "Level r has height/2^(r+1) times width/2^(r+1) blocks." The blocks of
-- an h by w image.
abbrev pub blocks : ℕ → ℕ → ℕ
blocks h w = (w / 4) * (h / 4)

-- The blocks of R levels.
abbrev pub all_blocks : ℕ → ℕ → ℕ → ℕ
all_blocks zero h w = 0
all_blocks (suc R) h w = blocks h w + all_blocks R (h / 2) (w / 2)

-- What R levels leave of a side.
abbrev pub halved : ℕ → ℕ → ℕ
halved zero h = h
halved (suc R) h = halved R (h / 2)

-- The first n coverings are numbers of coverings.
abbrev pub Numbers : ℕ → (ℕ → ℕ) → Type 0
Numbers n cs = (k : ℕ) → k < n → Number (cs k)

-- The sixteen values of the block in block row i, block column j, by cell index.
abbrev pub block_of : Image → ℕ → ℕ → ℕ → ℤ
block_of A i j k = A (i * 4 + k % 4) (j * 4 + k / 4)

-- The word of that block's covering.
abbrev pub word_at : ℕ → (ℕ → ℕ) → ℕ → ℕ → List ℕ
word_at h cs i j = word_of (cs (j * (h / 4) + i))

-- The coverings behind the first n.
abbrev pub after : ℕ → (ℕ → ℕ) → ℕ → ℕ
after n cs k = cs (n + k)

-- One level: band b at row y, column x. "Label s goes to row s mod 2, column s div 2 of the block's 2 by 2 result", which "fills rows 2i and 2i+1, columns
-- 2j and 2j+1 of its band".
abbrev pub bands_of : ℕ → (ℕ → ℕ) → Image → ℕ → Image
bands_of h cs A b y x = forward (word_at h cs (y / 2) (x / 2)) (block_of A (y / 2) (x / 2)) b (x % 2 * 2 + y % 2)

-- "low upper left, W1 upper right, W2 lower left, W3 lower right": where the bands 0 to 3 begin.
abbrev pub top : ℕ → ℕ → ℕ
top h zero = 0
top h (suc zero) = 0
top h (suc (suc b)) = h / 2

abbrev pub left : ℕ → ℕ → ℕ
left w zero = 0
left w (suc zero) = w / 2
left w (suc (suc zero)) = 0
left w (suc (suc (suc b))) = w / 2

-- The band b of a plane, and the plane with the bands B.
abbrev pub band : {A : Type 0} → ℕ → ℕ → (ℕ → ℕ → A) → ℕ → ℕ → ℕ → A
band h w P b y x = P (top h b + y) (left w b + x)

abbrev pub layout : {A : Type 0} → ℕ → ℕ → (ℕ → ℕ → ℕ → A) → ℕ → ℕ → A
layout h w B y x =
    cond (ltb y (h / 2))
    (cond (ltb x (w / 2)) (B 0 y x) (B 1 y (x - w / 2)))
    (cond (ltb x (w / 2)) (B 2 (y - h / 2) x) (B 3 (y - h / 2) (x - w / 2)))

-- The bands B with another band 0.
abbrev pub with_low : {A : Type 0} → (ℕ → ℕ → A) → (ℕ → ℕ → ℕ → A) → ℕ → ℕ → ℕ → A
with_low L B zero = L
with_low L B (suc b) = B (suc b)

-- "Its results replace that square": the plane of an image by given coverings; the other levels work on the low-pass of the first.
unfoldable pub analyse : ℕ → ℕ → ℕ → (ℕ → ℕ) → Image → Image
analyse zero h w cs A = A
analyse (suc R) h w cs A =
    layout h w (with_low (analyse R (h / 2) (w / 2) (after (blocks h w) cs) (bands_of h cs A 0)) (bands_of h cs A))

-- The values that one level of bands gives back, four times what the bands came from.
abbrev pub merge_of : ℕ → (ℕ → ℕ) → (ℕ → Image) → Image
merge_of h cs B y x =
    inverse (word_at h cs (y / 4) (x / 4)) (λ b s. B b (y / 4 * 2 + s % 2) (x / 4 * 2 + s / 2)) (x % 4 * 4 + y % 4)

-- Document 01, "Restoring": "W of level r first counts 4^(R-r) times; nothing is divided." Of suc R levels the first one's W counts 4 ^ R times.
unfoldable pub numerators : ℕ → ℕ → ℕ → (ℕ → ℕ) → Image → Image
numerators zero h w cs P = P
numerators (suc R) h w cs P =
    merge_of h cs (with_low (numerators R (h / 2) (w / 2) (after (blocks h w) cs) P) (λ b y x. pos (4 ^ R) *ℤ band h w P b y x))

-- A rule of choice: the covering of a block, from the coverings chosen earlier and the block's values.
abbrev pub Chooser : Type 0
Chooser = List ℕ → (ℕ → ℤ) → ℕ

-- The same rule where the coverings `before` were chosen earlier still.
abbrev pub following : List ℕ → Chooser → Chooser
following before choose here v = choose (before ++ here) v

-- "Blocks run in column order." The coverings chosen for the first n blocks of an image, each after those of the blocks before it.
unfoldable pub chosen_to : Chooser → ℕ → Image → ℕ → List ℕ
chosen_to choose h A zero = []
chosen_to choose h A (suc n) =
    let here = chosen_to choose h A n in
    here ++ (choose here (block_of A (n % (h / 4)) (n / (h / 4))) ∷ [])

-- The coverings as a list gives them.
abbrev pub listed : List ℕ → ℕ → ℕ
listed l k = get_or l k 0

-- "Coverings are listed by level": those of the next level, then those that its low-pass gives. Document 02, wish 5: a tie is settled by "how often a covering
-- was chosen in all earlier blocks of the picture, level 1 first". Behind the first d levels, whose coverings are `before`, by a rule for each level.
unfoldable pub covers_after : (ℕ → Chooser) → ℕ → List ℕ → ℕ → ℕ → ℕ → Image → List ℕ
covers_after rule d before zero h w A = []
covers_after rule d before (suc R) h w A =
    let first = chosen_to (following before (rule (suc d))) h A (blocks h w) in
    first ++ covers_after rule (suc d) (before ++ first) R (h / 2) (w / 2) (bands_of h (listed first) A 0)

-- The coverings of a picture: `pick` is the rule of every level.
abbrev pub covers : ℕ → ℕ → ℕ → Image → List ℕ
covers R h w A = covers_after (λ r. pick) 0 [] R h w A

-- Document 02, wishes 6 and 7: the coverings of a picture on terms, "whose cost at level r is at most the least plus t times 2^r", where "the least cost is
-- the least in the list": each level has its own rule.
abbrev pub covers_on : Terms → ℕ → ℕ → ℕ → Image → List ℕ
covers_on t R h w A = covers_after (λ r. pick_terms (at_level r t)) 0 [] R h w A
