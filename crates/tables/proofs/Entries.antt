-- What the tables of the kernel have at each entry, by computed tests over the words. Assumes nothing.
use mathlib.Core.Path.{◌≡◌, ap, ◌∙◌}
use mathlib.Core.Bool.{Bool, ◌&&◌}
use mathlib.Core.List.{List, [], ◌∷◌, ◌++◌, map}
use Prim.Native.Nat.{ℕ, zero, suc, ◌+◌, ◌*◌, ◌-◌, ◌/◌, ◌%◌, ◌<◌}
use native.Mathlib.Nat.{not-suc-le-zero, le_of_suc-le-suc, zero-mul, suc-mul}
use native.Mathlib.Omega.{arith}
use lib.Dec.{T, eqb, eqb→eq}
use lib.ListN.{length, get_or, get_or-append}
use lib.Seq.{get_or-append-add}
use Rattle.integers.specs.Lists.{every}
use Rattle.integers.proofs.Tests.{both_left, both_right, up_to, up_to_at, every_at}
use Rattle.integers.proofs.Tabulate.{length_tabulate, get_d_tabulate}
use Rattle.integers.proofs.Index.{column_row, column_col}
use Rattle.coverings.specs.Block.{name_of}
use Rattle.coverings.specs.Words.{words, word_of, joined}
use Rattle.coverings.specs.Rule.{Number}
use Rattle.coverings.proofs.Table.{count}
use Rattle.block.specs.Block.{shapes_of, place_in, place_of, labels_of}
use Rattle.tables.specs.Tables.{piece_of, labelled_cell, labelled_cells, cell_table, cell_at}
use Rattle.block.proofs.Words.{label_in, good}
use Rattle.block.proofs.Pick.{shape_below}

-- lists of one length, one after the other
pub joined_map : (m : ℕ) (g : List ℕ → List ℕ) → ((w : List ℕ) → length (g w) ≡ m) → (ws : List (List ℕ)) (i j : ℕ) → i < length ws → j < m
    → get_or (joined (map g ws)) (i * m + j) 0 ≡ get_or (g (get_or ws i [])) j 0
joined_map m g e [] i j h l = absurd (not-suc-le-zero h)
joined_map m g e (w ∷ ws) zero j h l =
    let k : 0 * m + j ≡ j = omega (arith, zero-mul m) in
    ap (λ (n : ℕ). get_or (g w ++ joined (map g ws)) n 0) k ∙ get_or-append (g w) (joined (map g ws)) 0 j (omega (arith, e w))
joined_map m g e (w ∷ ws) (suc i) j h l =
    let k : suc i * m + j ≡ length (g w) + (i * m + j) = omega (arith, suc-mul i m, e w) in
    ap (λ (n : ℕ). get_or (g w ++ joined (map g ws)) n 0) k ∙ get_or-append-add (g w) (joined (map g ws)) (i * m + j) 0 ∙ joined_map m g e ws i j (le_of_suc-le-suc h) l

-- ---- the labelled cells
pub cell_entry : (n k : ℕ) → Number n → k < 16 → get_or cell_table ((n - 1) * 16 + k) 0 ≡ cell_at n k
unfolding word_of cell_table cell_at
cell_entry n k h l =
    joined_map 16 labelled_cells (λ w. length_tabulate 16 (labelled_cell w (labels_of w))) words (n - 1) k (omega (arith, count)) l
    ∙ get_d_tabulate 16 (labelled_cell (word_of n) (labels_of (word_of n))) 0 k l

pub cell_below : (n k : ℕ) → cell_at n k < 16
unfolding cell_at
cell_below n k = shape_below (shapes_of (word_of n) (place_in (k / 4) (labels_of (word_of n)))) (k % 4)

pub cell_of_law : (n s i : ℕ) → i < 4 → cell_at n (s * 4 + i) ≡ get_or (piece_of (word_of n) (place_in s (labels_of (word_of n)))) i 0
unfolding cell_at
cell_of_law n s i h = rw (column_col s i 4 h, column_row s i 4 h)

-- the number of a cell among the labelled cells
abbrev number_in : List ℕ → List ℕ → ℕ → ℕ
number_in w l a = label_in l (name_of w a) * 4 + place_of w a

abbrev numbered : List ℕ → List ℕ → ℕ → Bool
numbered w l k = eqb (number_in w l (labelled_cell w l k)) k && eqb (labelled_cell w l (number_in w l k)) k

all_numbered : T (every (λ w. let l = labels_of w in up_to 16 (numbered w l)) words)
unfolding words labels_of
all_numbered = tt

unfoldable pub number_of : ℕ → ℕ → ℕ
number_of n a = number_in (word_of n) (labels_of (word_of n)) a

test_at : (n k : ℕ) → Number n → k < 16 → T (numbered (word_of n) (labels_of (word_of n)) k)
unfolding word_of
test_at n k h l = up_to_at 16 (numbered (word_of n) (labels_of (word_of n))) (every_at (λ w. up_to 16 (numbered w (labels_of w))) words [] all_numbered (n - 1) (omega (arith, count))) k l

pub number_cell : (n k : ℕ) → Number n → k < 16 → number_of n (cell_at n k) ≡ k
unfolding cell_at number_of
number_cell n k h l = eqb→eq _ _ (both_left (eqb (number_of n (cell_at n k)) k) _ (test_at n k h l))

pub cell_number : (n a : ℕ) → Number n → a < 16 → cell_at n (number_of n a) ≡ a
unfolding cell_at number_of
cell_number n a h l = eqb→eq _ _ (both_right (eqb (number_of n (cell_at n a)) a) _ (test_at n a h l))

pub number_below : (n a : ℕ) → Number n → a < 16 → number_of n a < 16
unfolding number_of
number_below n a h l = let g = good n h in let p = g.cells.named a l in omega (arith, g.cells.placed a l, g.labels.below (name_of (word_of n) a) p)
