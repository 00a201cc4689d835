-- The tables that the kernel of one block reads, each defined from the words of the coverings. Assumes nothing.
use Rattle.std.specs.Prelude.{Bool, true, false, List, [], ◌∷◌, map, ℕ, suc, ◌+◌, ◌*◌, ◌/◌, ◌%◌, eqb, ltb, get_or}
use Rattle.integers.specs.Lists.{tabulate}
use Rattle.coverings.specs.Block.{cells, filter}
use Rattle.coverings.specs.Words.{words, word_of, joined}
use Rattle.block.specs.Block.{shapes_of, place_in, labels_of}

-- The cells of a covering's piece p, in rising order: a placement of a tetromino.
abbrev pub piece_of : List ℕ → ℕ → List ℕ
piece_of w p = filter (shapes_of w p) cells

abbrev pub pieces_of : List ℕ → List (List ℕ)
pieces_of w = piece_of w 0 ∷ piece_of w 1 ∷ piece_of w 2 ∷ piece_of w 3 ∷ []

-- The sixteen cells of a word by labels l: at 4 * s + i the i-th cell of the piece with label s.
abbrev pub labelled_cell : List ℕ → List ℕ → ℕ → ℕ
labelled_cell w l k = get_or (piece_of w (place_in (k / 4) l)) (k % 4) 0

abbrev pub labelled_cells : List ℕ → List ℕ
labelled_cells w = let l = labels_of w in tabulate 16 (labelled_cell w l)

-- The cell of covering n at k = 4 * s + i: the i-th of the piece with label s.
unfoldable pub cell_at : ℕ → ℕ → ℕ
cell_at n k = labelled_cell (word_of n) (labels_of (word_of n)) k

-- The 1,872 numbers of the table of cells: the labelled cells of each covering.
unfoldable pub cell_table : List ℕ
cell_table = joined (map labelled_cells words)

-- The order of lists of cells: at the first entry in which they differ.
abbrev pub before : List ℕ → List ℕ → Bool
before [] m = false
before (x ∷ l) [] = false
before (x ∷ l) (y ∷ m) = elim (eqb x y) [ true ↦ before l m | false ↦ ltb x y ]

-- A list of cells put in its place among lists that rise, once.
abbrev pub insert : List ℕ → List (List ℕ) → List (List ℕ)
insert l [] = l ∷ []
insert l (m ∷ ms) = elim (before l m) [ true ↦ l ∷ m ∷ ms | false ↦ elim (before m l) [ true ↦ m ∷ insert l ms | false ↦ m ∷ ms ] ]

abbrev pub insert_all : List (List ℕ) → List (List ℕ) → List (List ℕ)
insert_all [] ms = ms
insert_all (l ∷ ls) ms = insert_all ls (insert l ms)

abbrev pub insert_pieces : List (List ℕ) → List (List ℕ) → List (List ℕ)
insert_pieces [] ms = ms
insert_pieces (w ∷ ws) ms = insert_pieces ws (insert_all (pieces_of w) ms)

-- The 89 placements of a tetromino that occur in the coverings, each once, rising.
unfoldable pub placement_list : List (List ℕ)
placement_list = insert_pieces words []

-- Their cells one after the other: placement k has the four from 4 * k on.
unfoldable pub placement_table : List ℕ
placement_table = joined placement_list

-- The place of a list of cells among lists that rise.
abbrev pub place_among : List ℕ → List (List ℕ) → ℕ
place_among l [] = 0
place_among l (m ∷ ms) = elim (before m l) [ true ↦ suc (place_among l ms) | false ↦ 0 ]

-- The 468 numbers of the placements of each covering's four pieces.
unfoldable pub four_table : List ℕ
four_table = joined (map (λ w. map (λ l. place_among l placement_list) (pieces_of w)) words)
