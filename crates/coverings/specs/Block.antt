-- The block of sixteen cells, its tetrominoes (document 01's pieces), and its cuttings into four of them. Assumes nothing.
use Rattle.std.specs.Prelude.{◌≡◌, ◌↔◌, Bool, true, false, ◌&&◌, ◌||◌, List, [], ◌∷◌, ℕ, suc, ◌<◌, ◌/◌, ◌%◌, T, eqb, length, get_or}

-- Document 01: "A cell's index is 4 times col plus row". The cells of the block, by their indices.
abbrev pub cells : List ℕ
cells = 0 ∷ 1 ∷ 2 ∷ 3 ∷ 4 ∷ 5 ∷ 6 ∷ 7 ∷ 8 ∷ 9 ∷ 10 ∷ 11 ∷ 12 ∷ 13 ∷ 14 ∷ 15 ∷ []

abbrev pub row : ℕ → ℕ
row a = a % 4

abbrev pub col : ℕ → ℕ
col a = a / 4

-- One number is one more than the other.
abbrev pub next : ℕ → ℕ → Bool
next m n = eqb (suc m) n || eqb (suc n) m

-- "joined edge to edge". Two cells lie edge to edge: in one column and in rows next to one another, or in one row and in columns next to one another.
abbrev pub beside : ℕ → ℕ → Bool
beside a b = (eqb (col a) (col b) && next (row a) (row b)) || (eqb (row a) (row b) && next (col a) (col b))

-- The entries of a list that are in a set. A set of numbers is a test that its members pass.
abbrev pub with_if : Bool → ℕ → List ℕ → List ℕ
with_if true x xs = x ∷ xs
with_if false x xs = xs

abbrev pub filter : (ℕ → Bool) → List ℕ → List ℕ
filter s [] = []
filter s (x ∷ xs) = with_if (s x) x (filter s xs)

-- A walk from the cell a inside a set of cells: each step goes to a cell of the set that lies edge to edge with the one before.
pub data Walk (s : ℕ → Bool) (a : ℕ) : ℕ → Type 0 where
  stay : Walk s a a
  step : {b : ℕ} (c : ℕ) → Walk s a b → c < 16 → T (s c) → T (beside b c) → Walk s a c

-- Document 01: "A piece is four cells joined edge to edge as a whole." From each of its cells a walk inside the set leads to each; that every cell has a
-- neighbour in the set is not enough, since two separate dominoes have that.
pub record Tetromino (s : ℕ → Bool) : Type 0 where
  pub four : length (filter s cells) ≡ 4
  pub joined : (a b : ℕ) → a < 16 → b < 16 → T (s a) → T (s b) → Walk s a b

-- The cells that are in one part with c, where each cell has the name of its part.
abbrev pub part : (ℕ → ℕ) → ℕ → ℕ → Bool
part name c a = eqb (name a) (name c)

-- Document 01: "A covering cuts the 16 cells into four pieces." A cutting under any names: the cells that share a cell's name are a piece. There are then
-- four parts, since each has four of the sixteen cells.
abbrev pub Cutting : (ℕ → ℕ) → Type 0
Cutting name = (c : ℕ) → c < 16 → Tetromino (part name c)

-- The same with no names: four shapes, each a set of cells that is a piece, and each cell is in one of them and in no other.
pub record Shapes (shape : ℕ → ℕ → Bool) : Type 0 where
  pub pieces : (k : ℕ) → k < 4 → Tetromino (shape k)
  pub covered : (a : ℕ) → a < 16 → (k : ℕ) × (k < 4) × T (shape k a)
  pub disjoint : (a j k : ℕ) → a < 16 → j < 4 → k < 4 → T (shape j a) → T (shape k a) → j ≡ k

-- Two namings cut the block into the same parts: cells that share a name in one share a name in the other.
abbrev pub Same : (ℕ → ℕ) → (ℕ → ℕ) → Type 0
Same f g = (a b : ℕ) → a < 16 → b < 16 → (f a ≡ f b) ↔ (g a ≡ g b)

-- The name that a word has for a cell.
abbrev pub name_of : List ℕ → ℕ → ℕ
name_of w c = get_or w c 0

-- The cell a is the smallest of its part.
abbrev pub Smallest : List ℕ → ℕ → Type 0
Smallest w a = (b : ℕ) → b < a → ¬ (name_of w b ≡ name_of w a)

-- Document 01: "A covering's word lists, for cells 0 to 15, the piece of each; pieces are called 0, 1, 2, 3 in the order of their smallest cells."
pub record Canonical (w : List ℕ) : Type 0 where
  pub sixteen : length w ≡ 16
  pub cuts : Cutting (name_of w)
  pub names : (a : ℕ) → a < 16 → name_of w a < 4
  pub in_order : (a b : ℕ) → a < 16 → b < 16 → Smallest w a → Smallest w b → a < b → name_of w a < name_of w b

-- "rising order of words compared as digit strings": at the first place where they differ, the first word has the lesser digit.
pub record Before (v w : List ℕ) : Type 0 where
  pub place : ℕ
  pub inside : place < 16
  pub equal : (b : ℕ) → b < place → name_of v b ≡ name_of w b
  pub less : name_of v place < name_of w place
