-- The laws of joining, as records. Planes are any whole numbers, of any size: cut planes, and such as no picture gives, are among them. Assumes nothing.
use Rattle.std.specs.Prelude.{◌≡◌, List, ◌++◌, ℕ, suc, ◌+◌, ◌*◌, ◌<◌, ◌≤◌, ℤ, length, get_or}
use Rattle.pyramid.specs.Plane.{Image, Fits, all_blocks, halved, Numbers, listed}
use Rattle.pyramid.specs.Places.{Place, no_place, plane_places, at, BlockPlace, block_at, block_places}
use Rattle.pyramid.specs.Slices.{image_of, plane_with, numerators_of, samples_of}
use Rattle.strips.specs.Join.{joined_covers, joined_of}
use Rattle.strips.specs.Strip.{strip_of, Passes}

-- Among the places l, the entry of level r, band b, row y and column x is z in the plane P.
pub record Entry (l : List Place) (P : Image) (r b y x : ℕ) (z : ℤ) : Type 0 where
  pub number : ℕ
  pub inside : number < length l
  pub level : (get_or l number no_place).level ≡ r
  pub band : (get_or l number no_place).band ≡ b
  pub row : (get_or l number no_place).row ≡ y
  pub col : (get_or l number no_place).col ≡ x
  pub value : at P (get_or l number no_place) ≡ z

-- No block: what a list gives past its end.
abbrev pub no_block : BlockPlace
no_block = block_at 0 0 0

-- Among the blocks l, that of level r, block row i and block column j has the covering c.
pub record Covered (l : List BlockPlace) (cs : List ℕ) (r i j c : ℕ) : Type 0 where
  pub number : ℕ
  pub inside : number < length l
  pub level : (get_or l number no_block).level ≡ r
  pub row : (get_or l number no_block).row ≡ i
  pub col : (get_or l number no_block).col ≡ j
  pub value : listed cs number ≡ c

-- Samples of an h by w picture: so many, none over 4,095.
abbrev pub Samples : ℕ → ℕ → List ℕ → Type 0
Samples h w s = (length s ≡ w * h) × ((k : ℕ) → k < w * h → get_or s k 0 ≤ 4095)

-- Two strips of height h and width w with R levels.
pub record JoinLaws (R h w : ℕ) : Type 0 where
  -- each level of the joined strip is whole blocks, twice as many
  pub fits : Fits R h (w + w)
  pub blocks : all_blocks R h (w + w) ≡ all_blocks R h w + all_blocks R h w
  -- "The joined numerators must be the two sets of numerators side by side, for cut planes too." Slices run down columns, so side by side is one after
  -- the other.
  pub numerators : (p q : List ℤ) (l r : List ℕ) → Numbers (all_blocks R h w) (listed l) → Numbers (all_blocks R h w) (listed r)
      → numerators_of R h (w + w) (joined_covers R h w l r) (joined_of R h w p q) ≡ numerators_of R h w l p ++ numerators_of R h w r q
  pub samples : (p q : List ℤ) (l r : List ℕ) → Numbers (all_blocks R h w) (listed l) → Numbers (all_blocks R h w) (listed r)
      → samples_of R h (w + w) (joined_covers R h w l r) (joined_of R h w p q) ≡ samples_of R h w l p ++ samples_of R h w r q
  -- "Each band": each entry of the left strip has its level, band, row and column in the joined one, each entry of the right strip stands as many columns
  -- further as the left strip's band has
  pub placed : (p q : List ℤ) (n : ℕ) → n < length (plane_places R h w)
      → let e = get_or (plane_places R h w) n no_place in let wide = plane_places R h (w + w) in let P = image_of h (joined_of R h w p q) in
      Entry wide P e.level e.band e.row e.col (at (image_of h p) e) × Entry wide P e.level e.band e.row (halved e.level w + e.col) (at (image_of h q) e)
  -- "and each level's coverings": the same of the blocks
  pub covered : (l r : List ℕ) → length l ≡ all_blocks R h w → length r ≡ all_blocks R h w → (n : ℕ) → n < length (block_places R h w)
      → let e = get_or (block_places R h w) n no_block in let wide = block_places R h (w + w) in let cs = joined_covers R h w l r in
      Covered wide cs e.level e.row e.col (listed l n) × Covered wide cs e.level e.row (halved (suc e.level) w + e.col) (listed r n)
  -- two pictures, decomposed by any coverings and joined, are restored side by side
  pub exact : (s t l r : List ℕ) → Numbers (all_blocks R h w) (listed l) → Numbers (all_blocks R h w) (listed r) → Samples h w s → Samples h w t
      → samples_of R h (w + w) (joined_covers R h w l r) (joined_of R h w (plane_with R h w l s) (plane_with R h w r t)) ≡ s ++ t

pub record Laws : Type 0 where
  pub join : (R h w : ℕ) → Fits R h w → JoinLaws R h w
  -- the joined strip passes where the two strips do and it is not too wide ("16 when the joined width is over 512"), so that the other entries take it
  pub passes : (R h w : ℕ) (p q : List ℤ) (l r : List ℕ) → Passes (strip_of h w R p l) → Passes (strip_of h w R q r) → w + w ≤ 512
      → Passes (strip_of h (w + w) R (joined_of R h w p q) (joined_covers R h w l r))
