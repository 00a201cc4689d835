-- The block of a card by its cells, as samples and as values. Assumes nothing.
use mathlib.Core.Path.{◌≡◌, ap, ◌∙◌}
use mathlib.Core.List.{List}
use Prim.Native.Nat.{ℕ, ◌+◌, ◌*◌, ◌-◌, ◌/◌, ◌%◌, ◌^◌, ◌<◌}
use native.Mathlib.Omega.{arith}
use lib.IntN.{ℤ, pos}
use lib.ListN.{length, get_or}
use Rattle.integers.proofs.Tabulate.{length_tabulate, get_d_tabulate}
use Rattle.coverings.specs.Block.{name_of}
use Rattle.coverings.specs.Rule.{Number}
use Rattle.coverings.specs.Words.{table, word_of}
use Rattle.coverings.proofs.Flat.{place}
use Rattle.coverings.proofs.Table.{rule}
use Rattle.block.specs.Block.{shapes_of}
use Rattle.block.proofs.Pick.{cost_cong}
use Rattle.terms.specs.Terms.{cost_at}
use Rattle.kernel.specs.Kernel.{at, Within}
use Rattle.pyramid.specs.Slices.{picture_of}
use Rattle.calibration.specs.Card.{card_samples, card_block, only_zero, shows}
use Rattle.calibration.specs.Found.{card_values}

module _ (w s : List ℕ) where
  pub samples_length : length (card_samples w s) ≡ 16
  unfolding card_samples
  samples_length = length_tabulate 16 (λ a. get_or s (name_of w a) 0)

  pub samples_at : (a : ℕ) → a < 16 → get_or (card_samples w s) a 0 ≡ get_or s (name_of w a) 0
  unfolding card_samples
  samples_at a h = get_d_tabulate 16 (λ a. get_or s (name_of w a) 0) 0 a h

  -- as a picture, down columns
  pub cell_at_law : (y x : ℕ) → y < 4 → x < 4 → picture_of 4 (card_samples w s) y x ≡ pos (get_or s (name_of w (4 * x + y)) 0)
  cell_at_law y x h g =
      let i : x * 4 + y ≡ 4 * x + y = omega arith in
      ap (λ (k : ℕ). pos (get_or (card_samples w s) k 0)) i ∙ ap pos (samples_at (4 * x + y) (omega arith))

  pub values_length : length (card_values w s) ≡ 16
  unfolding card_values
  values_length = length_tabulate 16 (card_block w s)

  pub values_at_law : (a : ℕ) → a < 16 → at (card_values w s) a ≡ card_block w s a
  unfolding card_values
  values_at_law a h = get_d_tabulate 16 (card_block w s) (pos 0) a h

  pub values_within : ((p : ℕ) → get_or s p 0 < 2 ^ 16) → Within (2 ^ 40) (card_values w s)
  values_within h a l = rw (values_at_law a l) (omega (arith, h (name_of w a)))

-- the test reads sixteen values
pub only_cong : (n : ℕ) (v u : ℕ → ℤ) → ((a : ℕ) → a < 16 → v a ≡ u a) → only_zero n v ≡ only_zero n u
unfolding only_zero
only_cong n v u h =
    let same : (m : ℕ) → cost_at v m ≡ cost_at u m = (λ m. cost_cong (shapes_of (word_of m)) v u h) in
    simp same

pub values_show : (n : ℕ) (s : List ℕ) → only_zero n (at (card_values (word_of n) s)) ≡ shows n s
unfolding shows
values_show n s = only_cong n (at (card_values (word_of n) s)) (card_block (word_of n) s) (values_at_law (word_of n) s)

-- a block of an image with the cells of the card has its values
pub block_at : (w s : List ℕ) (A : ℕ → ℕ → ℤ) (i j : ℕ) → ((y x : ℕ) → y < 4 → x < 4 → A (i * 4 + y) (j * 4 + x) ≡ picture_of 4 (card_samples w s) y x)
    → (a : ℕ) → a < 16 → A (i * 4 + a % 4) (j * 4 + a / 4) ≡ card_block w s a
block_at w s A i j h a l =
    let e : 4 * (a / 4) + a % 4 ≡ a = omega arith in
    h (a % 4) (a / 4) (omega arith) (omega arith) ∙ cell_at_law w s (a % 4) (a / 4) (omega arith) (omega arith) ∙ ap (card_block w s) e

-- the entry of the table of words for a cell: the name of the cell's piece, one of four
pub piece_of : (words : List ℕ) (n cell : ℕ) → words ≡ table → Number n → cell < 16 → (get_or words ((n - 1) * 16 + cell) 0 ≡ name_of (word_of n) cell) × (name_of (word_of n) cell < 4)
piece_of words n cell e h k = (ap (λ (t : List ℕ). get_or t ((n - 1) * 16 + cell) 0) e ∙ place n cell h k, (rule.valid n h).names cell k)
