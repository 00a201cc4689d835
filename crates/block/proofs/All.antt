-- The laws of one block, all together. Assumes nothing.
use Rattle.coverings.specs.Words.{word_of}
use Rattle.block.specs.Laws.{BlockLaws}
use Rattle.block.proofs.Words.{good}
use Rattle.block.proofs.Blocks.{inverse_forward, forward_inverse, inverse_squares_law, forward_squares_law, forward_sub, inverse_sub}
use Rattle.block.proofs.Labels.{fewest, smallest, squares}
use Rattle.block.proofs.Pick.{pick_number, pick_wins, pick_least}
use Rattle.block.proofs.Named.{pick_named, named_cost}

pub laws : BlockLaws
laws = record {
  restored = λ n m. inverse_forward (word_of n) (good n m);
  returned = λ n m. forward_inverse (word_of n) (good n m);
  forward_squares = λ n m. forward_squares_law (word_of n) (good n m);
  inverse_squares = λ n m. inverse_squares_law (word_of n) (good n m);
  forward_additive = forward_sub;
  inverse_additive = inverse_sub;
  squares = squares;
  fewest = λ n m. fewest (word_of n);
  smallest = λ n m. smallest (word_of n);
  number = pick_number;
  wins = pick_wins;
  least = pick_least;
  least_named = pick_named;
  named = named_cost;
}
