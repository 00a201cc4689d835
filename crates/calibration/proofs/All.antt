-- The laws of blocks that show a covering, all together. Assumes nothing.
use Rattle.coverings.specs.Words.{word_of}
use Rattle.calibration.specs.Laws.{CardLaws}
use Rattle.calibration.proofs.Alone.{enough, zero_cost, alone, alone_named_law, picked, picked_of_all_law, decomposed, decomposed_of_all_law, one_step_law}
use Rattle.calibration.proofs.Cells.{samples_length, cell_at_law}
use Rattle.calibration.proofs.Chosen.{choices_count, choices_at, first_one, none_shows, samples_steps}
use Rattle.calibration.proofs.Gates.{good_steps}

pub laws : CardLaws
laws = record {
  steps = good_steps;
  zero = zero_cost;
  alone = λ n m s h t. alone n s t m h;
  alone_named = λ n s name t. alone_named_law n s t name;
  enough = enough;
  picked = λ n s list earlier g i t. picked n s t list g i earlier;
  picked_of_all = λ n s earlier h t. picked_of_all_law n s t h earlier;
  sixteen = λ n s. samples_length (word_of n) s;
  cells = λ n s. cell_at_law (word_of n) s;
  decomposed = λ n s list g i t. decomposed n s t list g i;
  decomposed_of_all = λ n s h t. decomposed_of_all_law n s t h;
  one_step = one_step_law;
  count = choices_count;
  digits = choices_at;
  first_one = first_one;
  none = none_shows;
  samples = samples_steps;
}
