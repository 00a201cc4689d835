-- `calibration::card::put_card` meets its contract. The loop's invariant: the samples passed are there. Assumes nothing.
use mathlib.Core.Path.{sym, ◌∙◌}
use native.Mathlib.Omega.{arith}
use Rattle.integers.proofs.Half.{half_store, half_end}
use Rattle.coverings.specs.Words.{word_of}
use Rattle.calibration.specs.Card.{card_samples}
use Rattle.calibration.proofs.Cells.{samples_length, samples_at}
use Rattle.calibration.proofs.card.put_card.Goals as goal

pub loop-k-preserved : goal.loop-k-preserved
loop-k-preserved c =
    let w = word_of c.args.covering in
    let long = samples_length w c.args.s ∙ sym c.requires.1 in
    half_store (card_samples w c.args.s) c.args.samples.now c.loop-k.k 0 c.loop-k.invariant (c.step_at.ensures ∙ sym (samples_at w c.args.s c.loop-k.k (omega arith))) long (omega arith)

pub returns : goal.returns
returns c =
    let w = word_of c.args.covering in
    c.loop-k.invariant ∙ half_end (card_samples w c.args.s) c.args.samples.now c.loop-k.k (samples_length w c.args.s ∙ sym c.requires.1) (omega arith)
