-- `calibration::card::card` meets its contract. The loop's invariant: the values passed are there. Assumes nothing.
use mathlib.Core.Path.{sym, ap, ◌∙◌}
use native.Mathlib.Omega.{arith}
use lib.IntN.{pos}
use mir.Facts.{to_z-of_z}
use mir.Syntax.{w64}
use Rattle.integers.proofs.Half.{half_store, half_end}
use Rattle.coverings.specs.Words.{word_of}
use Rattle.calibration.specs.Found.{card_values}
use Rattle.calibration.proofs.Cells.{values_length, values_at_law}
use Rattle.calibration.proofs.card.card.Goals as goal

pub loop-k-preserved : goal.loop-k-preserved
loop-k-preserved c =
    let w = word_of c.args.covering in
    half_store (card_values w c.args.s) _ c.loop-k.k (pos 0) c.loop-k.invariant
    (to_z-of_z {w = w64} (record { sfits = c.from.type_inv }) ∙ c.from.ensures ∙ ap pos c.step_at.ensures ∙ sym (values_at_law w c.args.s c.loop-k.k (omega arith))) (values_length w c.args.s) (omega arith)

pub returns : goal.returns
returns c =
    let w = word_of c.args.covering in
    c.loop-k.invariant ∙ half_end (card_values w c.args.s) _ c.loop-k.k (values_length w c.args.s) (omega arith)
