-- `calibration::card::step_at` meets its contract. Assumes nothing.
use mathlib.Core.Path.{ap}
use Prim.Native.Nat.{ℕ}
use native.Mathlib.Omega.{arith}
use lib.ListN.{get_or}
use Rattle.calibration.proofs.Cells.{piece_of}
use Rattle.calibration.proofs.card.step_at.Goals as goal

pub bounds-s-piece : goal.bounds-s-piece
bounds-s-piece c = omega (arith, piece_of c.all_words.result.now c.args.covering c.args.cell c.all_words.ensures c.requires.0 c.requires.1)

pub returns : goal.returns
returns c = ap (λ (p : ℕ). get_or c.args.s p 0) (piece_of c.all_words.result.now c.args.covering c.args.cell c.all_words.ensures c.requires.0 c.requires.1).0
