-- `block_examples::run` is safe and ends. Assumes nothing.
use native.Mathlib.Omega.{arith}
use Rattle.terms.proofs.Good.{good_full}
use Rattle.block_examples.proofs.run.Goals as goal

pub run_listed-requires : goal.run_listed-requires
run_listed-requires g c = (c.requires.0, omega (arith, c.requires.1), good_full _ c.every_covering-all.ensures)
