-- `sifting::ranks::limit_of` meets its contract: three digits, each narrows the ranks that the limit is among. Assumes nothing.
use mathlib.Core.Path.{refl}
use mathlib.Core.Logic.{inl}
use native.Mathlib.Omega.{arith}
use Rattle.sifting.proofs.Runs.{one_left}
use Rattle.sifting.proofs.Turns.{from_high}
use Rattle.sifting.proofs.ranks.limit_of.Goals as goal

pub narrowed-first-requires : goal.narrowed-first-requires
narrowed-first-requires c = record {
  ready = c.requires;
  shift_bound = (omega arith, refl, omega arith);
  inside = record { over = from_high c.args.levels c.args.height c.args.width c.args.plane.now c.requires; few = omega arith; least = inl refl };
}

pub narrowed-second-requires : goal.narrowed-second-requires
narrowed-second-requires c = record {
  ready = c.requires;
  shift_bound = (omega arith, refl, omega (arith, c.narrowed-first.ensures.step_bound));
  inside = c.narrowed-first.ensures.inside_2;
}

pub narrowed-requires : goal.narrowed-requires
narrowed-requires c = record {
  ready = c.requires;
  shift_bound = (omega arith, refl, omega (arith, c.narrowed-second.ensures.step_bound, c.narrowed-first.ensures.step_bound));
  inside = c.narrowed-second.ensures.inside_2;
}

pub returns : goal.returns
returns c = one_left _ _ c.narrowed.result c.narrowed.ensures.inside_2
