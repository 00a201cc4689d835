-- `sifting::tally::Tally::entry` meets its contract: each return by its tests. Assumes nothing.
use mathlib.Core.Path.{subst⁻¹}
use native.Mathlib.Omega.{arith}
use Rattle.sifting.specs.declared.tally.Tally.{Tally}
use Rattle.sifting.specs.Tallies.{Tallied}
use Rattle.sifting.proofs.Tallying.{over, below, no_more, zero_rank, one_more}
use Rattle.sifting.proofs.tally.Tally.entry.Goals as goal

pub returns-then-self-rank : goal.returns-then-self-rank
returns-then-self-rank c = let a = c.args in subst⁻¹ (λ (x : Tally). Tallied a.self a.rank x) c.kept.ensures (over a.self a.rank (omega arith))

pub returns-then-rank-self : goal.returns-then-rank-self
returns-then-rank-self c = let a = c.args in subst⁻¹ (λ (x : Tally). Tallied a.self a.rank x) c.dropped.ensures (below a.self a.rank (omega arith))

pub returns-then-self-eq0 : goal.returns-then-self-eq0
returns-then-self-eq0 c = let a = c.args in subst⁻¹ (λ (x : Tally). Tallied a.self a.rank x) c.dropped-then-self-eq0.ensures (no_more a.self a.rank (omega arith) (omega arith))

pub overflow_sub-self : goal.overflow_sub-self
overflow_sub-self c = omega arith

pub returns-then-rank-eq0 : goal.returns-then-rank-eq0
returns-then-rank-eq0 c = let a = c.args in subst⁻¹ (λ (x : Tally). Tallied a.self a.rank x) c.dropped-then-rank-eq0.ensures (zero_rank a.self a.rank (omega arith) (omega arith))

pub overflow_sub-self-2 : goal.overflow_sub-self-2
overflow_sub-self-2 c = omega arith

pub returns : goal.returns
returns c = let a = c.args in subst⁻¹ (λ (x : Tally). Tallied a.self a.rank x) c.kept-2.ensures (one_more a.self a.rank (omega arith) (omega arith) (omega arith))
