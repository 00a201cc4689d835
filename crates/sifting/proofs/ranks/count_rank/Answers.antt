-- `sifting::ranks::count_rank` meets its contract. Assumes nothing.
use mathlib.Core.Path.{◌≡◌}
use Prim.Native.Nat.{◌-◌, ◌/◌, ◌^◌, ◌<◌}
use native.Mathlib.Nat.{one-le-pow}
use native.Mathlib.Omega.{arith}
use lib.ListN.{length}
use Rattle.sifting.proofs.Runs.{below_base, stored, unchanged}
use Rattle.sifting.proofs.ranks.count_rank.Goals as goal

pub returns-then-rank-base : goal.returns-then-rank-base
returns-then-rank-base c = let a = c.args in unchanged _ a.base (2 ^ a.shift) a.rank (λ j k. below_base a.base (2 ^ a.shift) a.rank (one-le-pow a.shift 2 (omega arith)) c.if-rank-base.true j)

pub returns-then-run-lt512 : goal.returns-then-run-lt512
returns-then-run-lt512 c =
    let a = c.args in
    let n : length a.counts.now ≡ 512 = c.requires.small.long in
    let i : (a.rank - a.base) / 2 ^ a.shift < 512 = c.if-run-lt512.true in
    stored a.base (2 ^ a.shift) a.rank (one-le-pow a.shift 2 (omega arith)) c.if-rank-base.false a.counts.now i (omega arith)
