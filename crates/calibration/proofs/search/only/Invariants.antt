-- `calibration::search::only` meets its contract. The loop's invariant: the coverings that are left decide. Assumes nothing.
use mathlib.Core.Path.{◌≡◌}
use Prim.Native.Nat.{◌≤◌}
use Rattle.kernel.specs.Kernel.{at}
use Rattle.calibration.proofs.Others.{rest}
use Rattle.calibration.proofs.search.only.Given as goal

abbrev pub invariant-loop-m : goal.invariant-loop-m
invariant-loop-m l = (l.m ≤ 118) × (rest l.covering (at l.v) l.m ≡ rest l.covering (at l.v) 1)
