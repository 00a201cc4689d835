-- `sifting::ranks::narrowed` meets its contract: `total` ranks are behind run j. Assumes nothing.
use mathlib.Core.Path.{◌≡◌}
use Prim.Native.Nat.{◌+◌, ◌*◌, ◌≤◌}
use Rattle.pyramid.specs.Slices.{image_of}
use Rattle.quota.specs.Quota.{ranks}
use Rattle.sifting.specs.Sifting.{from, RunCounts}
use Rattle.sifting.proofs.ranks.narrowed.Given as goal

abbrev pub invariant-loop-j : goal.invariant-loop-j
invariant-loop-j l =
    let q = ranks l.levels l.height l.width (image_of l.height l.plane) in (1 ≤ l.j) × (l.total ≡ from q (l.base + l.j * l.step)) × (l.total ≤ l.quota) × RunCounts q l.base l.step l.counts
