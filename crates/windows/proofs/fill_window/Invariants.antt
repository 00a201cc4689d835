-- `windows::fill_window` meets its contract. Assumes nothing.
use mathlib.Core.Path.{◌≡◌}
use Prim.Native.Nat.{ℕ, ◌-◌, ◌/◌, ◌<◌, ◌≤◌}
use Rattle.pyramid.specs.Plane.{halved}
use Rattle.windows.specs.Shown.{sample_at, Shown, Kept}
use Rattle.windows.proofs.fill_window.Given as goal

abbrev pub invariant-loop-j : goal.invariant-loop-j
invariant-loop-j l =
    Kept l.v (sample_at l.levels l.height l.width l.coverings l.plane) l.initial.samples l.samples
    × ((p : ℕ) → p < l.j → halved (l.levels - 1) (l.v.left / 4) ≤ p → (y x : ℕ) → halved (l.levels - 1) (x / 4) ≡ p → Shown l.v (sample_at l.levels l.height l.width l.coverings l.plane) l.samples y x)
