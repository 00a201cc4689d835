-- The distance of a plane on images: what the proofs go by. Assumes nothing.
use Prim.Native.Nat.{ℕ, ◌^◌}
use lib.IntN.{pos, ◌-ℤ◌, ◌*ℤ◌}
use Rattle.integers.specs.Sum.{sq, total}
use Rattle.pyramid.specs.Plane.{Image, numerators}

-- a plane's distance from the image A
abbrev pub distance : ℕ → ℕ → ℕ → (ℕ → ℕ) → Image → Image → ℕ
distance R h w cs A P = total h w (λ y x. sq (numerators R h w cs P y x -ℤ pos (4 ^ R) *ℤ A y x))
