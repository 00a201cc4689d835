-- A column of the plane that is restored, in two runs: its rows in band 0, and the others. Assumes nothing.
use mathlib.Core.Path.{◌≡◌, ap, ◌∙◌, subst}
use mathlib.Core.Bool.{Bool, true, false, not, cond, ◌&&◌, ◌||◌}
use mathlib.Core.List.{List}
use Prim.Native.Nat.{ℕ, ◌+◌, ◌*◌, ◌-◌, ◌<◌, ◌≤◌}
use native.Mathlib.Nat.{mul-le-mul_right}
use native.Mathlib.Decide.{dec_lt}
use native.Mathlib.Omega.{arith}
use lib.Dec.{ltb}
use lib.IntN.{ℤ, pos, ◌-ℤ◌, ◌*ℤ◌}
use lib.ListN.{get_or}
use Rattle.integers.specs.Zero.{is_zero}
use Rattle.integers.proofs.Tests.{true_at, false_at, and_false}
use Rattle.pyramid.specs.Plane.{halved}
use Rattle.pyramid.specs.Slices.{image_of}
use Rattle.pyramid.proofs.Ranges.{halved_le}
use Rattle.pyramid.proofs.Slices.{image_slice}
use Rattle.variation.specs.Smooth.{masked}
use Rattle.smoothing.specs.Mixed.{mixed_entry, Mixes, mixed_of}

-- the rows of a column in band 0, by the halved sides
pub rows_is : (R h w col : ℕ) {n tall wide : ℕ} → n ≡ cond (ltb col wide) tall 0 → tall ≡ halved R h → wide ≡ halved R w → n ≡ cond (ltb col (halved R w)) (halved R h) 0
rows_is R h w col e f g = e ∙ λ i. cond (ltb col (g i)) (f i) 0

module _ (R h w p : ℕ) (P D : List ℤ) (col : ℕ) (inside : col < w) where
  -- an entry, by whether it is in band 0
  entry : (y : ℕ) → y < h → (low : Bool) → (ltb y (halved R h) && ltb col (halved R w)) ≡ low → get_or (mixed_of R h w p P D) (col * h + y) (pos 0) ≡ mixed_entry p low (image_of h P y col) (image_of h D y col)
  entry y l low e =
      image_slice h w (λ y x. pos 16 *ℤ image_of h P y x -ℤ pos p *ℤ masked R h w (image_of h P) (image_of h D) y x) y col l inside
      ∙ ap (λ (t : Bool). pos 16 *ℤ image_of h P y col -ℤ pos p *ℤ cond (t || not (is_zero (image_of h P y col))) (pos 0) (image_of h D y col)) e

  -- so many rows are in band 0
  module _ (n : ℕ) (is : n ≡ cond (ltb col (halved R w)) (halved R h) 0) where
    among : col < halved R w → n ≡ halved R h
    among l = is ∙ ap {B = ℕ} (λ (t : Bool). cond t (halved R h) 0) (true_at col (halved R w) l)

    none : halved R w ≤ col → n ≡ 0
    none l = is ∙ ap {B = ℕ} (λ (t : Bool). cond t (halved R h) 0) (false_at col (halved R w) l)

    pub rows-most : n ≤ h
    rows-most = go (dec_lt col (halved R w))
      where
        go : Dec (col < halved R w) → n ≤ h
        go (yes l) = omega (arith, among l, halved_le R h)
        go (no l) = omega (arith, none (omega arith))

    pub upper : Mixes p true P D (col * h) n (mixed_of R h w p P D)
    upper i l = entry i (omega (arith, rows-most)) true (go (dec_lt col (halved R w)))
      where
        go : Dec (col < halved R w) → (ltb i (halved R h) && ltb col (halved R w)) ≡ true
        go (yes k) = rw (true_at i (halved R h) (omega (arith, among k)), true_at col (halved R w) k)
        go (no k) = absurd (omega (arith, none (omega arith)))

    pub lower : Mixes p false P D (col * h + n) (h - n) (mixed_of R h w p P D)
    lower i l =
        let e : col * h + (n + i) ≡ col * h + n + i = omega arith in
        subst (λ (k : ℕ). get_or (mixed_of R h w p P D) k (pos 0) ≡ mixed_entry p false (get_or P k (pos 0)) (get_or D k (pos 0))) e (entry (n + i) (omega arith) false (go (dec_lt col (halved R w))))
      where
        go : Dec (col < halved R w) → (ltb (n + i) (halved R h) && ltb col (halved R w)) ≡ false
        go (yes k) = rw (false_at (n + i) (halved R h) (omega (arith, among k)))
        go (no k) = rw (false_at col (halved R w) (omega arith)) (and_false (ltb (n + i) (halved R h)))

    -- both runs are inside the slice, and the second ends with the column
    pub rows_inside : col * h + n ≤ w * h
    rows_inside = omega (arith, rows-most, mul-le-mul_right h inside)

    pub rest-inside : col * h + n + (h - n) ≤ w * h
    rest-inside = omega (arith, rows-most, mul-le-mul_right h inside)

    pub rest-ends : col * h + n + (h - n) ≡ col * h + h
    rest-ends = omega (arith, rows-most)
