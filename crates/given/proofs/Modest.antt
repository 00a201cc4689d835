-- Decomposing by given coverings, level by level: what is known after some levels. Assumes nothing.
use mathlib.Core.Path.{◌≡◌, sym, ap, ◌∙◌, refl, subst, subst⁻¹}
use mathlib.Core.List.{List}
use Prim.Native.Nat.{ℕ, suc, ◌+◌, ◌*◌, ◌/◌, ◌^◌, ◌<◌, ◌≤◌}
use native.Mathlib.Nat.{pow-succ', pow-le-pow_right, mul-le-mul_left, le_trans}
use native.Mathlib.Omega.{arith}
use lib.IntN.{ℤ, nat_abs}
use lib.ListN.{length}
use Rattle.slices.specs.Stores.{rectangles}
use Rattle.pyramid.specs.Plane.{Image, Fits, blocks, all_blocks, after, bands_of, Numbers}
use Rattle.pyramid.specs.Slices.{image_of}
use Rattle.pyramid.proofs.Growth.{bands_abs}
use Rattle.analysis.specs.Analysis.{Small, Banded}
use Rattle.analysis.proofs.Descend.{Worked, worked_start, worked_low, worked_step, worked_room}
use Rattle.given.specs.Given.{Modest}

-- the levels that are done leave the numbers modest
pub record Given (R H W : ℕ) (cs : ℕ → ℕ) (A : Image) (plane : List ℤ) (tall wide first left : ℕ) : Type 0 where
  pub done : ℕ
  pub worked : Worked R H W cs A plane done tall wide first left
  pub modest : (y x : ℕ) → y < tall → x < wide → nat_abs (image_of H plane y x) ≤ 2 ^ 24 * 4 ^ done

pub given_start : (R H W : ℕ) (cs : ℕ → ℕ) (plane : List ℤ) → Fits R H W → Modest H W (image_of H plane) → Given R H W cs (image_of H plane) plane H W 0 R
given_start R H W cs plane f m = record { done = 0; worked = worked_start R H W cs (image_of H plane) plane f refl; modest = m }

pub given_small : {R H W : ℕ} {cs : ℕ → ℕ} {A : Image} {plane : List ℤ} {tall wide first left : ℕ} → R ≤ 8 → Given R H W cs A plane tall wide first left → Small tall wide (image_of H plane)
given_small r d y x k l = le_trans (d.modest y x k l) (le_trans (mul-le-mul_left (2 ^ 24) power) (omega arith))
  where
    power : 4 ^ d.done ≤ 4 ^ 8
    power = pow-le-pow_right {n = 4} (omega arith) {i = d.done} {j = 8} (omega (arith, d.worked.all))

-- the coverings of the next level are numbers
pub given_numbers : (R H W : ℕ) (cs : ℕ → ℕ) (A : Image) (plane : List ℤ) (tall wide first left : ℕ) → Numbers (all_blocks R H W) cs → Given R H W cs A plane tall wide first (suc left) → Numbers (blocks tall wide) (after first cs)
given_numbers R H W cs A plane tall wide first left ns d k l = ns (first + k) (omega (arith, worked_room R H W cs A plane d.done tall wide first left d.worked))

pub given_step : (R H W : ℕ) (cs : ℕ → ℕ) (A : Image) (plane : List ℤ) (tall wide first left : ℕ) (d : Given R H W cs A plane tall wide first (suc left)) (out : List ℤ)
    → length plane ≡ W * H → Banded H tall wide (after first cs) (image_of H plane) out → Given R H W cs A (rectangles H tall wide out plane) (tall / 2) (wide / 2) (first + blocks tall wide) left
given_step R H W cs A plane tall wide first left d out long v = record {
  done = suc d.done;
  worked = worked_step R H W cs A plane d.done tall wide first left d.worked out long v;
  modest = λ y x k l.
      subst⁻¹ (λ (z : ℤ). nat_abs z ≤ 2 ^ 24 * 4 ^ suc d.done) (worked_low R H W cs A plane d.done tall wide first left d.worked out long v y x k l)
      (subst (λ (n : ℕ). nat_abs (bands_of tall (after first cs) (image_of H plane) 0 y x) ≤ n) power
      (bands_abs tall wide (2 ^ 24 * 4 ^ d.done) d.worked.fits.0 d.worked.fits.1 (after first cs) (image_of H plane) d.modest 0 y x k l));
}
  where
    power : 4 * (2 ^ 24 * 4 ^ d.done) ≡ 2 ^ 24 * 4 ^ suc d.done
    power = move (4 ^ d.done) ∙ ap (λ (n : ℕ). 2 ^ 24 * n) (sym (pow-succ' 4 d.done))
      where
        move : (n : ℕ) → 4 * (2 ^ 24 * n) ≡ 2 ^ 24 * (4 * n)
        move n = omega arith
