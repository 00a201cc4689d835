-- How large ranks are, and how many tetrolet entries there are. Assumes nothing.
use mathlib.Core.Path.{◌≡◌}
use Prim.Native.Nat.{ℕ, zero, suc, ◌+◌, ◌*◌, ◌-◌, ◌/◌, ◌%◌, ◌^◌, ◌<◌, ◌≤◌}
use native.Mathlib.Nat.{mul-le-mul, pow-succ', pow-le-pow_left, pow-le-pow_right, one-le-pow, div-eq_of_eq-mul_right, le_refl}
use native.Mathlib.Omega.{arith}
use lib.Pow.{pow-add}
use lib.ListN.{length}
use Rattle.pyramid.specs.Plane.{Fits, halved}
use Rattle.pyramid.specs.Places.{tetrolet_places}
use Rattle.pyramid.proofs.Number.{places_count}
use Rattle.places.proofs.Sides.{Passed}
use Rattle.quota.specs.Quota.{quota_limit}

-- 4 ^ a and 2 ^ b, where a + b is at most 7
powers : (a b : ℕ) → a + b ≤ 7 → 4 ^ a * 2 ^ b ≤ 16384
powers a b h =
    let x = mul-le-mul (le_refl (4 ^ a)) (pow-le-pow_left {n = 2} {m = 4} (omega arith) b) in
    let y = pow-add 4 a b in
    let z = pow-le-pow_right {n = 4} (omega arith) h in
    omega arith

-- a rank is below 2 ^ 27
pub rank_small : (v l R : ℕ) → 1 ≤ l → l ≤ R → R ≤ 8 → v ≤ 2 * 4 ^ (l - 1) * 4095 → v * 2 ^ (R - l) < 134217728
rank_small v l R a b c h = go (4 ^ (l - 1)) (2 ^ (R - l)) (powers (l - 1) (R - l) (omega arith)) (mul-le-mul h (le_refl (2 ^ (R - l))))
  where
    go : (x y : ℕ) → x * y ≤ 16384 → v * y ≤ 2 * x * 4095 * y → v * y < 134217728
    go x y p q = omega arith

-- the area is 4 ^ R times that of the low-pass
area : (R h w : ℕ) → Fits R h w → w * h ≡ 4 ^ R * (halved R w * halved R h)
area zero h w f = omega arith
area (suc R) h w f = go (h / 2) (w / 2) (4 ^ R) (halved R (w / 2) * halved R (h / 2)) (whole h f.0) (whole w f.1) (area R (h / 2) (w / 2) f.2) (pow-succ' 4 R)
  where
    whole : (n : ℕ) → n % 4 ≡ 0 → n ≡ 2 * (n / 2)
    whole n e = omega arith

    go : (a b x y : ℕ) → h ≡ 2 * a → w ≡ 2 * b → b * a ≡ x * y → 4 ^ suc R ≡ 4 * x → w * h ≡ 4 ^ suc R * y
    go a b x y d e c g = rw (d, e, g) (omega arith)

-- the limit of the quota is the number of tetrolet entries
pub quota_limit_law : (R h w : ℕ) → Fits R h w → quota_limit h w R ≡ length (tetrolet_places R h w)
quota_limit_law R h w f =
    let a = div-eq_of_eq-mul_right (one-le-pow R 4 (omega arith)) (area R h w f) in
    let b = places_count 0 R h w f in
    go (halved R w * halved R h) a b
  where
    go : (y : ℕ) → w * h / 4 ^ R ≡ y → length (tetrolet_places R h w) + y ≡ w * h → w * h - w * h / 4 ^ R ≡ length (tetrolet_places R h w)
    go y a b = omega arith

pub few_places : (R h w : ℕ) → Passed h w R → length (tetrolet_places R h w) ≤ 262144
few_places R h w q = let a = places_count 0 R h w q.fits in let b = q.area in omega arith
