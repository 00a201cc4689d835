-- The ranges of a plane's entries, as a test and as a fact; and how large they are as restoring counts them. Assumes nothing.
use Rattle.std.specs.Prelude.{◌≡◌, Bool, false, cond, ℕ, ◌*◌, ◌-◌, ◌^◌, ◌<◌, ◌≤◌, eqb, leb, ℤ, pos, negsuc, nat_abs, length, get_or}
use Rattle.integers.specs.Lists.{every}
use Rattle.pyramid.specs.Plane.{Image, halved}
use Rattle.pyramid.specs.Places.{Place, no_place, plane_places, tetrolet_places, at}

-- Document 01: "low 0 to 4,095 times 4^R".
abbrev pub is_low : ℕ → ℤ → Bool
is_low R (pos n) = leb n (4095 * 4 ^ R)
is_low R (negsuc n) = false

-- Document 01: "a level-r W within 2 times 4^(r-1) times 4,095 either side of zero".
abbrev pub fits_range : ℕ → Place → ℤ → Bool
fits_range R p z = cond (eqb p.band 0) (is_low R z) (leb (nat_abs z) (2 * 4 ^ (p.level - 1) * 4095))

-- Refusal 6 looks at each entry of the plane.
unfoldable pub in_range : ℕ → ℕ → ℕ → Image → Bool
in_range R h w P = every (λ p. fits_range R p (at P p)) (plane_places R h w)

-- The same as a fact.
pub record InRange (R h w : ℕ) (P : Image) : Type 0 where
  pub low : (y x : ℕ) → y < halved R h → x < halved R w → (n : ℕ) × (P y x ≡ pos n) × (n ≤ 4095 * 4 ^ R)
  pub tetrolet : (k : ℕ) → k < length (tetrolet_places R h w) → let p = get_or (tetrolet_places R h w) k no_place in nat_abs (at P p) ≤ 2 * 4 ^ (p.level - 1) * 4095

-- c limits the low-pass, and twice each tetrolet coefficient as restoring counts it: "W of level r first counts 4^(R-r) times".
pub record Limited (R h w c : ℕ) (P : Image) : Type 0 where
  pub low : (y x : ℕ) → y < halved R h → x < halved R w → nat_abs (P y x) ≤ c
  pub tetrolet : (k : ℕ) → k < length (tetrolet_places R h w) → let p = get_or (tetrolet_places R h w) k no_place in 2 * (4 ^ (R - p.level) * nat_abs (at P p)) ≤ c
