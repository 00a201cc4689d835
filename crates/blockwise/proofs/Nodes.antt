-- A block of the last level, and the four blocks below a block: their sides, coverings and weights. Assumes nothing.
use mathlib.Core.Path.{◌≡◌, refl, ap, ◌∙◌}
use Prim.Native.Nat.{ℕ, suc, ◌+◌, ◌*◌, ◌-◌, ◌/◌, ◌%◌, ◌^◌, ◌<◌, ◌≤◌}
use native.Mathlib.Nat.{pow-suc, mul-le-mul}
use native.Mathlib.Omega.{arith}
use Rattle.pyramid.specs.Plane.{Fits, all_blocks, halved}
use Rattle.pyramid.proofs.Ranges.{halved_le}
use Rattle.pyramid.proofs.Behind.{halved_suc, fits_behind, next_blocks, four_most}
use Rattle.synthesis.proofs.Deeper.{Turn, turn_of, turn_takes}
use Rattle.blockwise.specs.declared.Node.{Node}
use Rattle.blockwise.specs.Node.{block_at, below, Block}

-- ---- a block of the last level, as shifts give it
module _ (R h w n i j : ℕ) (fits : Fits R h w) (some : 1 ≤ R) (most : R ≤ 8) (high : h ≤ 512) (broad : w ≤ 512) (count : n ≡ all_blocks R h w) where
  once : 1 ≡ 4 ^ (R - R)
  once = let z : R - R ≡ 0 = omega arith in rw z refl

  pub first_takes : w / 2 ^ (R - 1) / 4 * (h / 2 ^ (R - 1) / 4) ≤ n
  first_takes = turn_takes R h w R n 1 (omega arith) (omega arith) count once

  pub first_is : (tall wide first : ℕ) → tall ≡ h / 2 ^ (R - 1) → wide ≡ w / 2 ^ (R - 1) → first ≡ n - wide / 4 * (tall / 4)
      → record { levels = R; height = h; width = w; level = R; tall = tall; wide = wide; first = first; weight = 1; i = i; j = j } ≡ block_at R h w R i j
  first_is tall wide first p q r = λ t. record { levels = R; height = h; width = w; level = R; tall = (p ∙ u.tall_is) t; wide = (q ∙ u.wide_is) t; first = (r ∙ (λ s. n - q s / 4 * (p s / 4)) ∙ u.first_is) t; weight = once t; i = i; j = j }
    where
      u : Turn R h w R (h / 2 ^ (R - 1)) (w / 2 ^ (R - 1)) (n - w / 2 ^ (R - 1) / 4 * (h / 2 ^ (R - 1) / 4)) 1 (R - 1)
      u = turn_of R h w R n 1 (omega arith) (omega arith) count once

  pub first_block : i < halved (R - 1) h / 4 → j < halved (R - 1) w / 4 → Block (block_at R h w R i j)
  first_block row col = record {
    fits = fits;
    most = most;
    high = high;
    broad = broad;
    some = some;
    within = omega arith;
    tall_is = refl;
    wide_is = refl;
    first_is = refl;
    weight_is = refl;
    row = row;
    col = col;
  }

-- ---- sizes of a block's numbers
module _ {k : Node} (b : Block k) where
  pub tall_most : k.tall ≤ k.height
  tall_most = omega (arith, b.tall_is, halved_le (k.level - 1) k.height)

  pub wide_most : k.wide ≤ k.width
  wide_most = omega (arith, b.wide_is, halved_le (k.level - 1) k.width)

  pub weight_most : k.weight ≤ 65536
  weight_most = omega (arith, b.weight_is, four_most (k.levels - k.level) (omega (arith, b.most)))

-- ---- the four blocks below
module _ {k : Node} (b : Block k) (two : 2 ≤ k.level) where
  abbrev d : ℕ
  d = k.level - 1 - 1

  deeper : k.level - 1 ≡ suc d
  deeper = omega arith

  whole : Fits (suc (k.levels - suc d)) (halved d k.height) (halved d k.width)
  whole = fits_behind d (suc (k.levels - suc d)) k.levels k.height k.width (omega (arith, b.within)) b.fits

  pub tall_below : k.tall * 2 ≡ halved d k.height
  tall_below = omega (arith, b.tall_is, ap (λ (n : ℕ). halved n k.height) deeper, halved_suc d k.height, whole.0)

  pub wide_below : k.wide * 2 ≡ halved d k.width
  wide_below = omega (arith, b.wide_is, ap (λ (n : ℕ). halved n k.width) deeper, halved_suc d k.width, whole.1)

  taken : k.wide * 2 / 4 * (k.tall * 2 / 4) + all_blocks d k.height k.width ≡ k.first
  taken = go (all_blocks d k.height k.width) (λ t. wide_below t / 4 * (tall_below t / 4)) (b.first_is ∙ ap (λ (n : ℕ). all_blocks n k.height k.width) deeper ∙ next_blocks d k.height k.width)
    where
      go : (e : ℕ) {a c f : ℕ} → a ≡ c → f ≡ e + c → a + e ≡ f
      go e p q = omega arith

  pub below_takes : k.wide * 2 / 4 * (k.tall * 2 / 4) ≤ k.first
  below_takes = omega (arith, taken)

  pub below_small : k.wide * 2 / 4 * (k.tall * 2 / 4) ≤ 512 * 512
  below_small =
      let across : k.wide * 2 / 4 ≤ 512 = omega (arith, wide_most b, b.broad) in
      let down : k.tall * 2 / 4 ≤ 512 = omega (arith, tall_most b, b.high) in
      mul-le-mul across down

  first_below : k.first - k.wide * 2 / 4 * (k.tall * 2 / 4) ≡ all_blocks d k.height k.width
  first_below = omega (arith, taken)

  weight_below : k.weight * 4 ≡ 4 ^ (k.levels - (k.level - 1))
  weight_below =
      let e : k.levels - (k.level - 1) ≡ suc (k.levels - k.level) = omega (arith, b.within) in
      omega (arith, b.weight_is, ap (λ (n : ℕ). 4 ^ n) e, pow-suc 4 (k.levels - k.level))

  module _ (q : ℕ) (l : q < 4) where
    pub below-is : record { levels = k.levels; height = k.height; width = k.width; level = k.level - 1; tall = k.tall * 2; wide = k.wide * 2; first = k.first - k.wide * 2 / 4 * (k.tall * 2 / 4); weight = k.weight * 4; i = k.i * 2 + q % 2; j = k.j * 2 + q / 2 } ≡ below k q
    below-is = λ t. record { levels = k.levels; height = k.height; width = k.width; level = k.level - 1; tall = tall_below t; wide = wide_below t; first = first_below t; weight = weight_below t; i = k.i * 2 + q % 2; j = k.j * 2 + q / 2 }

    pub below-block : Block (below k q)
    below-block = record {
      fits = b.fits;
      most = b.most;
      high = b.high;
      broad = b.broad;
      some = omega arith;
      within = omega (arith, b.within);
      tall_is = refl;
      wide_is = refl;
      first_is = refl;
      weight_is = refl;
      row = omega (arith, b.row, tall_below);
      col = omega (arith, b.col, wide_below);
    }
