-- What restoring leaves in its slices, level by level: the bands that a level merges, the values of a block, and the stores of a level's blocks. Assumes nothing.
use Rattle.std.specs.Prelude.{◌≡◌, cond, List, ℕ, zero, suc, ◌+◌, ◌*◌, ◌/◌, ◌%◌, ◌^◌, ◌<◌, ◌≤◌, ltb, ℤ, pos, nat_abs, ◌*ℤ◌, length, get_or}
use Rattle.integers.specs.Lists.{tabulate}
use Rattle.slices.specs.Stores.{scatter}
use Rattle.kernel.specs.Kernel.{at, inverse_of}
use Rattle.pyramid.specs.Plane.{Image, Fits, Numbers, blocks, all_blocks, band, with_low, after, listed}
use Rattle.pyramid.specs.Slices.{image_of}
use Rattle.pyramid.specs.Ranges.{Limited}
use Rattle.grid.specs.Grid.{cell_place, band_place, starts_of}

-- A result of band 0 once, one of bands 1 to 3 m times: k is 4 * band + label.
abbrev pub counted : ℕ → ℕ → ℤ → ℤ
counted m k z = cond (ltb k 4) z (pos m *ℤ z)

-- The sixteen results of a block at the places g, those of bands 1 to 3 counted m times.
unfoldable pub weighted : ℕ → (ℕ → ℕ) → List ℤ → List ℤ
weighted m g l = tabulate 16 (λ k. counted m k (get_or l (g k) (pos 0)))

-- The bands that a level merges: the low-pass as it stands, the tetrolet coefficients counted m times.
abbrev pub weighted_bands : ℕ → ℕ → ℕ → Image → ℕ → Image
weighted_bands m tall wide A = with_low A (λ b y x. pos m *ℤ band tall wide A b y x)

-- The values of the block in block row i, block column j, of a level of `tall` rows and `wide` columns.
unfoldable pub merged_block : ℕ → ℕ → ℕ → ℕ → (ℕ → ℕ) → List ℤ → ℕ → ℕ → List ℤ
merged_block h tall wide m cs image i j = inverse_of (cs (j * (tall / 4) + i)) (weighted m (band_place h (starts_of h tall wide i j)) image)

-- A slice of height h after the stores of one block, of the first blocks of a block column, and of the n blocks of each of the first block columns.
unfoldable pub put_block : ℕ → (ℕ → ℕ → List ℤ) → ℕ → ℕ → List ℤ → List ℤ
put_block h v i j l = scatter (cell_place h (j * 4 * h + i * 4)) (at (v i j)) 16 l

unfoldable pub put_column : ℕ → (ℕ → ℕ → List ℤ) → ℕ → ℕ → List ℤ → List ℤ
put_column h v j zero l = l
put_column h v j (suc i) l = put_block h v i j (put_column h v j i l)

unfoldable pub put_columns : ℕ → (ℕ → ℕ → List ℤ) → ℕ → ℕ → List ℤ → List ℤ
put_columns h v n zero l = l
put_columns h v n (suc j) l = put_column h v j n (put_columns h v n j l)

-- A level of `tall` rows and `wide` columns that can be merged: whole blocks inside the slice, a covering for each, and bands that do not overflow.
pub record Level (h tall wide m first : ℕ) (cs : List ℕ) (image : List ℤ) : Type 0 where
  pub tall_whole : tall % 4 ≡ 0
  pub wide_whole : wide % 4 ≡ 0
  pub inside : tall ≤ h
  pub height : h ≤ 512
  pub width : wide ≤ 512
  pub long : wide * h ≤ length image
  pub covered : first + blocks tall wide ≤ length cs
  pub numbers : Numbers (blocks tall wide) (after first (listed cs))
  pub weight : m ≤ 2 ^ 20
  pub small : (b y x : ℕ) → b < 4 → y < tall / 2 → x < wide / 2 → nat_abs (weighted_bands m tall wide (image_of h image) b y x) ≤ 2 ^ 40

-- A plane of R levels that can be merged: what the checks 1, 2, 3 and 5 let pass, of a size that c limits.
pub record Mergeable (R h w c : ℕ) (cs : List ℕ) (plane : List ℤ) : Type 0 where
  pub fits : Fits R h w
  pub some : 1 ≤ R
  pub most : R ≤ 8
  pub height : h ≤ 512
  pub width : w ≤ 512
  pub plane_long : length plane ≡ w * h
  pub covered : length cs ≡ all_blocks R h w
  pub numbers : Numbers (all_blocks R h w) (listed cs)
  pub limit : c ≤ 2 ^ 33
  pub size : Limited R h w c (image_of h plane)

-- A plane that can be restored: what the checks 1, 2, 3, 5 and 6 let pass. So large are the entries of a plane in range as they are counted.
abbrev pub Restorable : ℕ → ℕ → ℕ → List ℕ → List ℤ → Type 0
Restorable R h w cs plane = Mergeable R h w (4095 * 4 ^ R) cs plane
