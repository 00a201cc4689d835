-- One pass in plane order: which entries it leaves, by a rank that limits and how many entries of this rank stay; and what such a limit is for keep. Assumes nothing.
use Rattle.std.specs.Prelude.{◌≡◌, Bool, true, cond, ◌&&◌, ◌||◌, List, ◌⊎◌, ℕ, ◌+◌, ◌*◌, ◌-◌, ◌<◌, ◌≤◌, eqb, leb, ltb, ℤ, length, get_or}
use Rattle.integers.specs.Sum.{Σℕ}
use Rattle.pyramid.specs.Sides.{is_sides, is_depth}
use Rattle.pyramid.specs.Ranges.{in_range}
use Rattle.pyramid.specs.Slices.{image_of, slice_of}
use Rattle.quota.specs.Quota.{ranks, select, entries_of}
use Rattle.sifting.specs.declared.ranks.Found.{Found}

-- What the checks 1, 2, 3 and 6 leave.
pub record Ready (height width levels : ℕ) (plane : List ℤ) : Type 0 where
  pub sided : is_sides height width ≡ true
  pub deep : is_depth levels height width ≡ true
  pub long : length plane ≡ width * height
  pub range : in_range levels height width (image_of height plane) ≡ true

-- How many ranks are above t, and how many of the first n are t.
abbrev pub above : List ℕ → ℕ → ℕ
above q t = Σℕ (length q) (λ m. cond (ltb t (get_or q m 0)) 1 0)

abbrev pub ties : List ℕ → ℕ → ℕ → ℕ
ties q t n = Σℕ n (λ m. cond (eqb t (get_or q m 0)) 1 0)

-- A limit t for keep, and how many ranks are above it: at most K; and t is 0 or more than K are above the rank before it.
pub record Limit (q : List ℕ) (K t over : ℕ) : Type 0 where
  pub all : over ≡ above q t
  pub few : over ≤ K
  pub least : (t ≡ 0) ⊎ (K < above q (t - 1))

-- A rank in the run with the number j of those of w ranks from `base` on; how many ranks are in it, and how many are x or above.
abbrev pub in_run : ℕ → ℕ → ℕ → ℕ → Bool
in_run base w j r = leb (base + j * w) r && ltb r (base + j * w + w)

abbrev pub run_count : List ℕ → ℕ → ℕ → ℕ → ℕ → ℕ
run_count q base w j n = Σℕ n (λ m. cond (in_run base w j (get_or q m 0)) 1 0)

abbrev pub from : List ℕ → ℕ → ℕ
from q x = Σℕ (length q) (λ m. cond (leb x (get_or q m 0)) 1 0)

-- The counts of 512 runs: small, all zero, after one rank more, and all of them.
pub record Small (counts : List ℕ) : Type 0 where
  pub long : length counts ≡ 512
  pub small : (j : ℕ) → j < 512 → get_or counts j 0 ≤ 262144

pub record Zeros (counts : List ℕ) : Type 0 where
  pub long : length counts ≡ 512
  pub zeros : (j : ℕ) → j < 512 → get_or counts j 0 ≡ 0

pub record OneMore (counts counts' : List ℕ) (base w rank : ℕ) : Type 0 where
  pub long : length counts' ≡ length counts
  pub more : (j : ℕ) → j < 512 → get_or counts' j 0 ≡ get_or counts j 0 + cond (in_run base w j rank) 1 0

pub record RunCounts (q : List ℕ) (base w : ℕ) (counts : List ℕ) : Type 0 where
  pub counted : (j : ℕ) → j < 512 → get_or counts j 0 ≡ run_count q base w j (length q)

-- The limit is one of the w ranks from `base` on: at most K ranks are behind them, and `base` is 0 or more than K are at or behind it.
pub record Inside (q : List ℕ) (K w : ℕ) (at : Found) : Type 0 where
  pub over : at.over ≡ from q (at.base + w)
  pub few : at.over ≤ K
  pub least : (at.base ≡ 0) ⊎ (K < from q at.base)

-- Entry n stays: it is not zero, and its rank is above the limit, or is the limit and fewer than `left` of that rank come before it.
abbrev pub sifts : ℕ → ℕ → List ℕ → ℕ → Bool
sifts limit left q n = ltb 0 (get_or q n 0) && (ltb limit (get_or q n 0) || (eqb limit (get_or q n 0) && ltb (ties q limit n) left))

abbrev pub sifted_of : ℕ → ℕ → ℕ → ℕ → ℕ → List ℤ → List ℤ
sifted_of R h w limit left p = let q = ranks R h w (image_of h p) in slice_of h w (select R h w (sifts limit left q) (image_of h p))

pub record Sifted (R h w limit left : ℕ) (plane plane' : List ℤ) (count : ℕ) : Type 0 where
  pub planes : plane' ≡ sifted_of R h w limit left plane
  pub counts : count ≡ entries_of R h w plane'
