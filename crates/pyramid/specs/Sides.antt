-- Heights, widths, levels and lengths: what the checks 1, 2 and 3 look at. An image has a height h and a width w. Assumes nothing.
use Rattle.std.specs.Prelude.{◌≡◌, Bool, ◌&&◌, List, [], ◌∷◌, ℕ, suc, ◌*◌, ◌^◌, ◌≤◌, leb, eqb, length}
use Rattle.integers.specs.Lists.{one_of}
use Rattle.pyramid.specs.Plane.{all_blocks}

-- Document 01: "Side N is a power of two, 4 to 512."
abbrev pub sides : List ℕ
sides = 4 ∷ 8 ∷ 16 ∷ 32 ∷ 64 ∷ 128 ∷ 256 ∷ 512 ∷ []

abbrev pub is_side : ℕ → Bool
is_side n = one_of sides n

-- The same as a fact.
pub record Side (n : ℕ) : Type 0 where
  pub log : ℕ
  pub small : log ≤ 9
  pub large : 2 ≤ log
  pub is : n ≡ 2 ^ log

-- Document 02, wish 2: "Height and width may each be any power of two from 4 to 512."
unfoldable pub is_sides : ℕ → ℕ → Bool
is_sides h w = is_side h && is_side w

-- Document 01: "Levels R run from 1 to log2(N)-1", that is, 2 to the power R+1 is at most N; document 02, wish 2: "levels go up to log2 of the smaller minus 1",
-- that is, it is at most both.
abbrev pub is_depth : ℕ → ℕ → ℕ → Bool
is_depth R h w = leb 1 R && (leb (2 ^ suc R) h && leb (2 ^ suc R) w)

-- A slice as long as the plane, and one as long as the list of coverings.
abbrev pub is_plane : {A : Type 0} → ℕ → ℕ → List A → Bool
is_plane h w l = eqb (length l) (w * h)

abbrev pub is_coverings : {A : Type 0} → ℕ → ℕ → ℕ → List A → Bool
is_coverings R h w l = eqb (length l) (all_blocks R h w)
