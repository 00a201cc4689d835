-- A picture that was decomposed, and what is left to print of it. Assumes nothing.
use Rattle.std.specs.Prelude.{◌≡◌, true, List, ℕ, ◌*◌, ltb, ℤ, length}
use Rattle.integers.specs.Lists.{every}
use Rattle.pyramid.specs.Slices.{plane_of, covers_of}
use Rattle.quota.specs.Quota.{kept_of, quota_limit}
use Rattle.coder.specs.Entries.{is_sample}
use Rattle.sheet_text.specs.Sheet.{sheet_text}
use Rattle.cutting.specs.Cutter.{print_if}

-- A plane and coverings that decomposing gives for some picture.
pub record OfPicture (h w R : ℕ) (p : List ℤ) (c : List ℕ) : Type 0 where
  pub samples : List ℕ
  pub long : length samples ≡ w * h
  pub good : every is_sample samples ≡ true
  pub plane : p ≡ plane_of R h w samples
  pub covers : c ≡ covers_of R h w samples

-- What `picture_text` is where every sample is in its range: 7, or the sheet.
abbrev pub kept_text : ℕ → ℕ → ℕ → ℕ → List ℤ → List ℕ → List ℕ
kept_text h w R K p c = print_if (ltb (quota_limit h w R) K) 7 (sheet_text h w R (kept_of R h w K p) c)
