-- The laws of sheets: the bytes they are, and that both ways round are identities. Assumes nothing.
use Rattle.std.specs.Prelude.{ℕ, ◌≤◌, ◌≡◌, List, ◌++◌, ℤ, length}
use Rattle.sheet_text.specs.Sheet.{head_part, block_part, entry_part, sheet_text, write_refusal, read_refusal, rows_of, height_in, width_in, levels_in, plane_in, coverings_in}

-- What reading a text gives, into slices as long as the plane and the coverings.
pub record GivesBack (t : List ℕ) (h w R : ℕ) (P : List ℤ) (cs : List ℕ) : Type 0 where
  pub accepted : read_refusal t P cs ≡ 0
  pub height : height_in (rows_of t) ≡ h
  pub width : width_in (rows_of t) ≡ w
  pub levels : levels_in (rows_of t) ≡ R
  pub plane : plane_in (rows_of t) ≡ P
  pub coverings : coverings_in (rows_of t) ≡ cs

-- What writing again gives: the same text, into a buffer that holds it.
pub record GivesAgain (t : List ℕ) (h w R : ℕ) (P : List ℤ) (cs buffer : List ℕ) : Type 0 where
  pub accepted : length t ≤ length buffer → write_refusal h w R P cs buffer ≡ 0
  pub same : sheet_text h w R P cs ≡ t

pub record SheetLaws : Type 0 where
  -- the bytes of a sheet: it opens with the height, then the width, then the levels
  pub parts : (h w R : ℕ) (P : List ℤ) (cs : List ℕ) → sheet_text h w R P cs ≡ head_part h w R ++ (block_part R h w cs ++ entry_part R h w P)
  -- what write accepts, read accepts and gives back
  pub written_is_read : (h w R : ℕ) (P : List ℤ) (cs buffer : List ℕ) → write_refusal h w R P cs buffer ≡ 0 → GivesBack (sheet_text h w R P cs) h w R P cs
  -- what read accepts, write gives back byte for byte
  pub read_is_written : (t : List ℕ) (P : List ℤ) (cs buffer : List ℕ) → read_refusal t P cs ≡ 0
      → GivesAgain t (height_in (rows_of t)) (width_in (rows_of t)) (levels_in (rows_of t)) (plane_in (rows_of t)) (coverings_in (rows_of t)) buffer
