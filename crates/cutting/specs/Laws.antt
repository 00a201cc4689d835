-- What the cutter makes of a picture: its sheet, kept to the quota. Assumes nothing.
use Rattle.std.specs.Prelude.{◌≡◌, List, [], ◌∷◌, ◌++◌, ℕ, ◌≤◌, pos}
use Rattle.pyramid.specs.Slices.{plane_of, covers_of}
use Rattle.quota.specs.Quota.{kept_of, quota_limit}
use Rattle.coder.specs.Claims.{Picture}
use Rattle.text.specs.Text.{render}
use Rattle.sheet_text.specs.Sheet.{sheet_text}
use Rattle.cutter_text.specs.Forms.{header_form, samples_form}
use Rattle.cutter_text.specs.Laws.{picture_rows}
use Rattle.cutting.specs.Cutter.{cutter_text}

-- Document 02, wish 2: "the cutter's input with `height width levels quota`", "height rows of width values": the input for a picture s, R levels and the quota K.
abbrev pub input_text : ℕ → ℕ → ℕ → ℕ → List ℕ → List ℕ
input_text h w R K s = render (header_form ++ samples_form h w) (((pos h ∷ pos w ∷ pos R ∷ pos K ∷ []) ∷ []) ∷ picture_rows h w s ∷ [])

pub record CutterLaws : Type 0 where
  -- the input of a good picture of at most 32 by 32, with a quota that passes 7, is not refused: the sheet of its kept plane is printed
  pub cuts : (h w R K : ℕ) (s : List ℕ) → Picture h w R s → h ≤ 32 → w ≤ 32 → K ≤ quota_limit h w R
      → cutter_text (input_text h w R K s) ≡ sheet_text h w R (kept_of R h w K (plane_of R h w s)) (covers_of R h w s)
