-- What the cutter prints for an input. Assumes nothing.
use Rattle.std.specs.Prelude.{◌≡◌, Bool, true, false, not, ◌||◌, List, [], ◌++◌, ℕ, ltb, ℤ, length, get_or, drop}
use Rattle.std.proofs.Math.Option.{Option, none, some}
use Rattle.integers.specs.Lists.{every}
use Rattle.pyramid.specs.Sides.{is_sides, is_depth}
use Rattle.pyramid.specs.Slices.{plane_of, covers_of}
use Rattle.quota.specs.Quota.{kept_of, quota_limit}
use Rattle.coder.specs.Entries.{is_sample}
use Rattle.text.specs.Bytes.{bytes}
use Rattle.text.specs.Text.{Parsed, bad, got, sections, parse}
use Rattle.text.specs.Lines.{cell_at}
use Rattle.text.specs.Write.{cell_text}
use Rattle.sheet_text.specs.Sheet.{sheet_text}
use Rattle.cutter_text.specs.Forms.{header_form, samples_form}
use Rattle.cutter_text.specs.Picture.{picture_in}

-- Document 01: "A refusal prints `refusal`, then the number."
unfoldable pub refusal_text : ℕ → List ℕ
refusal_text n = bytes "refusal\n" ++ cell_text n 10

-- One check: the refusal with the number m where its condition holds, and else what the further checks give.
abbrev pub print_if : Bool → ℕ → List ℕ → List ℕ
print_if true m rest = refusal_text m
print_if false m rest = rest

-- Document 01: "cutter .. 4 7"; and else it "decomposes, keeps, and prints the sheet", here of the picture s.
unfoldable pub picture_text : ℕ → ℕ → ℕ → ℕ → List ℕ → List ℕ
picture_text h w R K s =
    print_if (not (every is_sample s)) 4
    (print_if (ltb (quota_limit h w R) K) 7
    (sheet_text h w R (kept_of R h w K (plane_of R h w s)) (covers_of R h w s)))

-- "9 on all that follows" the header: the rows, where the rest of the text holds them and nothing else.
unfoldable pub samples_text : ℕ → ℕ → ℕ → ℕ → Option (List (List (List ℤ))) → List ℕ
samples_text h w R K none = refusal_text 9
samples_text h w R K (some lines) = picture_text h w R K (picture_in h w (get_or lines 0 []))

-- "1 12 2", for the header's height h, width w, levels R and quota K and the bytes after it. Document 02, wish 2: "Refusals 1 and 12 look at both numbers."
unfoldable pub sizes_text : ℕ → ℕ → ℕ → ℕ → List ℕ → List ℕ
sizes_text h w R K rest =
    print_if (not (is_sides h w)) 1
    (print_if (ltb 32 h || ltb 32 w) 12
    (print_if (not (is_depth R h w)) 2
    (samples_text h w R K (parse (samples_form h w) rest))))

-- "9 on the header (its first two lines)".
unfoldable pub header_text : Parsed (List (List (List ℤ))) → List ℕ
header_text bad = refusal_text 9
header_text (got lines rest) = let r = get_or (get_or lines 0 []) 0 [] in sizes_text (cell_at r 0) (cell_at r 1) (cell_at r 2) (cell_at r 3) rest

-- "Input over 65,536 bytes is 9, before all else."
abbrev pub input_limit : ℕ
input_limit = 65536

unfoldable pub cutter_text : List ℕ → List ℕ
cutter_text t = print_if (ltb input_limit (length t)) 9 (header_text (sections header_form t))

-- A text at the front of a slice: n is its length, and the bytes after it are as they were.
pub record Printed (t old new : List ℕ) (n : ℕ) : Type 0 where
  pub size : n ≡ length t
  pub slice : new ≡ t ++ drop (length t) old
