-- A strip: a plane with its coverings, and the height, the width and the levels that they are of; what the checks 1, 2, 3, 5 and 6 ask of one. Assumes nothing.
use Rattle.std.specs.Prelude.{◌≡◌, Bool, ◌&&◌, List, ℕ, ◌+◌, ◌*◌, T, ℤ, length}
use Rattle.integers.specs.Lists.{every}
use Rattle.coverings.specs.Entry.{is_number}
use Rattle.pyramid.specs.Plane.{all_blocks}
use Rattle.pyramid.specs.Ranges.{in_range}
use Rattle.pyramid.specs.Sides.{is_sides, is_depth, is_plane, is_coverings}
use Rattle.pyramid.specs.Slices.{image_of}

pub record Strip : Type 0 where
  pub height : ℕ
  pub width : ℕ
  pub levels : ℕ
  pub plane : List ℤ
  pub coverings : List ℕ

abbrev pub strip_of : ℕ → ℕ → ℕ → List ℤ → List ℕ → Strip
strip_of h w R p cs = record { height = h; width = w; levels = R; plane = p; coverings = cs }

-- A strip of these slices, as high and as deep as another and twice as wide.
abbrev pub wide_of : Strip → List ℤ → List ℕ → Strip
wide_of s p cs = strip_of s.height (s.width + s.width) s.levels p cs

-- The tests of one strip by the table of document 01, with heights and widths as document 02, wish 2, has them. 1, side, and 2, depth:
abbrev pub is_sided : Strip → Bool
is_sided s = is_sides s.height s.width

abbrev pub is_deep : Strip → Bool
is_deep s = is_depth s.levels s.height s.width

-- 3, frame: "a plane .. or covering slice not of exact length".
abbrev pub is_framed : Strip → Bool
is_framed s = is_plane s.height s.width s.plane && is_coverings s.levels s.height s.width s.coverings

-- 5, tile: "covering 0 or over 117"; and 6, coefficient: "plane entry out of range".
abbrev pub is_numbered : Strip → Bool
is_numbered s = every is_number s.coverings

abbrev pub is_ranged : Strip → Bool
is_ranged s = in_range s.levels s.height s.width (image_of s.height s.plane)

-- The same as facts; 3 by the lengths themselves.
abbrev pub Sided : Strip → Type 0
Sided s = T (is_sided s)

abbrev pub Deep : Strip → Type 0
Deep s = T (is_deep s)

abbrev pub Framed : Strip → Type 0
Framed s = (length s.plane ≡ s.width * s.height) × (length s.coverings ≡ all_blocks s.levels s.height s.width)

abbrev pub Numbered : Strip → Type 0
Numbered s = T (is_numbered s)

abbrev pub Ranged : Strip → Type 0
Ranged s = T (is_ranged s)

-- Document 02, wish 8: "The checks are 1, 2, 3, 5, 6", as those of restoring.
pub record Passes (s : Strip) : Type 0 where
  pub sides : Sided s
  pub depth : Deep s
  pub frame : Framed s
  pub numbers : Numbered s
  pub ranges : Ranged s
