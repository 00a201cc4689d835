-- A sheet of at most 32 by 32 has at most 65,536 bytes. Assumes nothing.
use mathlib.Core.Path.{◌≡◌, ap}
use mathlib.Core.Bool.{Bool, true, false, cond}
use mathlib.Core.List.{List, [], ◌∷◌}
use Prim.Native.Nat.{ℕ, zero, suc, ◌+◌, ◌*◌, ◌/◌, ◌≤◌}
use native.Mathlib.Omega.{arith}
use native.Mathlib.Nat.{mul-le-mul}
use lib.Dec.{T, leb, leb→le}
use lib.IntN.{ℤ}
use lib.ListN.{length, length-append}
use Rattle.integers.proofs.Tests.{up_to, up_to_at}
use Rattle.pyramid.specs.Plane.{Image, all_blocks}
use Rattle.pyramid.specs.Places.{Place, BlockPlace, at, plane_places, block_places}
use Rattle.pyramid.specs.Sides.{is_sides, is_depth}
use Rattle.pyramid.specs.Slices.{image_of}
use Rattle.places.proofs.Sides.{Passed, passed}
use Rattle.text.specs.Text.{rows_text, row_text}
use Rattle.text.proofs.Stamp.{four_row, five_row, four_bound, five_length, value_length, width_le}
use Rattle.integers.specs.Zero.{is_zero}
use Rattle.sheet_text.specs.Rows.{entry_row, with_row, block_row, block_rows, entry_rows}
use Rattle.sheet_text.specs.Sheet.{sheet_text}
use Rattle.sheet_text.proofs.Layouts.{count, blocks_count}
use Rattle.sheet_render.proofs.Pieces.{sheet_length}

block_lines : (bs : List BlockPlace) (cs : List ℕ) → length (rows_text (block_rows bs cs)) ≤ 44 * length bs
unfolding rows_text block_rows
block_lines [] cs = omega arith
block_lines (b ∷ bs) [] = omega arith
block_lines (b ∷ bs) (c ∷ cs) =
    omega (
      arith,
      length-append (row_text (block_row b c)) (rows_text (block_rows bs cs)),
      ap length (four_row b.level b.row b.col c),
      four_bound b.level b.row b.col c 10,
      block_lines bs cs,
    )

entry_line : (p : Place) (v : ℤ) (rs : List (List ℤ)) (m : ℕ) → length (rows_text rs) ≤ m → length (rows_text (with_row p v rs)) ≤ 56 + m
unfolding rows_text
entry_line p v rs m l = go (is_zero v)
  where
    go : (z : Bool) → length (rows_text (cond z rs (entry_row p v ∷ rs))) ≤ 56 + m
    go true = omega arith
    go false =
        omega (
          arith,
          length-append (row_text (entry_row p v)) (rows_text rs),
          ap length (five_row p.level p.band p.row p.col v),
          five_length p.level p.band p.row p.col v,
          four_bound p.level p.band p.row p.col 32,
          value_length v,
        )

entry_lines : (P : Image) (ps : List Place) → length (rows_text (entry_rows P ps)) ≤ 56 * length ps
unfolding rows_text entry_rows
entry_lines P [] = omega arith
entry_lines P (p ∷ ps) = omega (arith, entry_line p (at P p) (entry_rows P ps) (56 * length ps) (entry_lines P ps))

-- a larger picture has no fewer blocks
more_blocks : (R h w m n : ℕ) → h ≤ m → w ≤ n → all_blocks R h w ≤ all_blocks R m n
more_blocks zero h w m n a b = omega arith
more_blocks (suc R) h w m n a b =
    let x : h / 4 ≤ m / 4 = omega arith in
    let y : w / 4 ≤ n / 4 = omega arith in
    omega (arith, mul-le-mul y x, more_blocks R (h / 2) (w / 2) (m / 2) (n / 2) (omega arith) (omega arith))

pub few_blocks : (h w R : ℕ) → h ≤ 32 → w ≤ 32 → R ≤ 8 → all_blocks R h w ≤ 85
few_blocks h w R a b k = omega (arith, more_blocks R h w 32 32 a b, leb→le (all_blocks R 32 32) 85 (up_to_at 9 (λ r. leb (all_blocks r 32 32) 85) tested R (omega arith)))
  where
    tested : T (up_to 9 (λ r. leb (all_blocks r 32 32) 85))
    tested = tt

entry_count : (h w R : ℕ) → Passed h w R → length (plane_places R h w) ≡ w * h
entry_count h w zero q = absurd (omega (arith, q.some_level))
entry_count h w (suc R) q = count R h w q.fits

pub sheet_bound : (h w R : ℕ) (P : List ℤ) (cs : List ℕ) → is_sides h w ≡ true → is_depth R h w ≡ true → h ≤ 32 → w ≤ 32 → length (sheet_text h w R P cs) ≤ 65536
sheet_bound h w R P cs a b l m =
    let q = passed h w R a b in
    let x = few_blocks h w R l m q.few in
    let y = mul-le-mul m l in
    omega (
      arith,
      sheet_length h w R P cs,
      width_le 10 h,
      width_le 10 w,
      width_le 10 R,
      block_lines (block_places R h w) cs,
      blocks_count 0 R h w,
      entry_lines (image_of h P) (plane_places R h w),
      entry_count h w R q,
    )
