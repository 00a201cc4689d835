-- The cells of a plane's numerators, from the four blocks below a block to the whole slice. Assumes nothing.
use mathlib.Core.Path.{◌≡◌, refl, subst, subst⁻¹}
use mathlib.Core.Logic.{◌↔◌}
use mathlib.Core.Bool.{Bool, true, false}
use mathlib.Core.List.{List}
use Prim.Native.Nat.{ℕ, ◌+◌, ◌*◌, ◌-◌, ◌/◌, ◌%◌, ◌<◌, ◌≤◌}
use native.Mathlib.Omega.{arith}
use lib.Dec.{T}
use lib.IntN.{ℤ, pos}
use lib.ListN.{length}
use Rattle.integers.specs.Lists.{every}
use Rattle.integers.proofs.Index.{index_bound, index_place}
use Rattle.integers.proofs.Tests.{every_at, every_of}
use Rattle.coverings.specs.Rule.{Number}
use Rattle.kernel.specs.Kernel.{inverse_of, piecewise}
use Rattle.pyramid.specs.Plane.{Image, Fits, halved, listed, numerators}
use Rattle.pyramid.specs.Slices.{image_of, numerators_of}
use Rattle.pyramid.specs.Behind.{block_list}
use Rattle.pyramid.proofs.Behind.{block_at}
use Rattle.pyramid.proofs.Slices.{slice_at, slice_length, image_slice}
use Rattle.grid.proofs.Pieces.{every_piece}
use Rattle.blockwise.specs.declared.Node.{Node}
use Rattle.blockwise.specs.Cells.{AllIn}
use Rattle.blockwise.proofs.Cells.{cell_at_law, Halves, down, across, cell_below, cell_inside}
use Rattle.masters.specs.Whole.{is_whole, are_whole}
use Rattle.masters.specs.Cells.{WholeCell, AllAlong}

-- ---- a call's answer, by the branch on it
pub failed : (t : Bool) → t ≡ false → T t → ⊥
failed t e x = subst T e x

pub passed : (t : Bool) → t ≡ true → T t
passed t e = subst⁻¹ T e tt

-- what a call on a node r says, where r is a known node m
pub told : (m : Node) (cs : List ℕ) (plane : List ℤ) {r : Node} → r ≡ m → (t : Bool)
    → (T t ↔ AllIn (r.level - 1) (WholeCell r.levels r.height r.width cs plane) r.i r.j) → (T t ↔ AllIn (m.level - 1) (WholeCell m.levels m.height m.width cs plane) m.i m.j)
told m cs plane e t f = subst (λ (r : Node). T t ↔ AllIn (r.level - 1) (WholeCell r.levels r.height r.width cs plane) r.i r.j) e f

-- ---- sixteen values
sixteen_long : (A : Image) (i j : ℕ) → length (block_list A i j) ≡ 16
unfolding block_list
sixteen_long A i j = refl

module _ (f : ℤ → Bool) (A : Image) (i j : ℕ) where
  sixteen : T (every f (block_list A i j)) ↔ AllIn 0 (λ y x. T (f (A y x))) i j
  sixteen = (
    (λ t y x e g. subst (λ (z : ℤ). T (f z)) (cell_at_law A i j y x e g) (every_at f (block_list A i j) (pos 0) t (x % 4 * 4 + y % 4) (omega (arith, sixteen_long A i j)))),
    (λ all. every_of f (block_list A i j) (pos 0) (λ a l. subst⁻¹ (λ (z : ℤ). T (f z)) (block_at A i j a (omega (arith, sixteen_long A i j))) (all (i * 4 + a % 4) (j * 4 + a / 4) (omega arith) (omega (arith, sixteen_long A i j))))),
  )

-- a block of the first level, by the values of its pieces
pub top_says : (k : Node) (cs : List ℕ) (plane : List ℤ) → k.level ≡ 1 → {n : ℕ} (t : List ℤ) → Number n
    → inverse_of n t ≡ block_list (numerators k.levels k.height k.width (listed cs) (image_of k.height plane)) k.i k.j
    → {b : Bool} → b ≡ every (is_whole k.levels) (piecewise t) → (T b ↔ AllIn (k.level - 1) (WholeCell k.levels k.height k.width cs plane) k.i k.j)
top_says k cs plane one {n} t m e {b} f =
    let none : k.level - 1 ≡ 0 = omega arith in
    let s = sixteen (is_whole k.levels) (numerators k.levels k.height k.width (listed cs) (image_of k.height plane)) k.i k.j in
    let p = every_piece (is_whole k.levels) n t m in
    let q : T (every (is_whole k.levels) (piecewise t)) ↔ AllIn 0 (WholeCell k.levels k.height k.width cs plane) k.i k.j = (
      (λ x. s.0 (subst (λ (l : List ℤ). T (every (is_whole k.levels) l)) e (p.0 x))),
      (λ x. p.1 (subst⁻¹ (λ (l : List ℤ). T (every (is_whole k.levels) l)) e (s.1 x))),
    ) in
    rw (none, f) q

-- ---- the blocks of the last level
module _ (R h w : ℕ) (some : 1 ≤ R) (fits : Fits R h w) (P : ℕ → ℕ → Type 0) where
  abbrev d : ℕ
  d = R - 1

  rows : Halves d h
  rows = down d R h w (omega arith) fits

  columns : Halves d w
  columns = across d R h w (omega arith) fits

  pub column_of : (j : ℕ) → ((i : ℕ) → i < halved d h / 4 → AllIn d P i j) → AllAlong d P h j
  column_of j f y x k e = f (halved d (y / 4)) (cell_below d h y rows k) y x refl e

  pub in_column : (j : ℕ) → AllAlong d P h j → (i : ℕ) → i < halved d h / 4 → AllIn d P i j
  in_column j f i l y x e a = f y x (cell_inside d h y rows (omega arith)) a

  pub picture_of_law : ((j : ℕ) → j < halved d w / 4 → AllAlong d P h j) → (y x : ℕ) → y < h → x < w → P y x
  picture_of_law f y x k l = f (halved d (x / 4)) (cell_below d w x columns l) y x k refl

  pub in_picture : ((y x : ℕ) → y < h → x < w → P y x) → (j : ℕ) → j < halved d w / 4 → AllAlong d P h j
  in_picture f j l y x k e = f y x k (cell_inside d w x columns (omega arith))

-- ---- all numerators
pub every_cell : (R h w : ℕ) (cs : List ℕ) (plane : List ℤ) → T (are_whole R h w cs plane) ↔ ((y x : ℕ) → y < h → x < w → WholeCell R h w cs plane y x)
every_cell R h w cs plane = (
  (λ t y x k l. subst (λ (z : ℤ). T (is_whole R z)) (image_slice h w Y y x k l) (every_at (is_whole R) (numerators_of R h w cs plane) (pos 0) t (x * h + y) (omega (arith, slice_length h w Y, index_bound x y w h l k)))),
  (λ all. every_of (is_whole R) (numerators_of R h w cs plane) (pos 0)
      (λ n l. let z = index_place h w n (omega (arith, slice_length h w Y)) in subst⁻¹ (λ (z : ℤ). T (is_whole R z)) (slice_at h w Y n (omega (arith, slice_length h w Y))) (all (n % h) (n / h) z.0 z.1))),
)
  where
    Y : Image
    Y = numerators R h w (listed cs) (image_of h plane)
