-- Windows: a slice that shows each cell of a window is the window of the samples; the entries of a window. Assumes nothing.
use mathlib.Core.Path.{◌≡◌, sym, ap, ◌∙◌}
use mathlib.Core.List.{List}
use Prim.Native.Nat.{ℕ, ◌+◌, ◌*◌, ◌-◌, ◌/◌, ◌%◌, ◌<◌}
use native.Mathlib.Nat.{zero-add, div-add-mod'}
use native.Mathlib.Omega.{arith}
use lib.IntN.{ℤ, pos}
use lib.ListN.{length, get_or}
use lib.Seq.{ext_get_or}
use Rattle.integers.proofs.Index.{index_bound, index_place, column_row, column_col}
use Rattle.integers.proofs.Tabulate.{length_tabulate, get_d_tabulate}
use Rattle.pyramid.specs.Plane.{Image, listed, numerators}
use Rattle.pyramid.specs.Slices.{image_of, slice_of, sample_of, samples_of}
use Rattle.pyramid.proofs.Bounds.{get_d_map}
use Rattle.pyramid.proofs.Slices.{slice_length, image_slice}
use Rattle.windows.specs.declared.View.{View}
use Rattle.viewer.specs.Window.{view_of, window_of}
use Rattle.windows.specs.Shown.{Inside, sample_at, Shown}

-- the sample in row y, column x of the slice
sample_in : (R h w : ℕ) (cs : List ℕ) (plane : List ℤ) (y x : ℕ) → y < h → x < w → get_or (samples_of R h w cs plane) (x * h + y) 0 ≡ sample_at R h w cs plane y x
sample_in R h w cs plane y x k l =
    get_d_map (sample_of R) (slice_of h w Y) (pos 0) 0 (x * h + y) (omega (arith, slice_length h w Y, index_bound x y w h l k)) ∙ ap (sample_of R) (image_slice h w Y y x k l)
  where
    Y : Image
    Y = numerators R h w (listed cs) (image_of h plane)

-- ---- the entries of a window
pub long : (h : ℕ) (v : View) (s : List ℕ) → length (window_of h v s) ≡ v.wide * v.tall
unfolding window_of
long h v s = length_tabulate (v.wide * v.tall) _

pub at : (h : ℕ) (v : View) (s : List ℕ) (y x : ℕ) → y < v.tall → x < v.wide → get_or (window_of h v s) (x * v.tall + y) 0 ≡ get_or s ((v.left + x) * h + (v.top + y)) 0
unfolding window_of
at h v s y x k l = get_d_tabulate (v.wide * v.tall) _ 0 (x * v.tall + y) (index_bound x y v.wide v.tall l k) ∙ λ t. get_or s ((v.left + column_col x y v.tall k t) * h + (v.top + column_row x y v.tall k t)) 0

-- a slice as long that has at each place of the window what the samples have there
from_cells : (h : ℕ) (v : View) (s r : List ℕ) → length r ≡ v.wide * v.tall → ((y x : ℕ) → y < v.tall → x < v.wide → get_or r (x * v.tall + y) 0 ≡ get_or s ((v.left + x) * h + (v.top + y)) 0)
    → r ≡ window_of h v s
from_cells h v s r n f =
    ext_get_or 0 r (window_of h v s) (n ∙ sym (long h v s)) (λ k l. let z = index_place v.tall v.wide k (omega arith) in one k z.0 z.1)
  where
    one : (k : ℕ) → k % v.tall < v.tall → k / v.tall < v.wide → get_or r k 0 ≡ get_or (window_of h v s) k 0
    one k y x =
        ap (λ (m : ℕ). get_or r m 0) (sym (div-add-mod' k v.tall))
        ∙ f (k % v.tall) (k / v.tall) y x
        ∙ sym (at h v s (k % v.tall) (k / v.tall) y x)
        ∙ ap (λ (m : ℕ). get_or (window_of h v s) m 0) (div-add-mod' k v.tall)

pub window_is : (v : View) (R h w : ℕ) (cs : List ℕ) (plane : List ℤ) (s : List ℕ) → Inside v h w → length s ≡ v.wide * v.tall → ((y x : ℕ) → Shown v (sample_at R h w cs plane) s y x)
    → s ≡ window_of h v (samples_of R h w cs plane)
window_is v R h w cs plane s i n all = from_cells h v (samples_of R h w cs plane) s n one
  where
    less : (a b : ℕ) → a + b - a ≡ b
    less a b = omega arith

    one : (y x : ℕ) → y < v.tall → x < v.wide → get_or s (x * v.tall + y) 0 ≡ get_or (samples_of R h w cs plane) ((v.left + x) * h + (v.top + y)) 0
    one y x k l =
        sym (λ t. get_or s (less v.left x t * v.tall + less v.top y t) 0)
        ∙ all (v.top + y) (v.left + x) (omega arith) (omega arith) (omega arith) (omega arith)
        ∙ sym (sample_in R h w cs plane (v.top + y) (v.left + x) (omega (arith, i.down)) (omega (arith, i.across)))

pub whole : (h w : ℕ) (s : List ℕ) → length s ≡ w * h → window_of h (view_of 0 0 h w) s ≡ s
whole h w s n = sym (from_cells h (view_of 0 0 h w) s s n (λ y x k l. sym (λ t. get_or s (zero-add x t * h + zero-add y t) 0)))
