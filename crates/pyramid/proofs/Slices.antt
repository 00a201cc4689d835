-- Slices stored down columns: an image and its slice agree. Assumes nothing.
use mathlib.Core.Path.{◌≡◌, sym, ap, ◌∙◌}
use mathlib.Core.List.{List}
use Prim.Native.Nat.{ℕ, zero, suc, ◌+◌, ◌*◌, ◌/◌, ◌%◌, ◌<◌, ◌-◌}
use native.Mathlib.Omega.{arith}
use native.Mathlib.Nat.{mod-lt, div-lt_iff_lt-mul, div-add-mod'}
use lib.ListN.{length, get_or}
use lib.Seq.{ext_get_or}
use native.Mathlib.Decide.{dec_lt}
use lib.IntN.{ℤ, pos}
use Rattle.integers.proofs.Tabulate.{length_tabulate, get_d_tabulate}
use Rattle.pyramid.specs.Plane.{Image, layout}
use Rattle.pyramid.specs.Slices.{image_of, slice_of}
use Rattle.integers.proofs.Index.{index_bound, column_row, column_col}
use Rattle.integers.proofs.Tests.{true_at, false_at}

abbrev pub Agree : ℕ → ℕ → Image → Image → Type 0
Agree h w A B = (y x : ℕ) → y < h → x < w → A y x ≡ B y x

pub agree_trans : (h w : ℕ) (A B C : Image) → Agree h w A B → Agree h w B C → Agree h w A C
agree_trans h w A B C e g y x k l = e y x k l ∙ g y x k l

-- an image and its slice
pub slice_at : (h w : ℕ) (A : Image) (k : ℕ) → k < w * h → get_or (slice_of h w A) k (pos 0) ≡ A (k % h) (k / h)
unfolding slice_of
slice_at h w A k l = get_d_tabulate (w * h) (λ k. A (k % h) (k / h)) (pos 0) k l

pub image_slice : (h w : ℕ) (A : Image) → Agree h w (image_of h (slice_of h w A)) A
image_slice h w A y x k l = slice_at h w A (x * h + y) (index_bound x y w h l k) ∙ λ t. A (column_row x y h k t) (column_col x y h k t)

pub slice_length : (h w : ℕ) (A : Image) → length (slice_of h w A) ≡ w * h
unfolding slice_of
slice_length h w A = length_tabulate (w * h) (λ k. A (k % h) (k / h))

-- a slice that agrees with an image is its slice
pub slice_of_law : (h w : ℕ) (A : Image) (l : List ℤ) → length l ≡ w * h → Agree h w (image_of h l) A → l ≡ slice_of h w A
slice_of_law h w A l n e =
    ext_get_or (pos 0) l (slice_of h w A) (n ∙ sym (slice_length h w A))
    (λ k b. let g : k < w * h = omega arith in
    ap (λ (z : ℕ). get_or l z (pos 0)) (sym (div-add-mod' k h)) ∙ e (k % h) (k / h) (mod-lt k (some h k g)) ((div-lt_iff_lt-mul (some h k g)).1 g) ∙ sym (slice_at h w A k g))
  where
    some : (h k : ℕ) → k < w * h → 0 < h
    some zero k l = absurd (omega arith)
    some (suc h) k l = omega arith

pub layout_cong : (h w : ℕ) → h % 4 ≡ 0 → w % 4 ≡ 0 → (B C : ℕ → Image) → ((b y x : ℕ) → b < 4 → y < h / 2 → x < w / 2 → B b y x ≡ C b y x) → Agree h w (layout h w B) (layout h w C)
layout_cong h w h4 w4 B C e y x k l = go (dec_lt y (h / 2)) (dec_lt x (w / 2))
  where
    go : Dec (y < h / 2) → Dec (x < w / 2) → layout h w B y x ≡ layout h w C y x
    go (yes a) (yes b) = rw (true_at y (h / 2) a, true_at x (w / 2) b) (e 0 y x (omega arith) a b)
    go (yes a) (no b) = rw (true_at y (h / 2) a, false_at x (w / 2) (omega arith)) (e 1 y (x - w / 2) (omega arith) a (omega arith))
    go (no a) (yes b) = rw (false_at y (h / 2) (omega arith), true_at x (w / 2) b) (e 2 (y - h / 2) x (omega arith) (omega arith) b)
    go (no a) (no b) = rw (false_at y (h / 2) (omega arith), false_at x (w / 2) (omega arith)) (e 3 (y - h / 2) (x - w / 2) (omega arith) (omega arith) (omega arith))
