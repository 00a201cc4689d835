-- Two images side by side: their columns, their slices, and the sides of what is twice as wide. Assumes nothing.
use mathlib.Core.Path.{◌≡◌, refl, sym, ap, ◌∙◌, subst}
use mathlib.Core.Bool.{Bool, true, false, cond}
use mathlib.Core.List.{List, ◌++◌}
use Prim.Native.Nat.{ℕ, zero, suc, ◌+◌, ◌*◌, ◌-◌, ◌/◌, ◌%◌, ◌<◌}
use native.Mathlib.Omega.{arith}
use native.Mathlib.Decide.{dec_lt}
use lib.Dec.{ltb}
use lib.IntN.{ℤ, pos}
use lib.ListN.{length, get_or, length-append, get_or-append}
use lib.Seq.{get_or-append-add}
use Rattle.integers.proofs.Tests.{true_at, false_at}
use Rattle.integers.proofs.Index.{index_bound}
use Rattle.pyramid.specs.Plane.{Image, Fits, blocks, all_blocks, halved}
use Rattle.pyramid.specs.Slices.{image_of, slice_of}
use Rattle.pyramid.proofs.Slices.{Agree, image_slice, slice_length, slice_of_law}
use Rattle.strips.specs.Join.{beside}

-- the left part's columns, then the right's
pub beside_left : (w : ℕ) (A B : Image) (y x : ℕ) → x < w → beside w A B y x ≡ A y x
beside_left w A B y x l = rw (true_at x w l) refl

pub beside_right : (w : ℕ) (A B : Image) (y x k : ℕ) → x ≡ w + k → beside w A B y x ≡ B y k
beside_right w A B y x k e = rw (false_at x w (omega arith)) (ap (B y) less)
  where
    less : x - w ≡ k
    less = omega arith

-- a statement of each column of the left part and of each of the right
pub by_part : (w : ℕ) (Q : ℕ → Type 0) → ((x : ℕ) → x < w → Q x) → ((x : ℕ) → x < w → Q (w + x)) → (x : ℕ) → x < w + w → Q x
by_part w Q f g x l = go (dec_lt x w)
  where
    go : Dec (x < w) → Q x
    go (yes a) = f x a
    go (no a) = let e : w + (x - w) ≡ x = omega arith in subst Q e (g (x - w) (omega arith))

pub beside_agree : (h w : ℕ) (J A B : Image) → Agree h w J A → ((y x : ℕ) → y < h → x < w → J y (w + x) ≡ B y x) → Agree h (w + w) J (beside w A B)
beside_agree h w J A B f g y x k l =
    by_part w (λ x. J y x ≡ beside w A B y x)
    (λ x a. f y x k a ∙ sym (beside_left w A B y x a))
    (λ x a. g y x k a ∙ sym (beside_right w A B y (w + x) x refl))
    x l

pub beside_cong : (h w : ℕ) (A B C D : Image) → Agree h w A C → Agree h w B D → Agree h (w + w) (beside w A B) (beside w C D)
beside_cong h w A B C D e g =
    beside_agree h w (beside w A B) C D
    (λ y x k l. beside_left w A B y x l ∙ e y x k l)
    (λ y x k l. beside_right w A B y (w + x) x refl ∙ g y x k l)

pub beside_map : (f : ℤ → ℤ) (w : ℕ) (A B : Image) (y x : ℕ) → f (beside w A B y x) ≡ beside w (λ y x. f (A y x)) (λ y x. f (B y x)) y x
beside_map f w A B y x = go (ltb x w) (A y x) (B y (x - w))
  where
    go : (t : Bool) (a b : ℤ) → f (cond t a b) ≡ cond t (f a) (f b)
    go true a b = refl
    go false a b = refl

-- slices run down columns, so side by side is one after the other
pub image_append : (h w : ℕ) (a b : List ℤ) → length a ≡ w * h → Agree h (w + w) (image_of h (a ++ b)) (beside w (image_of h a) (image_of h b))
image_append h w a b n =
    beside_agree h w (image_of h (a ++ b)) (image_of h a) (image_of h b)
    (λ y x k l. get_or-append a b (pos 0) (x * h + y) (omega (arith, index_bound x y w h l k)))
    (λ y x k l. ap (λ (m : ℕ). get_or (a ++ b) m (pos 0)) (further x y) ∙ get_or-append-add a b (x * h + y) (pos 0))
  where
    further : (x y : ℕ) → (w + x) * h + y ≡ length a + (x * h + y)
    further x y = rw n (move w)
      where
        move : (w : ℕ) → (w + x) * h + y ≡ w * h + (x * h + y)
        move w = omega arith

pub slice_beside : (h w : ℕ) (J A B : Image) → Agree h (w + w) J (beside w A B) → slice_of h (w + w) J ≡ slice_of h w A ++ slice_of h w B
slice_beside h w J A B e =
    sym (slice_of_law h (w + w) J (a ++ b) long
    (λ y x k l.
    image_append h w a b (slice_length h w A) y x k l
    ∙ beside_cong h w (image_of h a) (image_of h b) A B (image_slice h w A) (image_slice h w B) y x k l
    ∙ sym (e y x k l)))
  where
    a : List ℤ
    a = slice_of h w A

    b : List ℤ
    b = slice_of h w B

    twice : (m : ℕ) → m * h + m * h ≡ (m + m) * h
    twice m = omega arith

    long : length (a ++ b) ≡ (w + w) * h
    long = length-append a b ∙ (λ i. slice_length h w A i + slice_length h w B i) ∙ twice w

-- twice as wide
pub wide_four : (w : ℕ) → w % 4 ≡ 0 → (w + w) % 4 ≡ 0
wide_four w e = omega arith

pub wide_half : (w : ℕ) → w % 4 ≡ 0 → (w + w) / 2 ≡ w / 2 + w / 2
wide_half w e = omega arith

pub wide_blocks : (h w : ℕ) → w % 4 ≡ 0 → blocks h (w + w) ≡ blocks h w + blocks h w
wide_blocks h w e = ap (λ (m : ℕ). m * (h / 4)) quarter ∙ twice (w / 4) (h / 4)
  where
    quarter : (w + w) / 4 ≡ w / 4 + w / 4
    quarter = omega arith

    twice : (m n : ℕ) → (m + m) * n ≡ m * n + m * n
    twice m n = omega arith

pub wide_fits : (R h w : ℕ) → Fits R h w → Fits R h (w + w)
wide_fits zero h w f = tt
wide_fits (suc R) h w f = (f.0, wide_four w f.1, rest (wide_fits R (h / 2) (w / 2) f.2))
  where
    rest : Fits R (h / 2) (w / 2 + w / 2) → Fits R (h / 2) ((w + w) / 2)
    rest g = rw (wide_half w f.1) g

pub wide_all : (R h w : ℕ) → Fits R h w → all_blocks R h (w + w) ≡ all_blocks R h w + all_blocks R h w
wide_all zero h w f = refl
wide_all (suc R) h w f =
    (λ i. wide_blocks h w f.1 i + all_blocks R (h / 2) (wide_half w f.1 i))
    ∙ ap (λ (m : ℕ). blocks h w + blocks h w + m) (wide_all R (h / 2) (w / 2) f.2)
    ∙ mix (blocks h w) (all_blocks R (h / 2) (w / 2))
  where
    mix : (m n : ℕ) → m + m + (n + n) ≡ m + n + (m + n)
    mix m n = omega arith

-- c tells how many columns a band of each level has
abbrev pub Columns : (ℕ → ℕ) → ℕ → ℕ → Type 0
Columns c d w = (k : ℕ) → c (suc d + k) ≡ halved (suc k) w

pub first_columns : (c : ℕ → ℕ) (d w : ℕ) → Columns c d w → c (suc d) ≡ w / 2
first_columns c d w e = let q : suc d ≡ suc d + 0 = omega arith in ap c q ∙ e 0

pub other_columns : (c : ℕ → ℕ) (d w : ℕ) → Columns c d w → Columns c (suc d) (w / 2)
other_columns c d w e k = let q : suc (suc d) + k ≡ suc d + suc k = omega arith in ap c q ∙ e (suc k)

-- they are what its level leaves of the width
pub level_columns : (w : ℕ) → Columns (λ r. halved r w) 0 w
level_columns w k = let q : 1 + k ≡ suc k = omega arith in ap (λ (r : ℕ). halved r w) q
