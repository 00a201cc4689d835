-- Sides that are powers of two, and the levels that they fit. Assumes nothing.
use mathlib.Core.Path.{◌≡◌, ◌∙◌, subst}
use Prim.Native.Nat.{ℕ, zero, suc, ◌+◌, ◌-◌, ◌/◌, ◌%◌, ◌^◌, ◌<◌, ◌≤◌}
use native.Mathlib.Nat.{pow-succ'}
use native.Mathlib.Omega.{arith}
use native.Mathlib.Decide.{dec_lt}
use lib.Dec.{T, leb, leb→le, le→leb, eqb, eqb→eq}
use lib.Pow.{pow-lt, pow_mono}
use lib.ListN.{get_or}
use Rattle.integers.proofs.Tests.{both, both_left, both_right, up_to_at, one_of_at}
use Rattle.pyramid.specs.Plane.{Fits}
use Rattle.pyramid.specs.Sides.{sides, is_side, is_sides, is_depth, Side}
use Rattle.pyramid.specs.Laws.{SizeLaws}

-- a height and a width that are powers of two
pub sides_fit : (m n R : ℕ) → R < m → R < n → Fits R (2 ^ m) (2 ^ n)
sides_fit m n zero k l = tt
sides_fit zero n (suc R) k l = absurd (omega arith)
sides_fit (suc m) zero (suc R) k l = absurd (omega arith)
sides_fit (suc zero) (suc n) (suc R) k l = absurd (omega arith)
sides_fit (suc (suc m)) (suc zero) (suc R) k l = absurd (omega arith)
sides_fit (suc (suc m)) (suc (suc n)) (suc R) k l = (four m, four n, rest (sides_fit (suc m) (suc n) R (omega arith) (omega arith)))
  where
    four : (m : ℕ) → 2 ^ suc (suc m) % 4 ≡ 0
    four m = let p = pow-succ' 2 (suc m) in let q = pow-succ' 2 m in omega arith

    half : (m : ℕ) → 2 ^ suc (suc m) / 2 ≡ 2 ^ suc m
    half m = let p = pow-succ' 2 (suc m) in omega arith

    rest : Fits R (2 ^ suc m) (2 ^ suc n) → Fits R (2 ^ suc (suc m) / 2) (2 ^ suc (suc n) / 2)
    rest f = rw (half m, half n) f

-- a side that passes the test, and the test that a side passes
pub side_is : (n : ℕ) → T (is_side n) → Side n
side_is n t =
    let r = one_of_at sides n t in
    record { log = r.0 + 2; small = omega (arith, r.1); large = omega arith; is = r.2 ∙ eqb→eq (get_or sides r.0 0) (2 ^ (r.0 + 2)) (up_to_at 8 (λ i. eqb (get_or sides i 0) (2 ^ (i + 2))) tt r.0 r.1) }

side_passes : {n : ℕ} → Side n → T (is_side n)
side_passes s =
    let l = s.large in
    let e : s.log - 2 + 2 ≡ s.log = omega arith in
    rw s.is (subst (λ (m : ℕ). T (is_side (2 ^ m))) e (up_to_at 8 (λ i. is_side (2 ^ (i + 2))) tt (s.log - 2) (omega (arith, s.small))))

-- both of them
pub sides_are : (h w : ℕ) → T (is_sides h w) → T (is_side h) × T (is_side w)
unfolding is_sides
sides_are h w t = (both_left (is_side h) (is_side w) t, both_right (is_side h) (is_side w) t)

sides_pass : (h w : ℕ) → T (is_side h) → T (is_side w) → T (is_sides h w)
unfolding is_sides
sides_pass h w s t = both (is_side h) (is_side w) s t

-- the levels that pass the test leave a side of at least two
depth_below : (R m : ℕ) {n : ℕ} → n ≡ 2 ^ m → 2 ^ suc R ≤ n → R < m
depth_below R m e h = go (dec_lt R m)
  where
    go : Dec (R < m) → R < m
    go (yes l) = l
    go (no l) = let g = pow-lt {i = m} {j = suc R} (omega arith) in absurd (omega arith)

-- what the checks 1 and 2 leave
pub record Sized (R h w : ℕ) : Type 0 where
  pub tall : Side h
  pub wide : Side w
  pub some : 1 ≤ R
  pub fewer : R < tall.log
  pub narrower : R < wide.log

pub sized : (R h w : ℕ) → T (is_side h) → T (is_side w) → T (is_depth R h w) → Sized R h w
sized R h w s t d =
    let a = side_is h s in
    let b = side_is w t in
    let e = both_right (leb 1 R) _ d in
    record {
      tall = a;
      wide = b;
      some = leb→le 1 R (both_left (leb 1 R) _ d);
      fewer = depth_below R a.log a.is (leb→le (2 ^ suc R) h (both_left (leb (2 ^ suc R) h) _ e));
      narrower = depth_below R b.log b.is (leb→le (2 ^ suc R) w (both_right (leb (2 ^ suc R) h) _ e));
    }

pub sized_fits : {R h w : ℕ} → Sized R h w → Fits R h w
sized_fits {R} s = rw (s.tall.is, s.wide.is) (sides_fit s.tall.log s.wide.log R s.fewer s.narrower)

-- the levels of two sides
levels_pass : (R m : ℕ) {n : ℕ} → n ≡ 2 ^ m → 2 ≤ m → R ≤ m - 1 → T (leb (2 ^ suc R) n)
levels_pass R m e g l = rw e (le→leb (2 ^ suc R) (2 ^ m) (pow_mono {i = suc R} {j = m} (omega arith)))

pub size_laws : (h w : ℕ) → SizeLaws h w
size_laws h w = record {
  sides = ((λ t. let p = sides_are h w t in (side_is h p.0, side_is w p.1)), (λ p. sides_pass h w (side_passes p.0) (side_passes p.1)));
  depths = λ s t R. (
    (λ d.
        let e = both_right (leb 1 R) _ d in
        let a = depth_below R s.log s.is (leb→le (2 ^ suc R) h (both_left (leb (2 ^ suc R) h) _ e)) in
        let b = depth_below R t.log t.is (leb→le (2 ^ suc R) w (both_right (leb (2 ^ suc R) h) _ e)) in
        (leb→le 1 R (both_left (leb 1 R) _ d), omega arith, omega arith)),
    (λ p. both (leb 1 R) _ (le→leb 1 R p.0) (both (leb (2 ^ suc R) h) _ (levels_pass R s.log s.is s.large p.1) (levels_pass R t.log t.is t.large p.2))),
  );
  whole = λ R t d. let p = sides_are h w t in sized_fits (sized R h w p.0 p.1 d);
}

-- sides and levels are small
pub side_small : {n : ℕ} → Side n → n ≤ 512
side_small s = rw s.is (pow_mono {i = s.log} {j = 9} s.small)

pub levels_small : {R h w : ℕ} → Sized R h w → R ≤ 8
levels_small s = let a = s.fewer in let b = s.tall.small in omega arith
