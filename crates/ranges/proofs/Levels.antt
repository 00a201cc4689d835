-- The ranges of a plane level by level: after some levels, that the plane is in range is that the levels left and the low-pass are. Assumes nothing.
use mathlib.Core.Path.{◌≡◌, refl, sym, ap, ◌∙◌, subst, subst⁻¹}
use mathlib.Core.Bool.{Bool, true, false}
use mathlib.Core.Logic.{◌↔◌}
use mathlib.Core.List.{List}
use Prim.Native.Nat.{ℕ, zero, suc, ◌+◌, ◌*◌, ◌-◌, ◌/◌, ◌%◌, ◌^◌, ◌<◌, ◌≤◌}
use native.Mathlib.Omega.{arith}
use native.Mathlib.Decide.{dec_lt}
use native.Mathlib.Nat.{mul-le-mul, mul-le-mul_right, pow-le-pow_right}
use lib.Dec.{T}
use lib.IntN.{ℤ, pos, nat_abs}
use lib.ListN.{length, get_or}
use Rattle.integers.proofs.Tests.{is_true, is_false}
use Rattle.slices.specs.Stores.{Room}
use Rattle.slices.proofs.Stores.{room_at}
use Rattle.pyramid.specs.Plane.{Fits, halved}
use Rattle.pyramid.specs.Places.{place_at, places_from, at}
use Rattle.pyramid.specs.Ranges.{in_range}
use Rattle.pyramid.specs.Slices.{image_of}
use Rattle.pyramid.proofs.Places.{All, all_places, of_places}
use Rattle.pyramid.proofs.Whole.{ranged}
use Rattle.places.proofs.Sides.{Passed}
use Rattle.ranges.specs.Bounds.{Bounded, Rectangle}

-- the bound of a level
abbrev pub most_at : ℕ → ℕ
most_at d = 2 * 4 ^ d * 4095

pub most_small : (d : ℕ) → d ≤ 8 → most_at d ≤ 536739840
most_small d l = omega (arith, pow-le-pow_right {n = 4} (omega arith) {i = d} {j = 8} l)

pub most_next : (d : ℕ) → most_at d * 4 ≡ most_at (suc d)
most_next d = omega arith

-- ---- one level of m by n: two rectangles are its bands
module _ (h : ℕ) (p : List ℤ) (r m n : ℕ) (m4 : m % 4 ≡ 0) (most : ℕ) where
  abbrev Bands : Type 0
  Bands = (b y x : ℕ) → b < 3 → y < m / 2 → x < n / 2 → nat_abs (at (image_of h p) (place_at m n r (suc b) y x)) ≤ most

  abbrev Right : Type 0
  Right = Rectangle false most p h (n / 2 * h) m (n / 2)

  abbrev Below : Type 0
  Below = Rectangle false most p h (m / 2) (m / 2) (n / 2)

  -- where an entry stands
  in_right : (y x : ℕ) → (n / 2 + x) * h + y ≡ n / 2 * h + (x * h + y)
  in_right y x = omega arith

  in_below : (y x : ℕ) → (0 + x) * h + (m / 2 + y) ≡ m / 2 + (x * h + y)
  in_below y x = omega arith

  moved : {i j : ℕ} → i ≡ j → nat_abs (get_or p j (pos 0)) ≤ most → nat_abs (get_or p i (pos 0)) ≤ most
  moved e l = subst⁻¹ (λ (i : ℕ). nat_abs (get_or p i (pos 0)) ≤ most) e l

  pub to_bands : Right → Below → Bands
  to_bands right below zero y x c k l = moved (in_right (0 + y) x ∙ up) (right y x (omega arith) l)
    where
      up : n / 2 * h + (x * h + (0 + y)) ≡ n / 2 * h + (x * h + y)
      up = omega arith
  to_bands right below (suc zero) y x c k l = moved (in_below y x) (below y x k l)
  to_bands right below (suc (suc zero)) y x c k l = moved (in_right (m / 2 + y) x) (right (m / 2 + y) x (omega arith) l)
  to_bands right below (suc (suc (suc b))) y x c k l = absurd (omega arith)

  pub to_right : Bands → Right
  to_right f y x k l = go (dec_lt y (m / 2))
    where
      go : Dec (y < m / 2) → nat_abs (get_or p (n / 2 * h + (x * h + y)) (pos 0)) ≤ most
      go (yes g) = let e : n / 2 * h + (x * h + y) ≡ (n / 2 + x) * h + (0 + y) = omega arith in moved e (f 0 y x (omega arith) g l)
      go (no g) =
          let s : y ≡ m / 2 + (y - m / 2) = omega arith in
          let e : n / 2 * h + (x * h + y) ≡ (n / 2 + x) * h + (m / 2 + (y - m / 2)) = ap (λ (y : ℕ). n / 2 * h + (x * h + y)) s ∙ sym (in_right (m / 2 + (y - m / 2)) x) in
          moved e (f 2 (y - m / 2) x (omega arith) (omega arith) l)

  pub to_below : Bands → Below
  to_below f y x k l = moved (sym (in_below y x)) (f 1 y x (omega arith) k l)

-- rows t to t + m of columns c to c + n, of w
room : (h w t c m n : ℕ) {o : ℕ} → t + m ≤ h → c + n ≤ w → o ≡ w * h → Room h m n (c * h + t) o
room h w t c m n {o} a b e = room_at h t c m n o a (omega (arith, e, mul-le-mul_right h b))

-- ---- the levels

-- the tetrolet entries behind the first d levels, and the low-pass after them
abbrev pub Ahead : ℕ → List ℤ → ℕ → ℕ → ℕ → ℕ → Type 0
Ahead h p d k m n = All (λ i q. nat_abs (at (image_of h p) q) ≤ most_at (q.level - 1)) (places_from false d k m n)

abbrev pub LowPass : ℕ → ℕ → ℕ → List ℤ → Type 0
LowPass R h w p = (y x : ℕ) → y < halved R h → x < halved R w → Bounded true (4095 * 4 ^ R) (image_of h p y x)

-- d levels are looked at, k are left, on m by n
pub record Looked (R h w : ℕ) (p : List ℤ) (d k m n : ℕ) : Type 0 where
  pub all : d + k ≡ R
  pub few : R ≤ 8
  pub fits : Fits k m n
  pub tall : m ≤ h
  pub wide : n ≤ w
  pub below : h ≤ 512
  pub across : w ≤ 512
  pub down : halved k m ≡ halved R h
  pub right : halved k n ≡ halved R w
  pub test : T (in_range R h w (image_of h p)) ↔ (Ahead h p d k m n × LowPass R h w p)

pub looked_start : (R h w : ℕ) (p : List ℤ) → Passed h w R → Looked R h w p 0 R h w
looked_start R h w p s = record {
  all = omega arith;
  few = s.few;
  fits = s.fits;
  tall = omega arith;
  wide = omega arith;
  below = s.tall;
  across = s.wide;
  down = refl;
  right = refl;
  test = go R s.some_level;
}
  where
    go : (R : ℕ) → 1 ≤ R → T (in_range R h w (image_of h p)) ↔ (Ahead h p 0 R h w × LowPass R h w p)
    go zero l = absurd (omega arith)
    go (suc R) l =
        let t = ranged R h w (image_of h p) in (
          (λ i. let r = t.0 i in (r.tetrolet, r.low)),
          (λ a. t.1 (record { low = a.1; tetrolet = a.0 })),
        )

module _ {R h w : ℕ} {p : List ℤ} {d k m n : ℕ} (L : Looked R h w p d (suc k) m n) where
  here : Ahead h p d (suc k) m n ↔ (Bands h p (suc d) m n L.fits.0 (most_at d) × Ahead h p (suc d) k (m / 2) (n / 2))
  here = (
    (λ a. let o = of_places (λ q. nat_abs (at (image_of h p) q) ≤ most_at (q.level - 1)) d k m n a in (subst (λ (r : ℕ). Bands h p (suc d) m n L.fits.0 (most_at r)) one o.0, o.1)),
    (λ a. all_places (λ i q. nat_abs (at (image_of h p) q) ≤ most_at (q.level - 1)) d k m n (subst⁻¹ (λ (r : ℕ). Bands h p (suc d) m n L.fits.0 (most_at r)) one a.0) a.1),
  )
    where
      one : suc d - 1 ≡ d
      one = omega arith

  -- a plane in range has both rectangles in theirs
  pub has_right : T (in_range R h w (image_of h p)) → Rectangle false (most_at d) p h (n / 2 * h) m (n / 2)
  has_right t = to_right h p (suc d) m n L.fits.0 (most_at d) (here.0 (L.test.0 t).0).0

  pub has_below : T (in_range R h w (image_of h p)) → Rectangle false (most_at d) p h (m / 2) (m / 2) (n / 2)
  has_below t = to_below h p (suc d) m n L.fits.0 (most_at d) (here.0 (L.test.0 t).0).0

  -- where they are in theirs, the other levels are left
  pub looked_turn : Rectangle false (most_at d) p h (n / 2 * h) m (n / 2) → Rectangle false (most_at d) p h (m / 2) (m / 2) (n / 2) → Looked R h w p (suc d) k (m / 2) (n / 2)
  looked_turn a b = record {
    all = let e = L.all in omega arith;
    few = L.few;
    fits = L.fits.2;
    tall = let e = L.tall in omega arith;
    wide = let e = L.wide in omega arith;
    below = L.below;
    across = L.across;
    down = L.down;
    right = L.right;
    test = (
      (λ t. let r = L.test.0 t in ((here.0 r.0).1, r.1)),
      (λ r. L.test.1 (here.1 (to_bands h p (suc d) m n L.fits.0 (most_at d) a b, r.0), r.1)),
    );
  }

-- after the last level the low-pass is left
pub looked_end : {R h w : ℕ} {p : List ℤ} {d m n : ℕ} → Looked R h w p d 0 m n → T (in_range R h w (image_of h p)) ↔ Rectangle true (most_at d / 2) p h 0 m n
unfolding places_from
looked_end {R} {h} {w} {p} {d} {m} {n} L = (
  (λ t y x k l. subst (λ (i : ℕ). Bounded true (most_at d / 2) (get_or p i (pos 0))) (up (x * h + y)) (subst⁻¹ (λ (b : ℕ). Bounded true b (image_of h p y x)) half ((L.test.0 t).1 y x (omega (arith, L.down)) (omega (arith, L.right))))),
  (λ r. L.test.1 (none, λ y x k l. subst (λ (b : ℕ). Bounded true b (image_of h p y x)) half (subst⁻¹ (λ (i : ℕ). Bounded true (most_at d / 2) (get_or p i (pos 0))) (up (x * h + y)) (r y x (omega (arith, L.down)) (omega (arith, L.right)))))),
)
  where
    up : (i : ℕ) → i ≡ 0 + i
    up i = omega arith

    same : d ≡ R
    same = let e = L.all in omega arith

    half : most_at d / 2 ≡ 4095 * 4 ^ R
    half = ap (λ (d : ℕ). most_at d / 2) same ∙ halve (4 ^ R)
      where
        halve : (a : ℕ) → 2 * a * 4095 / 2 ≡ 4095 * a
        halve a = omega arith

    none : Ahead h p d 0 m n
    none = λ i l. absurd (omega arith)

-- ---- in code: d of the R levels are looked at, k are left

-- what a turn asks
module _ {R h w : ℕ} {p : List ℤ} {d k m n : ℕ} (before : Looked R h w p d k m n) (k' : ℕ) (some : k ≡ suc k') (long : length p ≡ w * h) where
  pub now : Looked R h w p d (suc k') m n
  now = subst (λ (k : ℕ). Looked R h w p d k m n) some before

  pub room_right : Room h m (n / 2) (n / 2 * h) (length p)
  room_right x l = let a = before.tall in let b = before.wide in omega (arith, room h w 0 (n / 2) m (n / 2) (omega arith) (omega arith) long x l)

  pub room_below : Room h (m / 2) (n / 2) (m / 2) (length p)
  room_below x l = let a = before.tall in let b = before.wide in omega (arith, room h w (m / 2) 0 (m / 2) (n / 2) (omega arith) (omega arith) long x l)

  pub start_small : n / 2 * h ≤ 262144
  start_small = mul-le-mul half-small before.below
    where
      half-small : n / 2 ≤ 512
      half-small = let b = before.wide in let c = before.across in omega arith

  -- and what it leaves
  module _ {most : ℕ} (e : most ≡ most_at d) where
    pub most-here : most ≤ 536739840
    most-here = let l = before.few in omega (arith, e, most_small d (omega (arith, before.all)))

    pub not_right : (Rectangle false most p h (n / 2 * h) m (n / 2) → ⊥) → false ≡ in_range R h w (image_of h p)
    not_right f = sym (is_false (in_range R h w (image_of h p)) (λ t. f (subst⁻¹ (λ (b : ℕ). Rectangle false b p h (n / 2 * h) m (n / 2)) e (has_right now t))))

    pub not_below : (Rectangle false most p h (m / 2) (m / 2) (n / 2) → ⊥) → false ≡ in_range R h w (image_of h p)
    not_below f = sym (is_false (in_range R h w (image_of h p)) (λ t. f (subst⁻¹ (λ (b : ℕ). Rectangle false b p h (m / 2) (m / 2) (n / 2)) e (has_below now t))))

    deeper : suc d ≡ d + 1
    deeper = omega arith

    pub next-most : most * 4 ≡ most_at (d + 1)
    next-most = ap (λ (b : ℕ). b * 4) e ∙ most_next d ∙ ap most_at deeper

    pub next : Rectangle false most p h (n / 2 * h) m (n / 2) → Rectangle false most p h (m / 2) (m / 2) (n / 2) → Looked R h w p (d + 1) k' (m / 2) (n / 2)
    next a b =
        subst (λ (d : ℕ). Looked R h w p d k' (m / 2) (n / 2)) deeper
        (looked_turn now (subst (λ (b : ℕ). Rectangle false b p h (n / 2 * h) m (n / 2)) e a) (subst (λ (b : ℕ). Rectangle false b p h (m / 2) (m / 2) (n / 2)) e b))

-- and after the last
module _ {R h w : ℕ} {p : List ℤ} {d k m n : ℕ} (before : Looked R h w p d k m n) (none : k ≤ 0) (long : length p ≡ w * h) {most : ℕ} (e : most ≡ most_at d) where
  last : Looked R h w p d 0 m n
  last = let z : k ≡ 0 = omega arith in subst (λ (k' : ℕ). Looked R h w p d k' m n) z before

  pub room_low : Room h m n 0 (length p)
  room_low x l = omega (arith, room h w 0 0 m n (omega (arith, before.tall)) (omega (arith, before.wide)) long x l)

  pub low_small : most / 2 ≤ 268369920
  low_small = let l = before.few in omega (arith, e, most_small d (omega (arith, before.all)))

  pub decided : (r : Bool) → T r ↔ Rectangle true (most / 2) p h 0 m n → r ≡ in_range R h w (image_of h p)
  decided true t = let u = looked_end last in sym (is_true (in_range R h w (image_of h p)) (u.1 (subst (λ (b : ℕ). Rectangle true (b / 2) p h 0 m n) e (t.0 tt))))
  decided false t = let u = looked_end last in sym (is_false (in_range R h w (image_of h p)) (λ i. t.1 (subst⁻¹ (λ (b : ℕ). Rectangle true (b / 2) p h 0 m n) e (u.0 i))))
