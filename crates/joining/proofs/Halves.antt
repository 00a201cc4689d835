-- Planes joined level by level: after some levels the joined plane stands outside of an upper left rectangle, in which the joined other levels are to stand.
-- Assumes nothing.
use mathlib.Core.Path.{◌≡◌, refl, sym, ap, ◌∙◌, subst}
use mathlib.Core.List.{List}
use Prim.Native.Nat.{ℕ, zero, suc, ◌+◌, ◌*◌, ◌-◌, ◌/◌, ◌%◌, ◌<◌, ◌≤◌}
use native.Mathlib.Omega.{arith}
use native.Mathlib.Decide.{dec_lt}
use native.Mathlib.Nat.{zero-add, mul-le-mul_right, le_refl}
use lib.IntN.{ℤ}
use lib.ListN.{length}
use Rattle.pyramid.specs.Plane.{Image, Fits, top, left, band, layout, with_low}
use Rattle.pyramid.specs.Slices.{image_of}
use Rattle.pyramid.proofs.Levels.{layout_low, layout_band}
use Rattle.pyramid.proofs.Order.{InBand, in_band_law}
use Rattle.pyramid.proofs.Slices.{Agree, slice_of_law}
use Rattle.strips.specs.Join.{beside, joined, joined_of}
use Rattle.strips.proofs.Beside.{wide_four, wide_half}
use Rattle.joining.specs.Pairs.{PairRoom, Paired, PlaneRoom}

-- k levels are to be joined, in the upper left m rows and n + n columns
pub record Half (R h w k m n : ℕ) (p q out : List ℤ) : Type 0 where
  pub fits : Fits k m n
  pub some : 0 < n
  pub tall : m ≤ h
  pub wide : n ≤ w
  pub long : length out ≡ (w + w) * h
  pub inner : Agree m (n + n) (joined R h w (image_of h p) (image_of h q)) (joined k m n (image_of h p) (image_of h q))
  pub done : (y x : ℕ) → y < h → x < w + w → (y < m → x < n + n → ⊥) → image_of h out y x ≡ joined R h w (image_of h p) (image_of h q) y x

pub half_start : (R h w : ℕ) (p q out : List ℤ) → PlaneRoom R h w (length p) (length q) (length out) → Half R h w R h w p q out
half_start R h w p q out s = record {
  fits = s.fits;
  some = s.some;
  tall = le_refl h;
  wide = le_refl w;
  long = s.out;
  inner = λ y x k l. refl;
  done = λ y x k l outside. absurd (outside k l);
}

-- room for n columns from c on, of w
room : (h t c m n w : ℕ) {l r o : ℕ} → 0 < n → t + m ≤ h → c + n ≤ w → l ≡ w * h → r ≡ w * h → o ≡ (w + w) * h → PairRoom h t c m n l r o
room h t c m n w s a b e f g = record {
  some = s;
  tall = a;
  left = omega (arith, mul-le-mul_right h b);
  right = omega (arith, mul-le-mul_right h b);
  out = omega (arith, mul-le-mul_right h twice);
}
  where
    twice : c + c + (n + n) ≤ w + w
    twice = omega arith

-- a level is left
opened : {R h w r m n : ℕ} {p q out : List ℤ} → Half R h w r m n p q out → 0 < r → Half R h w (suc (r - 1)) m n p q out
opened {R} {h} {w} {r} {m} {n} {p} {q} {out} H l = let e : r ≡ suc (r - 1) = omega arith in subst (λ (k : ℕ). Half R h w k m n p q out) e H

module _ {R h w r m n : ℕ} {p q out : List ℤ} (before : Half R h w r m n p q out) (some : 0 < r) (pl : length p ≡ w * h) (ql : length q ≡ w * h) where
  abbrev k : ℕ
  k = r - 1

  H : Half R h w (suc k) m n p q out
  H = opened before some

  pub room_right : PairRoom h 0 (n / 2) m (n / 2) (length p) (length q) (length out)
  room_right = let f = H.fits.1 in let s = H.some in let t = H.tall in let v = H.wide in room h 0 (n / 2) m (n / 2) w (omega arith) (omega arith) (omega arith) pl ql H.long

  module _ {mid : List ℤ} (A : Paired h 0 (n / 2) m (n / 2) p q out mid) where
    pub room_below : PairRoom h (m / 2) 0 (m / 2) (n / 2) (length p) (length q) (length mid)
    room_below = let f = H.fits.1 in let s = H.some in let t = H.tall in let v = H.wide in room h (m / 2) 0 (m / 2) (n / 2) w (omega arith) (omega arith) (omega arith) pl ql (A.long ∙ H.long)

    module _ {new : List ℤ} (B : Paired h (m / 2) 0 (m / 2) (n / 2) p q mid new) where
      abbrev P : Image
      P = image_of h p

      abbrev Q : Image
      Q = image_of h q

      n4 : n % 4 ≡ 0
      n4 = H.fits.1

      -- the bands of the level stand side by side
      in_place : (b : ℕ) → b < 3 → (y x : ℕ) → y < m / 2 → x < n / 2 + n / 2 → image_of h new (top m (suc b) + y) (left (n + n) (suc b) + x) ≡ beside (n / 2) (band m n P (suc b)) (band m n Q (suc b)) y x
      in_place zero c y x k l =
          let t = H.tall in
          ap (λ (i : ℕ). image_of h new (0 + y) (i + x)) (wide_half n n4)
          ∙ B.other (0 + y) (n / 2 + n / 2 + x) (omega arith) (λ g i j o. omega arith)
          ∙ A.pair y x (omega arith) l
      in_place (suc zero) c y x k l =
          let e : 0 + x ≡ 0 + 0 + x = omega arith in
          ap (image_of h new (m / 2 + y)) e ∙ B.pair y x k l
      in_place (suc (suc zero)) c y x k l =
          let t = H.tall in
          let e : m / 2 + y ≡ 0 + (m / 2 + y) = omega arith in
          ap (λ (i : ℕ). image_of h new (m / 2 + y) (i + x)) (wide_half n n4)
          ∙ B.other (m / 2 + y) (n / 2 + n / 2 + x) (omega arith) (λ g i j o. omega arith)
          ∙ ap (λ (i : ℕ). image_of h mid i (n / 2 + n / 2 + x)) e
          ∙ A.pair (m / 2 + y) x (omega arith) l
          ∙ ap (λ (i : ℕ). beside (n / 2) (λ y x. P y (n / 2 + x)) (λ y x. Q y (n / 2 + x)) i x) (sym e)
      in_place (suc (suc (suc b))) c y x k l = absurd (omega arith)

      abbrev laid : ℕ → Image
      laid = with_low (joined k (m / 2) (n / 2) P Q) (λ b. beside (n / 2) (band m n P b) (band m n Q b))

      inside : (y x : ℕ) → y < m → x < n + n → (y < m / 2 → x < n / 2 + n / 2 → ⊥) → image_of h new y x ≡ joined R h w P Q y x
      unfolding joined
      inside y x a b outside = on s.band s.some s.down s.across
        where
          s : InBand m (n + n) y x
          s = in_band_law m (n + n) y x H.fits.0 (wide_four n n4) a b

          on : (i : ℕ) → i < 4 → top m i + s.row ≡ y → left (n + n) i + s.col ≡ x → image_of h new y x ≡ joined R h w P Q y x
          on zero c e g = absurd (outside (omega (arith, s.tall)) (omega (arith, s.wide, wide_half n n4)))
          on (suc i) c e g =
              (λ t. image_of h new (sym e t) (sym g t))
              ∙ in_place i (omega arith) s.row s.col s.tall (omega (arith, s.wide, wide_half n n4))
              ∙ sym (layout_band m (n + n) laid (suc i) s.row s.col c s.tall s.wide)
              ∙ (λ t. layout m (n + n) laid (e t) (g t))
              ∙ sym (H.inner y x a b)

      pub half-turn : Half R h w k (m / 2) (n / 2) p q new
      unfolding joined
      half-turn = record {
        fits = H.fits.2;
        some = let s = H.some in omega (arith, n4);
        tall = let t = H.tall in omega arith;
        wide = let v = H.wide in omega arith;
        long = B.long ∙ A.long ∙ H.long;
        inner = λ y x a b. H.inner y x (omega arith) (omega arith) ∙ layout_low m (n + n) laid y x a (omega (arith, wide_half n n4));
        done = λ y x a b outside. all y x a b outside (dec_lt y m) (dec_lt x (n + n));
      }
        where
          apart : (y x : ℕ) → y < h → x < w + w → (y < m → x < n + n → ⊥) → image_of h new y x ≡ joined R h w P Q y x
          apart y x a b outside =
              B.other y x a (λ g i j o. outside (omega arith) (omega arith))
              ∙ A.other y x a (λ g i j o. outside (omega arith) (omega arith))
              ∙ H.done y x a b outside

          all : (y x : ℕ) → y < h → x < w + w → (y < m / 2 → x < n / 2 + n / 2 → ⊥) → Dec (y < m) → Dec (x < n + n) → image_of h new y x ≡ joined R h w P Q y x
          all y x a b outside (yes c) (yes d) = inside y x c d outside
          all y x a b outside (yes c) (no d) = apart y x a b (λ i j. d j)
          all y x a b outside (no c) d = apart y x a b (λ i j. c i)

-- after the last level the low-passes are left
module _ {R h w r m n : ℕ} {p q out : List ℤ} (before : Half R h w r m n p q out) (none : r ≤ 0) (pl : length p ≡ w * h) (ql : length q ≡ w * h) where
  H₀ : Half R h w 0 m n p q out
  H₀ = let e : r ≡ 0 = omega arith in subst (λ (k : ℕ). Half R h w k m n p q out) e before

  pub room_low : PairRoom h 0 0 m n (length p) (length q) (length out)
  room_low = let s = H₀.some in let t = H₀.tall in let v = H₀.wide in room h 0 0 m n w (omega arith) (omega arith) (omega arith) pl ql H₀.long

  pub half_end : {new : List ℤ} → Paired h 0 0 m n p q out new → new ≡ joined_of R h w p q
  unfolding joined
  half_end {new} A = slice_of_law h (w + w) (joined R h w (image_of h p) (image_of h q)) new (A.long ∙ H₀.long) (λ y x a b. all y x a b (dec_lt y m) (dec_lt x (n + n)))
    where
      inside : (y x : ℕ) → y < m → x < n + n → image_of h new y x ≡ joined R h w (image_of h p) (image_of h q) y x
      inside y x a b =
          let e : x ≡ 0 + 0 + x = omega arith in
          (λ i. image_of h new (sym (zero-add y) i) (e i))
          ∙ A.pair y x a b
          ∙ (λ i. beside n (λ y x. image_of h p y (zero-add x i)) (λ y x. image_of h q y (zero-add x i)) (zero-add y i) x)
          ∙ sym (H₀.inner y x a b)

      apart : (y x : ℕ) → y < h → x < w + w → (y < m → x < n + n → ⊥) → image_of h new y x ≡ joined R h w (image_of h p) (image_of h q) y x
      apart y x a b outside = A.other y x a (λ g i j o. outside (omega arith) (omega arith)) ∙ H₀.done y x a b outside

      all : (y x : ℕ) → y < h → x < w + w → Dec (y < m) → Dec (x < n + n) → image_of h new y x ≡ joined R h w (image_of h p) (image_of h q) y x
      all y x a b (yes c) (yes d) = inside y x c d
      all y x a b (yes c) (no d) = apart y x a b (λ i j. d j)
      all y x a b (no c) d = apart y x a b (λ i j. c i)
