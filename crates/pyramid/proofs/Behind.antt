-- The levels behind the first d of a plane: where they lie, one level of them, and how large what they give back is. Assumes nothing.
use mathlib.Core.Path.{◌≡◌, refl, sym, ap, ◌∙◌, subst, subst⁻¹, fun_ext}
use mathlib.Core.Bool.{false}
use Prim.Native.Nat.{ℕ, zero, suc, ◌+◌, ◌*◌, ◌-◌, ◌/◌, ◌%◌, ◌^◌, ◌<◌, ◌≤◌}
use native.Mathlib.Nat.{zero-add, pow-succ', pow-le-pow_right, div-div-eq-div-mul, div-one, mul-le-mul, le_refl}
use native.Mathlib.Omega.{arith}
use lib.IntN.{pos, nat_abs, ◌*ℤ◌}
use lib.ListN.{get_or}
use Rattle.integers.proofs.Bound.{abs_mul}
use Rattle.integers.proofs.Tabulate.{get_d_tabulate}
use Rattle.pyramid.specs.Plane.{Image, Fits, Numbers, blocks, all_blocks, halved, band, with_low, block_of, after, merge_of, numerators}
use Rattle.pyramid.specs.Places.{Place, places_from, at}
use Rattle.pyramid.specs.Ranges.{Limited}
use Rattle.pyramid.specs.Behind.{values_behind, quad_of, block_list}
use Rattle.pyramid.proofs.Places.{All, of_places}
use Rattle.pyramid.proofs.Bounds.{bounded}

-- ---- sides
pub halved_suc : (d h : ℕ) → halved (suc d) h ≡ halved d h / 2
halved_suc zero h = refl
halved_suc (suc d) h = halved_suc d (h / 2)

pub halved_shift : (d h : ℕ) → h / 2 ^ d ≡ halved d h
halved_shift zero h = div-one h
halved_shift (suc d) h = ap (λ (n : ℕ). h / n) (pow-succ' 2 d) ∙ sym (div-div-eq-div-mul h 2 (2 ^ d)) ∙ halved_shift d (h / 2)

pub halved_all : (d t R h : ℕ) → d + t ≡ R → halved t (halved d h) ≡ halved R h
halved_all zero t R h e = let q : t ≡ R = omega arith in ap (λ (n : ℕ). halved n h) q
halved_all (suc d) t zero h e = absurd (omega arith)
halved_all (suc d) t (suc R) h e = halved_all d t R (h / 2) (omega arith)

pub fits_behind : (d t R h w : ℕ) → d + t ≡ R → Fits R h w → Fits t (halved d h) (halved d w)
fits_behind zero t R h w e f = let q : R ≡ t = omega arith in subst (λ (n : ℕ). Fits n h w) q f
fits_behind (suc d) t zero h w e f = absurd (omega arith)
fits_behind (suc d) t (suc R) h w e f = fits_behind d t R (h / 2) (w / 2) (omega arith) f.2

-- ---- blocks
pub blocks_behind : (d t R h w : ℕ) → d + t ≡ R → all_blocks R h w ≡ all_blocks d h w + all_blocks t (halved d h) (halved d w)
blocks_behind zero t R h w e = let q : R ≡ t = omega arith in omega (arith, ap (λ (n : ℕ). all_blocks n h w) q)
blocks_behind (suc d) t zero h w e = absurd (omega arith)
blocks_behind (suc d) t (suc R) h w e = omega (arith, blocks_behind d t R (h / 2) (w / 2) (omega arith))

-- one level's blocks, and what is behind them
pub next_blocks : (d h w : ℕ) → all_blocks (suc d) h w ≡ all_blocks d h w + blocks (halved d h) (halved d w)
next_blocks d h w = omega (arith, blocks_behind d 1 (suc d) h w (omega arith))

pub next_after : (d h w : ℕ) (cs : ℕ → ℕ) → after (all_blocks (suc d) h w) cs ≡ after (blocks (halved d h) (halved d w)) (after (all_blocks d h w) cs)
next_after d h w cs = fun_ext (λ k. ap cs (same k))
  where
    same : (k : ℕ) → all_blocks (suc d) h w + k ≡ all_blocks d h w + (blocks (halved d h) (halved d w) + k)
    same k = omega (arith, next_blocks d h w)

places_behind : (Q : Place → Type 0) (d t R e D h w : ℕ) → d + t ≡ R → e + d ≡ D → All (λ n p. Q p) (places_from false e R h w) → All (λ n p. Q p) (places_from false D t (halved d h) (halved d w))
places_behind Q zero t R e D h w p q a =
    let i : R ≡ t = omega arith in
    let j : e ≡ D = omega arith in
    subst (λ (n : ℕ). All (λ n p. Q p) (places_from false n t h w)) j (subst (λ (n : ℕ). All (λ n p. Q p) (places_from false e n h w)) i a)
places_behind Q (suc d) t zero e D h w p q a = absurd (omega arith)
places_behind Q (suc d) t (suc R) e D h w p q a = places_behind Q d t R (suc e) D (h / 2) (w / 2) (omega arith) (omega arith) (of_places Q e R h w a).1

-- ---- what they give back: all levels, none, and one level more
pub values_all : (R h w : ℕ) (cs : ℕ → ℕ) (P : Image) → values_behind 0 R h w cs P ≡ numerators R h w cs P
values_all R h w cs P = ap (λ (c : ℕ → ℕ). numerators R h w c P) (fun_ext (λ k. ap cs (zero-add k)))

pub values_none : (d h w : ℕ) (cs : ℕ → ℕ) (P : Image) → values_behind d 0 h w cs P ≡ P
unfolding numerators
values_none d h w cs P = refl

pub values_next : (d t h w : ℕ) (cs : ℕ → ℕ) (P : Image)
    → values_behind d (suc t) h w cs P ≡ merge_of (halved d h) (after (all_blocks d h w) cs) (with_low (values_behind (suc d) t h w cs P) (λ b y x. pos (4 ^ t) *ℤ band (halved d h) (halved d w) P b y x))
unfolding numerators
values_next d t h w cs P =
    sym (λ i. merge_of (halved d h) (after (all_blocks d h w) cs) (with_low (numerators t (halved_suc d h i) (halved_suc d w i) (next_after d h w cs i) P) (λ b y x. pos (4 ^ t) *ℤ band (halved d h) (halved d w) P b y x)))

-- ---- sizes
pub four_most : (R : ℕ) → R ≤ 8 → 4 ^ R ≤ 65536
four_most R l = pow-le-pow_right (omega arith) l

limit : (c d t : ℕ) → c ≤ d → t ≤ 8 → c * (2 + 3 * t) ≤ d * 26
limit c d t k l = mul-le-mul k (most l)
  where
    most : t ≤ 8 → 2 + 3 * t ≤ 26
    most l = omega arith

pub numbers_behind : (d t R h w : ℕ) (cs : ℕ → ℕ) → d + t ≡ R → Numbers (all_blocks R h w) cs → Numbers (all_blocks t (halved d h) (halved d w)) (after (all_blocks d h w) cs)
numbers_behind d t R h w cs e ns k l = ns (all_blocks d h w + k) (omega (arith, blocks_behind d t R h w e))

-- of a plane of limited size
module _ (R h w : ℕ) {c : ℕ} (cs : ℕ → ℕ) (P : Image) (most : R ≤ 8) (fits : Fits R h w) (numbers : Numbers (all_blocks R h w) cs) (size : Limited R h w c P) where
  abbrev Counted : Place → Type 0
  Counted q = 2 * (4 ^ (R - q.level) * nat_abs (at P q)) ≤ c

  -- what the levels behind give back
  value_size : (d t : ℕ) → d + t ≡ R → (y x : ℕ) → y < halved d h → x < halved d w → 2 * nat_abs (values_behind d t h w cs P y x) ≤ c * (2 + 3 * t)
  value_size d t e =
      bounded d t R (halved d h) (halved d w) c e (fits_behind d t R h w e fits) (after (all_blocks d h w) cs) (numbers_behind d t R h w cs e numbers) P
      (λ y x k l. size.low y x (omega (arith, halved_all d t R h e)) (omega (arith, halved_all d t R w e)))
      (places_behind Counted d t R 0 d h w e (omega arith) size.tetrolet)

  pub value_room : c ≤ 2 ^ 33 → (d t : ℕ) → d + t ≡ R → (y x : ℕ) → y < halved d h → x < halved d w → nat_abs (values_behind d t h w cs P y x) ≤ 2 ^ 40
  value_room q d t e y x k l = omega (arith, value_size d t e y x k l, limit c (2 ^ 33) t q (omega arith))

  -- a tetrolet coefficient as it is counted
  pub counted_room : c ≤ 2 ^ 33 → (d t : ℕ) → d + suc t ≡ R → (b y x : ℕ) → b < 3 → y < halved d h / 2 → x < halved d w / 2
      → nat_abs (pos (4 ^ t) *ℤ band (halved d h) (halved d w) P (suc b) y x) ≤ 2 ^ 40
  counted_room q d t e b y x i k l =
      subst⁻¹ (λ (n : ℕ). n ≤ 2 ^ 40) (abs_mul (pos (4 ^ t)) (band (halved d h) (halved d w) P (suc b) y x)) (omega (arith, one))
    where
      left : R - suc d ≡ t
      left = omega arith

      one : 2 * (4 ^ t * nat_abs (band (halved d h) (halved d w) P (suc b) y x)) ≤ c
      one =
          subst (λ (n : ℕ). 2 * (4 ^ n * nat_abs (band (halved d h) (halved d w) P (suc b) y x)) ≤ c) left
          ((of_places Counted d t (halved d h) (halved d w) (places_behind Counted d (suc t) R 0 d h w e (omega arith) size.tetrolet)).0 b y x i k l)

-- of a plane in range
pub value_small : (R h w : ℕ) (cs : ℕ → ℕ) (P : Image) → R ≤ 8 → Fits R h w → Numbers (all_blocks R h w) cs → Limited R h w (4095 * 4 ^ R) P
    → (d t : ℕ) → d + t ≡ R → (y x : ℕ) → y < halved d h → x < halved d w → nat_abs (values_behind d t h w cs P y x) ≤ 2 ^ 33
value_small R h w cs P most f ns z d t e y x k l =
    omega (arith, value_size R h w cs P most f ns z d t e y x k l, limit (4095 * 4 ^ R) (4095 * 65536) t (mul-le-mul (le_refl 4095) (four_most R most)) (omega arith))

-- ---- entries of a quad and of a block
pub quad_at : (A : Image) (i j s : ℕ) → s < 4 → get_or (quad_of A i j) s (pos 0) ≡ A (i * 2 + s % 2) (j * 2 + s / 2)
unfolding quad_of
quad_at A i j s l = get_d_tabulate 4 (λ s. A (i * 2 + s % 2) (j * 2 + s / 2)) (pos 0) s l

pub block_at : (A : Image) (i j a : ℕ) → a < 16 → get_or (block_list A i j) a (pos 0) ≡ block_of A i j a
unfolding block_list
block_at A i j a l = get_d_tabulate 16 (block_of A i j) (pos 0) a l
