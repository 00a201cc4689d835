-- Ranges of the plane of a picture, and the sides that R levels fit. Assumes nothing.
use mathlib.Core.Path.{◌≡◌, sym, ap, ◌∙◌, subst}
use mathlib.Core.List.{[], ◌∷◌}
use mathlib.Core.Bool.{false}
use Prim.Native.Nat.{ℕ, zero, suc, ◌+◌, ◌*◌, ◌-◌, ◌/◌, ◌%◌, ◌^◌, ◌≤◌, ◌<◌}
use native.Mathlib.Omega.{arith}
use native.Mathlib.Nat.{pow-succ', pow-zero, mul-one, le_refl}
use lib.IntN.{ℤ, pos, negsuc, nat_abs, ◌+ℤ◌}
use lib.ListN.{get_or}
use Rattle.integers.proofs.Laws.{Rep}
use Rattle.integers.proofs.Ring.{E, v, ◌⊕◌, ◌⊖◌}
use Rattle.integers.proofs.Lin.{rep_ev}
use Rattle.coverings.specs.Block.{cells, filter}
use Rattle.block.specs.Block.{sign_row, values_of, shapes_of, place_in, labels_of, forward}
use Rattle.pyramid.specs.Plane.{Image, Fits, blocks, block_of, word_at, after, bands_of, band, layout, with_low, analyse, halved}
use Rattle.pyramid.specs.Places.{tetrolet_places, places_from, at}
use Rattle.pyramid.specs.Ranges.{InRange}
use Rattle.pyramid.proofs.Levels.{layout_low, layout_band}
use Rattle.block.proofs.Pick.{shape_below}
use Rattle.pyramid.proofs.Places.{none, All, all_places, places_inside}

-- a number from 0 to m
abbrev pub Upto : ℕ → ℤ → Type 0
Upto m z = (n : ℕ) × (z ≡ pos n) × (n ≤ m)

abs_max : {z : ℤ} {a b : ℕ} (n : ℕ) → Rep z a b → a ≤ n → b ≤ n → nat_abs z ≤ n
abs_max {z = pos k} n r h g = omega arith
abs_max {z = negsuc k} n r h g = omega arith

abbrev rows : ℕ → E
rows zero = v 0 ⊕ v 1 ⊖ v 2 ⊖ v 3
rows (suc zero) = v 0 ⊖ v 1 ⊕ v 2 ⊖ v 3
rows (suc (suc b)) = v 0 ⊖ v 1 ⊖ v 2 ⊕ v 3

-- the rows of four numbers from 0 to m
module _ (m : ℕ) (x : ℕ → ℤ) (h : (i : ℕ) → Upto m (x i)) where
  row_low : Upto (4 * m) (sign_row 0 x)
  row_low = ((h 0).0 + (h 1).0 + (h 2).0 + (h 3).0, (λ t. (h 0).1 t +ℤ (h 1).1 t +ℤ (h 2).1 t +ℤ (h 3).1 t), bound (h 0).2 (h 1).2 (h 2).2 (h 3).2)
    where
      bound : {a b c d : ℕ} → a ≤ m → b ≤ m → c ≤ m → d ≤ m → a + b + c + d ≤ 4 * m
      bound p q r s = omega arith

  row_high : (b : ℕ) → nat_abs (sign_row (suc b) x) ≤ 2 * m
  row_high b = subst (λ (n : ℕ). n ≤ 2 * m) (sym (ap (λ (f : ℕ → ℤ). nat_abs (sign_row (suc b) f)) (λ t i. (h i).1 t))) (bounded b (λ i. (h i).0) (λ i. (h i).2))
    where
      bounded : (b : ℕ) (n : ℕ → ℕ) → ((i : ℕ) → n i ≤ m) → nat_abs (sign_row (suc b) (λ i. pos (n i))) ≤ 2 * m
      bounded zero n k = abs_max (2 * m) (rep_ev (pos (n 0) ∷ pos (n 1) ∷ pos (n 2) ∷ pos (n 3) ∷ []) (rows 0)) (omega (arith, k 0, k 1, k 2, k 3)) (omega (arith, k 0, k 1, k 2, k 3))
      bounded (suc zero) n k = abs_max (2 * m) (rep_ev (pos (n 0) ∷ pos (n 1) ∷ pos (n 2) ∷ pos (n 3) ∷ []) (rows 1)) (omega (arith, k 0, k 1, k 2, k 3)) (omega (arith, k 0, k 1, k 2, k 3))
      bounded (suc (suc b)) n k = abs_max (2 * m) (rep_ev (pos (n 0) ∷ pos (n 1) ∷ pos (n 2) ∷ pos (n 3) ∷ []) (rows 2)) (omega (arith, k 0, k 1, k 2, k 3)) (omega (arith, k 0, k 1, k 2, k 3))

-- the bands of an image of numbers from 0 to m
module _ (h w m : ℕ) (h4 : h % 4 ≡ 0) (w4 : w % 4 ≡ 0) (cs : ℕ → ℕ) (A : Image) (a : (y x : ℕ) → y < h → x < w → Upto m (A y x)) where
  value : (y x p i : ℕ) → y < h / 2 → x < w / 2 → Upto m (values_of (shapes_of (word_at h cs (y / 2) (x / 2)) p) (block_of A (y / 2) (x / 2)) i)
  value y x p i k l = at-cell (get_or (filter (shapes_of (word_at h cs (y / 2) (x / 2)) p) cells) i 0) (shape_below (shapes_of (word_at h cs (y / 2) (x / 2)) p) i)
    where
      at-cell : (c : ℕ) → c < 16 → Upto m (block_of A (y / 2) (x / 2) c)
      at-cell c q = a (y / 2 * 4 + c % 4) (x / 2 * 4 + c / 4) (omega arith) (omega arith)

  pub bands_low : (y x : ℕ) → y < h / 2 → x < w / 2 → Upto (4 * m) (bands_of h cs A 0 y x)
  unfolding forward
  bands_low y x k l = row_low m _ (λ i. value y x (place_in (x % 2 * 2 + y % 2) (labels_of (word_at h cs (y / 2) (x / 2)))) i k l)

  bands_high : (b y x : ℕ) → y < h / 2 → x < w / 2 → nat_abs (bands_of h cs A (suc b) y x) ≤ 2 * m
  unfolding forward
  bands_high b y x k l = row_high m _ (λ i. value y x (place_in (x % 2 * 2 + y % 2) (labels_of (word_at h cs (y / 2) (x / 2)))) i k l) b

pub halved_le : (R h : ℕ) → halved R h ≤ h
halved_le zero h = le_refl h
halved_le (suc R) h = omega (arith, halved_le R (h / 2))

abbrev Low : ℕ → ℕ → ℕ → ℕ → Image → Type 0
Low R h w m P = (y x : ℕ) → y < halved R h → x < halved R w → Upto m (P y x)

-- β is the bound of each level
analyse_range : (d R h w m : ℕ) → Fits R h w → (cs : ℕ → ℕ) (A : Image) → ((y x : ℕ) → y < h → x < w → Upto m (A y x)) → (β : ℕ → ℕ) → ((k : ℕ) → k < R → β (suc d + k) ≡ 2 * (m * 4 ^ k))
    → Low R h w (m * 4 ^ R) (analyse R h w cs A) × All (λ n p. nat_abs (at (analyse R h w cs A) p) ≤ β p.level) (places_from false d R h w)
unfolding analyse places_from
analyse_range d zero h w m f cs A a β e = ((λ y x k l. subst (λ (n : ℕ). Upto n (A y x)) (sym (ap (λ (n : ℕ). m * n) (pow-zero 4) ∙ mul-one m)) (a y x k l)), (λ n l. absurd (omega arith)))
analyse_range d (suc R) h w m f cs A a β e =
    go (analyse_range (suc d) R (h / 2) (w / 2) (4 * m) f.2 (after (blocks h w) cs) (bands_of h cs A 0) (bands_low h w m f.0 f.1 cs A a) β
    (λ k l. next k l))
  where
    L : Image
    L = analyse R (h / 2) (w / 2) (after (blocks h w) cs) (bands_of h cs A 0)

    P : Image
    P = layout h w (with_low L (bands_of h cs A))

    next : (k : ℕ) → k < R → β (suc (suc d) + k) ≡ 2 * (4 * m * 4 ^ k)
    next k l =
        let q : suc (suc d) + k ≡ suc d + suc k = omega arith in
        ap β q ∙ e (suc k) (omega arith) ∙ ap (λ (n : ℕ). 2 * (m * n)) (pow-succ' 4 k) ∙ move (4 ^ k)
      where
        move : (n : ℕ) → 2 * (m * (4 * n)) ≡ 2 * (4 * m * n)
        move n = omega arith

    first : β (suc d) ≡ 2 * m
    first =
        let q : suc d ≡ suc d + 0 = omega arith in
        ap β q ∙ e 0 (omega arith) ∙ ap (λ (n : ℕ). 2 * (m * n)) (pow-zero 4) ∙ ap (λ (n : ℕ). 2 * n) (mul-one m)

    power : 4 * m * 4 ^ R ≡ m * 4 ^ suc R
    power = move (4 ^ R) ∙ ap (λ (n : ℕ). m * n) (sym (pow-succ' 4 R))
      where
        move : (n : ℕ) → 4 * m * n ≡ m * (4 * n)
        move n = omega arith

    go : Low R (h / 2) (w / 2) (4 * m * 4 ^ R) L × All (λ n p. nat_abs (at L p) ≤ β p.level) (places_from false (suc d) R (h / 2) (w / 2))
        → Low (suc R) h w (m * 4 ^ suc R) P × All (λ n p. nat_abs (at P p) ≤ β p.level) (places_from false d (suc R) h w)
    go ih = (
      (λ y x k l.
          subst (λ (z : ℤ). Upto (m * 4 ^ suc R) z) (sym (layout_low h w (with_low L (bands_of h cs A)) y x (omega (arith, halved_le R (h / 2))) (omega (arith, halved_le R (w / 2)))))
          (subst (λ (n : ℕ). Upto n (L y x)) power (ih.0 y x k l))),
      all_places (λ n p. nat_abs (at P p) ≤ β p.level) d R h w
          (λ b y x c k l.
          subst (λ (n : ℕ). nat_abs (band h w P (suc b) y x) ≤ n) (sym first)
          (subst (λ (z : ℤ). nat_abs z ≤ 2 * m) (sym (layout_band h w (with_low L (bands_of h cs A)) (suc b) y x (omega arith) k l)) (bands_high h w m f.0 f.1 cs A a b y x k l)))
          (λ n l.
          let i = places_inside (suc d) R (h / 2) (w / 2) f.2 n l in
          let p = get_or (places_from false (suc d) R (h / 2) (w / 2)) n none in
          subst (λ (z : ℤ). nat_abs z ≤ β p.level) (sym (layout_low h w (with_low L (bands_of h cs A)) p.down p.across i.0 i.1)) (ih.1 n l)),
    )

pub in_range_law : (R h w : ℕ) → Fits R h w → (cs : ℕ → ℕ) (A : Image) → ((y x : ℕ) → y < h → x < w → Upto 4095 (A y x)) → InRange R h w (analyse R h w cs A)
in_range_law R h w f cs A a = record { low = r.0; tetrolet = r.1 }
  where
    bound : (k : ℕ) → 2 * 4 ^ (1 + k - 1) * 4095 ≡ 2 * (4095 * 4 ^ k)
    bound k =
        let q : 1 + k - 1 ≡ k = omega arith in
        ap (λ (n : ℕ). 2 * 4 ^ n * 4095) q ∙ move (4 ^ k)
      where
        move : (n : ℕ) → 2 * n * 4095 ≡ 2 * (4095 * n)
        move n = omega arith

    r : Low R h w (4095 * 4 ^ R) (analyse R h w cs A) × All (λ n p. nat_abs (at (analyse R h w cs A) p) ≤ 2 * 4 ^ (p.level - 1) * 4095) (tetrolet_places R h w)
    r = analyse_range 0 R h w 4095 f cs A a (λ l. 2 * 4 ^ (l - 1) * 4095) (λ k l. bound k)
