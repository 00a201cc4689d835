-- Finite sums `Σℤ n f` and `Σℕ n f` over i < n: linearity, equality and order term by term, parts, blocks, exchange, another order of the summands, bounds.
-- Assumes nothing.
use mathlib.Core.Path.{◌≡◌, refl, sym, ap, ◌∙◌}
use mathlib.Core.Bool.{cond}
use Prim.Native.Nat.{ℕ, zero, suc, ◌+◌, ◌*◌, ◌≤◌, ◌<◌}
use native.Mathlib.Omega.{arith}
use native.Mathlib.Nat.{add-zero, add-suc, suc-mul, zero-mul}
use native.Mathlib.Decide.{dec_lt}
use native.Mathlib.Numerals.{add-one}
use lib.Dec.{eqb, eqb→eq, eqb_refl}
use lib.IntN.{ℤ, pos, neg_ℤ, nat_abs, ◌+ℤ◌, ◌-ℤ◌, ◌*ℤ◌, +ℤ_idr, +ℤ_assoc, *ℤ-zero, neg_ℤ-+ℤ}
use lib.Signed.{◌≤ℤ◌, ≤ℤ_refl}
use Rattle.integers.specs.Sum.{Σℤ, Σℕ}
use Rattle.integers.proofs.Laws.{*ℤ_distl, +ℤ_swap}
use Rattle.integers.proofs.Lin.{+ℤ_mono, sq_pos}
use Rattle.integers.proofs.Bound.{abs_add}
use Rattle.integers.proofs.Tests.{is_true, is_false}

-- ---- Σℤ
pub Σ_one : (n : ℕ) (f : ℕ → ℤ) → Σℤ (n + 1) f ≡ Σℤ n f +ℤ f n
Σ_one n f = rw add-one refl

pub Σ_cong : (n : ℕ) (f g : ℕ → ℤ) → ((i : ℕ) → i < n → f i ≡ g i) → Σℤ n f ≡ Σℤ n g
Σ_cong zero f g h = refl
Σ_cong (suc n) f g h = λ i. Σ_cong n f g (λ j l. h j (omega arith)) i +ℤ h n (omega arith) i

pub Σ_zero : (n : ℕ) → Σℤ n (λ i. pos 0) ≡ pos 0
Σ_zero zero = refl
Σ_zero (suc n) = ap (λ (x : ℤ). x +ℤ pos 0) (Σ_zero n)

pub Σ_add : (n : ℕ) (f g : ℕ → ℤ) → Σℤ n (λ i. f i +ℤ g i) ≡ Σℤ n f +ℤ Σℤ n g
Σ_add zero f g = refl
Σ_add (suc n) f g = ap (λ (x : ℤ). x +ℤ (f n +ℤ g n)) (Σ_add n f g) ∙ +ℤ_swap (Σℤ n f) (Σℤ n g) (f n) (g n)

pub Σ_scale : (n : ℕ) (c : ℤ) (f : ℕ → ℤ) → Σℤ n (λ i. c *ℤ f i) ≡ c *ℤ Σℤ n f
Σ_scale zero c f = sym (*ℤ-zero c)
Σ_scale (suc n) c f = ap (λ (x : ℤ). x +ℤ c *ℤ f n) (Σ_scale n c f) ∙ sym (*ℤ_distl c (Σℤ n f) (f n))

pub Σ_neg : (n : ℕ) (f : ℕ → ℤ) → Σℤ n (λ i. neg_ℤ (f i)) ≡ neg_ℤ (Σℤ n f)
Σ_neg zero f = refl
Σ_neg (suc n) f = ap (λ (x : ℤ). x +ℤ neg_ℤ (f n)) (Σ_neg n f) ∙ sym (neg_ℤ-+ℤ (Σℤ n f) (f n))

pub Σ_sub : (n : ℕ) (f g : ℕ → ℤ) → Σℤ n (λ i. f i -ℤ g i) ≡ Σℤ n f -ℤ Σℤ n g
Σ_sub n f g = Σ_add n f (λ i. neg_ℤ (g i)) ∙ ap (λ (x : ℤ). Σℤ n f +ℤ x) (Σ_neg n g)

pub Σ_split : (m n : ℕ) (f : ℕ → ℤ) → Σℤ (m + n) f ≡ Σℤ m f +ℤ Σℤ n (λ i. f (m + i))
Σ_split m zero f = rw add-zero (sym (+ℤ_idr (Σℤ m f)))
Σ_split m (suc n) f = rw add-suc (ap (λ (x : ℤ). x +ℤ f (m + n)) (Σ_split m n f) ∙ +ℤ_assoc (Σℤ m f) (Σℤ n (λ i. f (m + i))) (f (m + n)))

-- n blocks of m
pub Σ_blocks : (n m : ℕ) (f : ℕ → ℤ) → Σℤ (n * m) f ≡ Σℤ n (λ i. Σℤ m (λ j. f (i * m + j)))
Σ_blocks zero m f = rw zero-mul refl
Σ_blocks (suc n) m f = rw suc-mul (Σ_split (n * m) m f ∙ ap (λ (x : ℤ). x +ℤ Σℤ m (λ j. f (n * m + j))) (Σ_blocks n m f))

pub Σ_swap : (m n : ℕ) (f : ℕ → ℕ → ℤ) → Σℤ m (λ i. Σℤ n (λ j. f i j)) ≡ Σℤ n (λ j. Σℤ m (λ i. f i j))
Σ_swap zero n f = sym (Σ_zero n)
Σ_swap (suc m) n f = ap (λ (x : ℤ). x +ℤ Σℤ n (λ j. f m j)) (Σ_swap m n f) ∙ sym (Σ_add n (λ j. Σℤ m (λ i. f i j)) (λ j. f m j))

pub Σ_mono : (n : ℕ) (f g : ℕ → ℤ) → ((i : ℕ) → i < n → f i ≤ℤ g i) → Σℤ n f ≤ℤ Σℤ n g
Σ_mono zero f g h = ≤ℤ_refl (pos 0)
Σ_mono (suc n) f g h = +ℤ_mono (Σ_mono n f g (λ j l. h j (omega arith))) (h n (omega arith))

pub Σ_pos : (n : ℕ) (f : ℕ → ℕ) → Σℤ n (λ i. pos (f i)) ≡ pos (Σℕ n f)
Σ_pos zero f = refl
Σ_pos (suc n) f = ap (λ (x : ℤ). x +ℤ pos (f n)) (Σ_pos n f)

pub Σ_abs : (n : ℕ) (f : ℕ → ℤ) → nat_abs (Σℤ n f) ≤ Σℕ n (λ i. nat_abs (f i))
Σ_abs zero f = omega arith
Σ_abs (suc n) f = omega (arith, abs_add (Σℤ n f) (f n), Σ_abs n f)

-- ---- Σℕ
pub Σℕ_cong : (n : ℕ) (f g : ℕ → ℕ) → ((i : ℕ) → i < n → f i ≡ g i) → Σℕ n f ≡ Σℕ n g
Σℕ_cong zero f g h = refl
Σℕ_cong (suc n) f g h = λ i. Σℕ_cong n f g (λ j l. h j (omega arith)) i + h n (omega arith) i

pub Σℕ_mono : (n : ℕ) (f g : ℕ → ℕ) → ((i : ℕ) → i < n → f i ≤ g i) → Σℕ n f ≤ Σℕ n g
Σℕ_mono zero f g h = omega arith
Σℕ_mono (suc n) f g h = omega (arith, Σℕ_mono n f g (λ j l. h j (omega arith)), h n (omega arith))

pub Σℕ_add : (n : ℕ) (f g : ℕ → ℕ) → Σℕ n (λ i. f i + g i) ≡ Σℕ n f + Σℕ n g
Σℕ_add zero f g = refl
Σℕ_add (suc n) f g = omega (arith, Σℕ_add n f g)

pub Σℕ_scale : (n c : ℕ) (f : ℕ → ℕ) → Σℕ n (λ i. c * f i) ≡ c * Σℕ n f
Σℕ_scale zero c f = omega arith
Σℕ_scale (suc n) c f = omega (arith, Σℕ_scale n c f)

pub Σℕ_bound : (n b : ℕ) (f : ℕ → ℕ) → ((i : ℕ) → i < n → f i ≤ b) → Σℕ n f ≤ n * b
Σℕ_bound zero b f h = omega arith
Σℕ_bound (suc n) b f h = omega (arith, Σℕ_bound n b f (λ j l. h j (omega arith)), h n (omega arith))

pub Σℕ_term : (n : ℕ) (f : ℕ → ℕ) (i : ℕ) → i < n → f i ≤ Σℕ n f
Σℕ_term zero f i h = absurd (omega arith)
Σℕ_term (suc n) f i h = go (Σℕ_term n f i) (dec_lt i n)
  where
    go : (i < n → f i ≤ Σℕ n f) → Dec (i < n) → f i ≤ Σℕ n f + f n
    go r (yes l) = omega (arith, r l)
    go r (no l) = let e : i ≡ n = omega arith in rw e (omega arith)

-- squares
pub Σ_sq : (n : ℕ) (f : ℕ → ℤ) → Σℤ n (λ i. f i *ℤ f i) ≡ pos (Σℕ n (λ i. nat_abs (f i) * nat_abs (f i)))
Σ_sq n f = Σ_cong n (λ i. f i *ℤ f i) (λ i. pos (nat_abs (f i) * nat_abs (f i))) (λ i h. sq_pos (f i)) ∙ Σ_pos n (λ i. nat_abs (f i) * nat_abs (f i))

-- ---- parts, blocks, another order
pub Σℕ_zero : (n : ℕ) → Σℕ n (λ i. 0) ≡ 0
Σℕ_zero zero = refl
Σℕ_zero (suc n) = omega (arith, Σℕ_zero n)

pub Σℕ_split : (m n : ℕ) (f : ℕ → ℕ) → Σℕ (m + n) f ≡ Σℕ m f + Σℕ n (λ i. f (m + i))
Σℕ_split m zero f = ap {B = ℕ} (λ (k : ℕ). Σℕ k f) (add-zero m) ∙ sym (add-zero (Σℕ m f))
Σℕ_split m (suc n) f = rw add-suc (omega (arith, Σℕ_split m n f))

-- n blocks of m
pub Σℕ_blocks : (n m : ℕ) (f : ℕ → ℕ) → Σℕ (n * m) f ≡ Σℕ n (λ i. Σℕ m (λ j. f (i * m + j)))
Σℕ_blocks zero m f = rw zero-mul refl
Σℕ_blocks (suc n) m f = rw suc-mul (Σℕ_split (n * m) m f ∙ ap (λ (x : ℕ). x + Σℕ m (λ j. f (n * m + j))) (Σℕ_blocks n m f))

pub Σℕ_swap : (m n : ℕ) (f : ℕ → ℕ → ℕ) → Σℕ m (λ i. Σℕ n (λ j. f i j)) ≡ Σℕ n (λ j. Σℕ m (λ i. f i j))
Σℕ_swap zero n f = sym (Σℕ_zero n)
Σℕ_swap (suc m) n f = ap (λ (x : ℕ). x + Σℕ n (λ j. f m j)) (Σℕ_swap m n f) ∙ sym (Σℕ_add n (λ j. Σℕ m (λ i. f i j)) (λ j. f m j))

-- 1 where two numbers are equal
abbrev pub δ : ℕ → ℕ → ℕ
δ a b = cond (eqb a b) 1 0

pub δ_same : (a : ℕ) → δ a a ≡ 1
δ_same a = rw (is_true (eqb a a) (eqb_refl a)) refl

pub δ_other : (a b : ℕ) → (a ≡ b → ⊥) → δ a b ≡ 0
δ_other a b f = rw (is_false (eqb a b) (λ t. f (eqb→eq a b t))) refl

pick_none : (n a : ℕ) (g : ℕ → ℕ) → n ≤ a → Σℕ n (λ s. δ a s * g s) ≡ 0
pick_none zero a g h = refl
pick_none (suc n) a g h = omega (arith, pick_none n a g (omega arith), ap (λ (x : ℕ). x * g n) (δ_other a n (omega arith)))

pub pick_out : (n a : ℕ) (g : ℕ → ℕ) → a < n → Σℕ n (λ s. δ a s * g s) ≡ g a
pick_out zero a g h = absurd (omega arith)
pick_out (suc n) a g h = go (dec_lt a n) (pick_out n a g)
  where
    go : Dec (a < n) → (a < n → Σℕ n (λ s. δ a s * g s) ≡ g a) → Σℕ n (λ s. δ a s * g s) + δ a n * g n ≡ g a
    go (yes l) r = omega (arith, r l, ap (λ (x : ℕ). x * g n) (δ_other a n (omega arith)))
    go (no l) r =
        let e : n ≡ a = omega arith in
        rw e (omega (arith, pick_none a a g (omega arith), ap (λ (x : ℕ). x * g a) (δ_same a)))

-- each number s is counted as often as it is a j p
pub spread : (n m : ℕ) (j : ℕ → ℕ) (g : ℕ → ℕ) → ((p : ℕ) → p < n → j p < m) → Σℕ n (λ p. g (j p)) ≡ Σℕ m (λ s. g s * Σℕ n (λ p. δ (j p) s))
spread n m j g h =
    Σℕ_cong n (λ p. g (j p)) (λ p. Σℕ m (λ s. δ (j p) s * g s)) (λ p l. sym (pick_out m (j p) g (h p l)))
    ∙ Σℕ_swap n m (λ p s. δ (j p) s * g s)
    ∙ Σℕ_cong m (λ s. Σℕ n (λ p. δ (j p) s * g s)) (λ s. g s * Σℕ n (λ p. δ (j p) s)) (λ s l.
    Σℕ_cong n (λ p. δ (j p) s * g s) (λ p. g s * δ (j p) s) (λ p k. omega arith) ∙ Σℕ_scale n (g s) (λ p. δ (j p) s))

-- another order of the summands
pub reorder : (n : ℕ) (j : ℕ → ℕ) (g : ℕ → ℕ) → ((p : ℕ) → p < n → j p < n) → ((s : ℕ) → s < n → Σℕ n (λ p. δ (j p) s) ≡ 1) → Σℕ n (λ p. g (j p)) ≡ Σℕ n g
reorder n j g h e = spread n n j g h ∙ Σℕ_cong n (λ s. g s * Σℕ n (λ p. δ (j p) s)) g (λ s l. ap (λ (x : ℕ). g s * x) (e s l) ∙ one-times (g s))
  where
    one-times : (x : ℕ) → x * 1 ≡ x
    one-times x = omega arith

-- each summand at least once
pub reached : (n m : ℕ) (j : ℕ → ℕ) (g : ℕ → ℕ) → ((p : ℕ) → p < n → j p < m) → ((s : ℕ) → s < m → 1 ≤ Σℕ n (λ p. δ (j p) s)) → Σℕ m g ≤ Σℕ n (λ p. g (j p))
reached n m j g h e = rw (spread n m j g h) (Σℕ_mono m g (λ s. g s * Σℕ n (λ p. δ (j p) s)) (λ s l. at_least (g s) (Σℕ n (λ p. δ (j p) s)) (e s l)))
  where
    at_least : (x k : ℕ) → 1 ≤ k → x ≤ x * k
    at_least x zero l = absurd (omega arith)
    at_least x (suc k) l = omega arith

pub Σℕ_head : (n : ℕ) (f : ℕ → ℕ) → Σℕ (suc n) f ≡ f 0 + Σℕ n (λ k. f (suc k))
Σℕ_head zero f = omega arith
Σℕ_head (suc n) f = omega (arith, Σℕ_head n f)
