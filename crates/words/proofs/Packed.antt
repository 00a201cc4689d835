-- Bytes packed into one number are the same just if the numbers are. Assumes nothing.
use mathlib.Core.Path.{◌≡◌, refl, ap, ◌∙◌}
use mathlib.Core.Bool.{Bool, true, false, ◌&&◌}
use mathlib.Core.List.{List, [], ◌∷◌}
use Prim.Native.Nat.{ℕ, zero, suc, ◌+◌, ◌*◌, ◌<◌, ◌≤◌}
use native.Mathlib.Nat.{zero-add, suc-add}
use native.Mathlib.Omega.{arith}
use lib.Dec.{eqb}
use lib.ListN.{length, drop, get_or}
use lib.Seq.{drop-cons, get_or-drop, drop-drop}
use borrow.Author.Tests.{eqb-true, eqb-false, eq-eqb, ne_eqb}
use Rattle.words.specs.Words.{agree, packed}

-- numbers whose lowest bytes are b and c
low : (b c x y : ℕ) → b < 256 → c < 256 → (p q : Bool) → eqb b c ≡ p → eqb x y ≡ q → eqb (b + 256 * x) (c + 256 * y) ≡ (p && q)
low b c x y h k true true e f = let u = eqb-true b c e in let v = eqb-true x y f in eq-eqb (b + 256 * x) (c + 256 * y) (omega arith)
low b c x y h k true false e f = ne_eqb (b + 256 * x) (c + 256 * y) (λ z. eqb-false x y f (omega arith))
low b c x y h k false q e f = ne_eqb (b + 256 * x) (c + 256 * y) (λ z. eqb-false b c e (omega arith))

pub packed_agree : (n : ℕ) (s t : List ℕ) → n ≤ length s → n ≤ length t → ((k : ℕ) → get_or s k 0 < 256) → ((k : ℕ) → get_or t k 0 < 256) →
    eqb (packed n s) (packed n t) ≡ agree n s t
unfolding packed agree
packed_agree zero s t h k u v = eq-eqb 0 0 refl
packed_agree (suc n) [] t h k u v = absurd (omega arith)
packed_agree (suc n) (b ∷ s) [] h k u v = absurd (omega arith)
packed_agree (suc n) (b ∷ s) (c ∷ t) h k u v =
    low b c (packed n s) (packed n t) (u 0) (v 0) (eqb b c) (eqb (packed n s) (packed n t)) refl refl
    ∙ ap (λ x. eqb b c && x) (packed_agree n s t (omega arith) (omega arith) (λ j. u (suc j)) (λ j. v (suc j)))

-- the bytes from a place on are bytes
pub bytes_from : (s : List ℕ) (at : ℕ) → ((k : ℕ) → get_or s k 0 < 256) → (k : ℕ) → get_or (drop at s) k 0 < 256
bytes_from s at h k = rw get_or-drop (h (at + k))

-- the byte at a place, and those after it
next : (n : ℕ) (s : List ℕ) (at to : ℕ) → at < length s → to ≡ suc at → packed (suc n) (drop at s) ≡ get_or s at 0 + 256 * packed n (drop to s)
unfolding packed
next n s at to h e = rw (drop-cons s at 0, e)

last : (s : List ℕ) (at : ℕ) → at < length s → packed 1 (drop at s) ≡ get_or s at 0
unfolding packed
last s at h = rw (drop-cons s at 0) (omega arith)

pub packed_eight : (s : List ℕ) (at : ℕ) → at + 8 ≤ length s →
    packed 8 (drop at s)
    ≡ get_or s at 0
    + 256 * (get_or s (at + 1) 0 + 256 * (get_or s (at + 2) 0 + 256 * (get_or s (at + 3) 0 + 256 * (get_or s (at + 4) 0 + 256 * (get_or s (at + 5) 0 + 256 * (get_or s (at + 6) 0 + 256 * get_or s (at + 7) 0))))))
packed_eight s at h =
    rw (
      next 7 s at (at + 1) (omega arith) (omega arith),
      next 6 s (at + 1) (at + 2) (omega arith) (omega arith),
      next 5 s (at + 2) (at + 3) (omega arith) (omega arith),
      next 4 s (at + 3) (at + 4) (omega arith) (omega arith),
      next 3 s (at + 4) (at + 5) (omega arith) (omega arith),
      next 2 s (at + 5) (at + 6) (omega arith) (omega arith),
      next 1 s (at + 6) (at + 7) (omega arith) (omega arith),
      last s (at + 7) (omega arith),
    )

-- ---- more than one word

both_assoc : (a b c : Bool) → (a && (b && c)) ≡ ((a && b) && c)
both_assoc true b c = refl
both_assoc false b c = refl

-- some bytes agree, and then others
agree_split : (m n : ℕ) (s t : List ℕ) → agree (m + n) s t ≡ (agree m s t && agree n (drop m s) (drop m t))
unfolding agree
agree_split zero n s t = ap (λ (k : ℕ). agree k s t) (zero-add n)
agree_split (suc m) n [] t = ap (λ (k : ℕ). agree k [] t) (suc-add m n)
agree_split (suc m) n (b ∷ s) [] = ap (λ (k : ℕ). agree k (b ∷ s) []) (suc-add m n)
agree_split (suc m) n (b ∷ s) (c ∷ t) =
    ap (λ (k : ℕ). agree k (b ∷ s) (c ∷ t)) (suc-add m n)
    ∙ ap (λ x. eqb b c && x) (agree_split m n s t)
    ∙ both_assoc (eqb b c) (agree m s t) (agree n (drop m s) (drop m t))

-- the next word of those that are left, and those behind it
pub agree_word : (n m : ℕ) (s t : List ℕ) (p i : ℕ) → n ≡ 8 + m → agree n (drop p s) (drop i t) ≡ (agree 8 (drop p s) (drop i t) && agree m (drop (p + 8) s) (drop (i + 8) t))
agree_word n m s t p i e =
    ap (λ (k : ℕ). agree k (drop p s) (drop i t)) e
    ∙ agree_split 8 m (drop p s) (drop i t)
    ∙ (λ j. agree 8 (drop p s) (drop i t) && agree m (drop-drop 8 p s j) (drop-drop 8 i t j))

pub agree_none : (n : ℕ) (s t : List ℕ) → n ≡ 0 → agree n s t ≡ true
unfolding agree
agree_none n s t e = ap (λ (k : ℕ). agree k s t) e
