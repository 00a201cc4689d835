-- The rule of the table of coverings. Three tests are computed, each over the whole table: that each word is canonical, that the
-- words rise, and that the search through all cuttings ends at one of the words. The lemmas turn them into the rule.
-- Assumes nothing.
use mathlib.Core.Path.{◌≡◌, refl, sym, ap, subst, subst⁻¹, ◌∙◌}
use mathlib.Core.Logic.{◌⊎◌, inl, inr, ◌↔◌}
use mathlib.Core.Bool.{Bool, true, false, not, ◌&&◌, ◌||◌}
use mathlib.Core.List.{List, [], ◌∷◌}
use Prim.Native.Nat.{ℕ, zero, suc, ◌<◌, ◌≤◌, ◌-◌, suc-le-suc, zero-le}
use native.Mathlib.Nat.{not-suc-le-zero, le_of_suc-le-suc}
use native.Mathlib.Omega.{arith}
use lib.Dec.{T, eqb, eqb→eq, ltb, ltb→lt, nltb→le}
use lib.ListN.{length, get_or}
use Rattle.coverings.specs.Block.{cells, Cutting, Shapes, Same, name_of, Canonical, Before}
use Rattle.coverings.specs.Words.{words, word_of}
use Rattle.coverings.specs.Rule.{Number, Rule}
use Rattle.integers.specs.Lists.{every}
use Rattle.integers.proofs.Tests.{both_left, both_right, every_at}
use Rattle.coverings.proofs.Search.{search, searched}
use Rattle.coverings.proofs.Sound.{Each, every_cutting}
use Rattle.coverings.proofs.Shape.{number_in, iff, cutting, cell_in}
use Rattle.coverings.proofs.Valid.{is_canonical, canonical, unique, is_before, before}

-- A test of each word of a list, and of each two.

abbrev rise : List (List ℕ) → Bool
rise [] = true
rise (w ∷ ws) = every (is_before w) ws && rise ws

rise_at : (ws : List (List ℕ)) → T (rise ws) → (i j : ℕ) → i < j → j < length ws → T (is_before (get_or ws i []) (get_or ws j []))
rise_at [] t i j h l = absurd (not-suc-le-zero l)
rise_at (w ∷ ws) t i zero h l = absurd (not-suc-le-zero h)
rise_at (w ∷ ws) t zero (suc j) h l = every_at (is_before w) ws [] (both_left (every (is_before w) ws) (rise ws) t) j (le_of_suc-le-suc l)
rise_at (w ∷ ws) t (suc i) (suc j) h l = rise_at ws (both_right (every (is_before w) ws) (rise ws) t) i j (le_of_suc-le-suc h) (le_of_suc-le-suc l)

each_of : (P : List ℕ → Type 0) (ws : List (List ℕ)) → ((i : ℕ) → i < length ws → P (get_or ws i [])) → Each P ws
each_of P [] h = tt
each_of P (w ∷ ws) h = (h 0 (suc-le-suc zero-le), each_of P ws (λ i l. h (suc i) (suc-le-suc l)))

-- The tests of the table.

pub count : length words ≡ 117
unfolding words
count = refl

all_canonical : T (every is_canonical words)
unfolding words
all_canonical = tt

all_rise : T (rise words)
unfolding words
all_rise = tt

pub sizes : Each (λ w. length w ≡ 16) words
sizes = each_of (λ w. length w ≡ 16) words (λ i h. (canonical (get_or words i []) (every_at is_canonical words [] all_canonical i h)).sixteen)

-- The rule.

test_of : (n : ℕ) → Number n → T (is_canonical (word_of n))
unfolding word_of
test_of n h = every_at is_canonical words [] all_canonical (n - 1) (omega (arith, count))

valid : (n : ℕ) → Number n → Canonical (word_of n)
valid n h = canonical (word_of n) (test_of n h)

rising : (m n : ℕ) → Number m → Number n → m < n → Before (word_of m) (word_of n)
unfolding word_of
rising m n hm hn l = before (word_of m) (word_of n) (valid m hm).sixteen (rise_at words all_rise (m - 1) (n - 1) (omega arith) (omega (arith, count)))

abbrev Listed : List ℕ → Type 0
Listed w = (n : ℕ) × Number n × (word_of n ≡ w)

-- the word at an index has the next number
at_index : (i : ℕ) → i < length words → Listed (get_or words i [])
unfolding word_of
at_index i h = (suc i, (omega arith, omega (arith, count)), ap (λ (k : ℕ). get_or words k []) k)
  where
    k : suc i - 1 ≡ i
    k = omega arith

general : (name : ℕ → ℕ) → Cutting name → (n : ℕ) × Number n × Same name (name_of (word_of n))
general name cut =
    let r = every_cutting Listed name cut words (each_of Listed words at_index) searched in
    (r.1.0, r.1.1, subst⁻¹ (λ (w : List ℕ). Same name (name_of w)) r.1.2 r.2)

complete : (w : List ℕ) → Canonical w → (n : ℕ) × Number n × (word_of n ≡ w)
complete w c =
    let r = general (name_of w) c.cuts in
    (r.0, r.1, sym (unique w (word_of r.0) c (test_of r.0 r.1) r.2))

filled : (shape : ℕ → ℕ → Bool) → Shapes shape → (n : ℕ) × Number n × ((k : ℕ) → k < 4 → (j : ℕ) × (j < 4) × ((a : ℕ) → a < 16 → T (shape k a) ↔ (name_of (word_of n) a ≡ j)))
filled shape f =
    let r = general (number_in shape) (cutting shape f) in (
      r.0,
      r.1,
      λ k l.
          let c = cell_in shape f k l in
          let e : number_in shape c.0 ≡ k = (iff shape f c.0 k c.1 l).0 c.2 in (
            name_of (word_of r.0) c.0,
            (valid r.0 r.1).names c.0 c.1,
            λ a h. (
              (λ t. (r.2 a c.0 h c.1).0 ((iff shape f a k h l).0 t ∙ sym e)),
              (λ q. (iff shape f a k h l).1 ((r.2 a c.0 h c.1).1 q ∙ e)),
            ),
          ),
    )

-- of two numbers the lesser has the earlier word, which is another
differs : (m n : ℕ) → Number m → Number n → m < n → Same (name_of (word_of m)) (name_of (word_of n)) → ⊥
differs m n hm hn l s =
    let b = rising m n hm hn l in
    let e = unique (word_of m) (word_of n) (valid m hm) (test_of n hn) s in
    let q : name_of (word_of m) b.place ≡ name_of (word_of n) b.place = ap (λ (w : List ℕ). name_of w b.place) e in
    let l : name_of (word_of m) b.place < name_of (word_of n) b.place = b.less in
    omega arith

once : (m n : ℕ) → Number m → Number n → Same (name_of (word_of m)) (name_of (word_of n)) → m ≡ n
once m n hm hn s =
    let a : ¬ (m < n) = (λ l. differs m n hm hn l s) in
    let b : ¬ (n < m) = (λ l. differs n m hn hm l (λ x y hx hy. ((s x y hx hy).1, (s x y hx hy).0))) in
    omega arith

pub rule : Rule
rule =
    record {
      valid = valid;
      rising = rising;
      complete = complete;
      general = general;
      filled = filled;
      once = once;
    }
