-- The choice of a covering: no cutting of the block into four shapes costs less, it reads the sixteen values, and only one covering wins against all.
-- Assumes nothing.
use mathlib.Core.Path.{◌≡◌, refl, sym, ap, ◌∙◌, subst}
use mathlib.Core.Logic.{◌⊎◌, inl, inr, ◌↔◌}
use mathlib.Core.Bool.{Bool, true, false, cond, ◌&&◌, ◌||◌}
use mathlib.Core.List.{List, [], ◌∷◌, ◌++◌}
use Prim.Native.Nat.{ℕ, zero, suc, ◌+◌, ◌*◌, ◌/◌, ◌%◌, ◌≤◌, ◌<◌}
use native.Mathlib.Omega.{arith}
use native.Mathlib.Nat.{le_refl, le_trans, le_of_lt, le_of_eq, lt_of_le_of_lt}
use native.Mathlib.Decide.{dec_lt}
use lib.Dec.{T, eqb, ltb, eqb→eq, ltb→lt, lt→ltb}
use lib.IntN.{ℤ, nat_abs}
use lib.ListN.{length, get_or}
use Rattle.integers.specs.Sum.{Σℕ}
use Rattle.integers.proofs.Sums.{Σℕ_cong, Σℕ_term, δ, δ_same, reached}
use Rattle.coverings.specs.Block.{cells, filter, with_if, name_of, Shapes}
use Rattle.coverings.specs.Words.{word_of}
use Rattle.coverings.specs.Rule.{Number}
use Rattle.integers.proofs.Tests.{both_left, both_right, both, either, or_left, or_right, eq→eqb}
use Rattle.coverings.proofs.Lists.{mem, filter_in, cell_below}
use Rattle.coverings.proofs.Table.{rule}
use Rattle.block.specs.Laws.{Wins}
use Rattle.block.specs.Block.{sign_row, values_of, cost_of, shapes_of, beats, count_in, pick_to, pick}
use Rattle.block.proofs.Rows.{rows_cong}
use Rattle.block.proofs.Words.{Good, good, cell_of}

-- the cells of a shape are cells of the block
mem_at : (l : List ℕ) (i : ℕ) → i < length l → T (mem (get_or l i 0) l)
mem_at [] i h = absurd (omega arith)
mem_at (x ∷ l) zero h = or_left (eqb x x) (mem x l) (eq→eqb {a = x} {b = x} refl)
mem_at (x ∷ l) (suc i) h = or_right (eqb (get_or l i 0) x) (mem (get_or l i 0) l) (mem_at l i (omega arith))

past : (l : List ℕ) (i : ℕ) → length l ≤ i → get_or l i 0 ≡ 0
past [] i h = refl
past (x ∷ l) zero h = absurd (omega arith)
past (x ∷ l) (suc i) h = past l i (omega arith)

pub shape_below : (s : ℕ → Bool) (i : ℕ) → get_or (filter s cells) i 0 < 16
shape_below s i = go (dec_lt i (length (filter s cells)))
  where
    go : Dec (i < length (filter s cells)) → get_or (filter s cells) i 0 < 16
    go (yes h) = cell_below (get_or (filter s cells) i 0) (filter_in s cells (get_or (filter s cells) i 0) (mem_at (filter s cells) i h)).1
    go (no h) = rw (past (filter s cells) i (omega arith)) (omega arith)

-- the cost reads the sixteen values
pub cost_cong : (shape : ℕ → ℕ → Bool) (v u : ℕ → ℤ) → ((k : ℕ) → k < 16 → v k ≡ u k) → cost_of shape v ≡ cost_of shape u
unfolding cost_of
cost_cong shape v u h =
    Σℕ_cong 4 (λ p. Σℕ 3 (λ b. nat_abs (sign_row (suc b) (values_of (shape p) v)))) (λ p. Σℕ 3 (λ b. nat_abs (sign_row (suc b) (values_of (shape p) u))))
    (λ p l. Σℕ_cong 3 (λ b. nat_abs (sign_row (suc b) (values_of (shape p) v))) (λ b. nat_abs (sign_row (suc b) (values_of (shape p) u)))
    (λ b k. ap nat_abs (rows_cong (suc b) (values_of (shape p) v) (values_of (shape p) u) (λ i l. h (get_or (filter (shape p) cells) i 0) (shape_below (shape p) i)))))

-- two shapes with the same cells
bool_eq : (b c : Bool) → (T b → T c) → (T c → T b) → b ≡ c
bool_eq true true f g = refl
bool_eq true false f g = absurd (f tt)
bool_eq false true f g = absurd (g tt)
bool_eq false false f g = refl

keep_cong : (s t : ℕ → Bool) (xs : List ℕ) → ((a : ℕ) → T (mem a xs) → s a ≡ t a) → filter s xs ≡ filter t xs
keep_cong s t [] h = refl
keep_cong s t (x ∷ xs) h =
    λ i. with_if (h x (or_left (eqb x x) (mem x xs) (eq→eqb {a = x} {b = x} refl)) i) x (keep_cong s t xs (λ a m. h a (or_right (eqb a x) (mem a xs) m)) i)

pub same_shape : (s t : ℕ → Bool) → ((a : ℕ) → a < 16 → T (s a) ↔ T (t a)) → filter s cells ≡ filter t cells
same_shape s t h = keep_cong s t cells (λ a m. bool_eq (s a) (t a) (h a (cell_below a m)).0 (h a (cell_below a m)).1)

-- the absolute coefficients of a list of cells
abbrev piece_cost : (ℕ → ℤ) → List ℕ → ℕ
piece_cost v l = Σℕ 3 (λ b. nat_abs (sign_row (suc b) (λ i. v (get_or l i 0))))

-- the covering whose pieces are the shapes costs no more than they do
covering_cost : (shape : ℕ → ℕ → Bool) → Shapes shape → (v : ℕ → ℤ) → (n : ℕ) × Number n × (cost_of (shapes_of (word_of n)) v ≤ cost_of shape v)
unfolding cost_of
covering_cost shape f v = (n, num, rw total-cost (reached 4 4 J (λ p. piece_cost v (filter (shapes_of w p) cells)) (λ k h. (J-is k (dec_lt k 4) h).0) hit))
  where
    r : (n : ℕ) × Number n × ((k : ℕ) → k < 4 → (j : ℕ) × (j < 4) × ((a : ℕ) → a < 16 → T (shape k a) ↔ (name_of (word_of n) a ≡ j)))
    r = rule.filled shape f

    n : ℕ
    n = r.0

    num : Number n
    num = r.1

    w : List ℕ
    w = word_of n

    J-of : (k : ℕ) → Dec (k < 4) → ℕ
    J-of k (yes h) = (r.2 k h).0
    J-of k (no h) = 0

    J : ℕ → ℕ
    J k = J-of k (dec_lt k 4)

    J-is : (k : ℕ) (d : Dec (k < 4)) → k < 4 → (J-of k d < 4) × ((a : ℕ) → a < 16 → T (shape k a) ↔ (name_of w a ≡ J-of k d))
    J-is k (yes h) l = ((r.2 k h).1, (r.2 k h).2)
    J-is k (no h) l = absurd (h l)

    cells_of : (k : ℕ) → k < 4 → filter (shape k) cells ≡ filter (shapes_of w (J k)) cells
    cells_of k h = same_shape (shape k) (shapes_of w (J k)) (λ a l. let i = (J-is k (dec_lt k 4) h).1 a l in ((λ t. eq→eqb (i.0 t)), (λ t. i.1 (eqb→eq (name_of w a) (J k) t))))

    total-cost : Σℕ 4 (λ p. piece_cost v (filter (shape p) cells)) ≡ Σℕ 4 (λ k. piece_cost v (filter (shapes_of w (J k)) cells))
    total-cost = Σℕ_cong 4 (λ p. piece_cost v (filter (shape p) cells)) (λ k. piece_cost v (filter (shapes_of w (J k)) cells)) (λ k h. ap (piece_cost v) (cells_of k h))

    hit : (p : ℕ) → p < 4 → 1 ≤ Σℕ 4 (λ k. δ (J k) p)
    hit p h = le_trans (rw one (le_refl 1)) (Σℕ_term 4 (λ k. δ (J k) p) c.0 c.1)
      where
        g : Good w
        g = good n num

        a : ℕ
        a = cell_of w (p * 4 / 4) (p * 4 % 4)

        below : a < 16
        below = g.cells.below (p * 4) (omega arith)

        named : name_of w a ≡ p
        named = g.cells.name (p * 4) (omega arith) ∙ div
          where
            div : p * 4 / 4 ≡ p
            div = omega arith

        c : (k : ℕ) × (k < 4) × T (shape k a)
        c = f.covered a below

        one : δ (J c.0) p ≡ 1
        one = ap (λ (x : ℕ). δ x p) (sym (((J-is c.0 (dec_lt c.0 4) c.1).1 a below).0 c.2) ∙ named) ∙ δ_same p

-- one more chosen covering, for a table of counts
pub count_snoc : (n c : ℕ) (l : List ℕ) → count_in n (l ++ (c ∷ [])) ≡ count_in n l + cond (eqb n c) 1 0
count_snoc n c [] = omega arith
count_snoc n c (x ∷ l) = omega (arith, count_snoc n c l)

-- the choice is a covering, and wins against each of those tried
record Chosen (earlier : List ℕ) (v : ℕ → ℤ) (n m : ℕ) : Type 0 where
  number : (1 ≤ m) × (m ≤ suc n)
  wins : (k : ℕ) → 1 ≤ k → k ≤ suc n → Wins earlier v m k

chosen : (n : ℕ) (earlier : List ℕ) (v : ℕ → ℤ) → Chosen earlier v n (pick_to n earlier v)
unfolding pick_to
chosen zero earlier v = record {
  number = (omega arith, omega arith);
  wins = λ k a b. let e : 1 ≡ k = omega arith in rw (← e) (record { lowest = le_refl _; often = λ q. le_refl _; first = λ q r. le_refl _ });
}
chosen (suc n) earlier v = go (beats earlier v (suc (suc n)) (pick_to n earlier v)) refl (chosen n earlier v)
  where
    cost : ℕ → ℕ
    cost k = cost_of (shapes_of (word_of k)) v

    often : ℕ → ℕ
    often k = count_in k earlier

    m : ℕ
    m = pick_to n earlier v

    new : ℕ
    new = suc (suc n)

    less : T (beats earlier v new m) → (cost new < cost m) ⊎ ((cost new ≡ cost m) × (often m < often new))
    less t = on (either (ltb (cost new) (cost m)) (eqb (cost new) (cost m) && ltb (often m) (often new)) t)
      where
        on : T (ltb (cost new) (cost m)) ⊎ T (eqb (cost new) (cost m) && ltb (often m) (often new)) → (cost new < cost m) ⊎ ((cost new ≡ cost m) × (often m < often new))
        on (inl l) = inl (ltb→lt (cost new) (cost m) l)
        on (inr e) = inr (eqb→eq (cost new) (cost m) (both_left (eqb (cost new) (cost m)) _ e), ltb→lt (often m) (often new) (both_right (eqb (cost new) (cost m)) _ e))

    -- where the new one does not go before m
    not_less : (T (beats earlier v new m) → ⊥) → cost m ≤ cost new
    not_less h = on (dec_lt (cost new) (cost m))
      where
        on : Dec (cost new < cost m) → cost m ≤ cost new
        on (yes l) = absurd (h (or_left (ltb (cost new) (cost m)) _ (lt→ltb (cost new) (cost m) l)))
        on (no l) = omega arith

    not_more : (T (beats earlier v new m) → ⊥) → cost m ≡ cost new → often new ≤ often m
    not_more h e = on (dec_lt (often m) (often new))
      where
        on : Dec (often m < often new) → often new ≤ often m
        on (yes l) = absurd (h (or_right (ltb (cost new) (cost m)) _ (both (eqb (cost new) (cost m)) (ltb (often m) (often new)) (eq→eqb (sym e)) (lt→ltb (often m) (often new) l))))
        on (no l) = omega arith

    go : (b : Bool) → beats earlier v new m ≡ b → Chosen earlier v n m → Chosen earlier v (suc n) (cond b new m)
    go true e c = record { number = (omega arith, omega arith); wins = λ k a l. on k a (dec_lt k new) l }
      where
        over : (k : ℕ) → Wins earlier v m k → (cost new < cost m) ⊎ ((cost new ≡ cost m) × (often m < often new)) → Wins earlier v new k
        over k w (inl s) = record { lowest = le_trans (le_of_lt s) w.lowest; often = λ q. let z = w.lowest in absurd (omega arith); first = λ q r. let z = w.lowest in absurd (omega arith) }
        over k w (inr s) = record {
          lowest = le_trans (le_of_eq s.0) w.lowest;
          often = λ q. le_of_lt (lt_of_le_of_lt (w.often (sym s.0 ∙ q)) s.1);
          first = λ q r. let z = w.often (sym s.0 ∙ q) in let u = s.1 in absurd (omega arith);
        }

        on : (k : ℕ) → 1 ≤ k → Dec (k < new) → k ≤ new → Wins earlier v new k
        on k a (yes h) l = over k (c.wins k a (omega arith)) (less (subst T (sym e) tt))
        on k a (no h) l = let q : k ≡ new = omega arith in rw q (record { lowest = le_refl _; often = λ q. le_refl _; first = λ q r. le_refl _ })
    go false e c = record { number = (c.number.0, omega arith); wins = λ k a l. on k a (dec_lt k new) l }
      where
        never : T (beats earlier v new m) → ⊥
        never t = subst T e t

        on : (k : ℕ) → 1 ≤ k → Dec (k < new) → k ≤ new → Wins earlier v m k
        on k a (yes h) l = c.wins k a (omega arith)
        on k a (no h) l = let q : k ≡ new = omega arith in rw q (record { lowest = not_less never; often = not_more never; first = λ q r. let z = c.number.1 in omega arith })

-- of all 117
whole : (earlier : List ℕ) (v : ℕ → ℤ) → Chosen earlier v 116 (pick earlier v)
unfolding pick
whole earlier v = chosen 116 earlier v

pub pick_number : (earlier : List ℕ) (v : ℕ → ℤ) → Number (pick earlier v)
pick_number earlier v = (whole earlier v).number

pub pick_lowest : (earlier : List ℕ) (v : ℕ → ℤ) (n : ℕ) → Number n → cost_of (shapes_of (word_of (pick earlier v))) v ≤ cost_of (shapes_of (word_of n)) v
pick_lowest earlier v n m = ((whole earlier v).wins n m.0 m.1).lowest

pub pick_wins : (earlier : List ℕ) (v : ℕ → ℤ) (n : ℕ) → Number n → Wins earlier v (pick earlier v) n
pick_wins earlier v n m = (whole earlier v).wins n m.0 m.1

pub pick_least : (earlier : List ℕ) (v : ℕ → ℤ) (shape : ℕ → ℕ → Bool) → Shapes shape → cost_of (shapes_of (word_of (pick earlier v))) v ≤ cost_of shape v
pick_least earlier v shape f =
    let c = covering_cost shape f v in
    le_trans ((whole earlier v).wins c.0 c.1.0 c.1.1).lowest c.2

-- the choice reads the sixteen values
pick_to_cong : (n : ℕ) (earlier : List ℕ) (v u : ℕ → ℤ) → ((k : ℕ) → k < 16 → v k ≡ u k) → pick_to n earlier v ≡ pick_to n earlier u
unfolding pick_to
pick_to_cong zero earlier v u e = refl
pick_to_cong (suc n) earlier v u e = (λ t. choose (pick_to_cong n earlier v u e t) v) ∙ ap (λ (b : Bool). cond b (suc (suc n)) (pick_to n earlier u)) (beats-cong (suc (suc n)) (pick_to n earlier u))
  where
    choose : ℕ → (ℕ → ℤ) → ℕ
    choose m v = cond (beats earlier v (suc (suc n)) m) (suc (suc n)) m

    cost : (ℕ → ℤ) → ℕ → ℕ
    cost v m = cost_of (shapes_of (word_of m)) v

    same : (m : ℕ) → cost v m ≡ cost u m
    same m = cost_cong (shapes_of (word_of m)) v u e

    beats-cong : (a b : ℕ) → beats earlier v a b ≡ beats earlier u a b
    beats-cong a b = λ t. ltb (same a t) (same b t) || (eqb (same a t) (same b t) && ltb (count_in b earlier) (count_in a earlier))

pub pick_cong : (earlier : List ℕ) (v u : ℕ → ℤ) → ((k : ℕ) → k < 16 → v k ≡ u k) → pick earlier v ≡ pick earlier u
unfolding pick
pick_cong earlier v u e = pick_to_cong 116 earlier v u e

-- of two coverings that win against each other both are one
pub wins_once : (earlier : List ℕ) (v : ℕ → ℤ) (c n : ℕ) → Wins earlier v c n → Wins earlier v n c → c ≡ n
wins_once earlier v c n a b =
    let e : cost_of (shapes_of (word_of c)) v ≡ cost_of (shapes_of (word_of n)) v = omega (arith, a.lowest, b.lowest) in
    let f : count_in c earlier ≡ count_in n earlier = omega (arith, a.often e, b.often (sym e)) in
    omega (arith, a.first e f, b.first (sym e) (sym f))
