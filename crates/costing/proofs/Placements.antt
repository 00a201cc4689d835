-- The costs of the 89 placements, and of the coverings from them. Assumes nothing.
use mathlib.Core.Path.{◌≡◌, refl, sym, ap, ◌∙◌, subst}
use mathlib.Core.Bool.{Bool, true, false, cond, ◌&&◌}
use mathlib.Core.List.{List, [], map}
use Prim.Native.Nat.{ℕ, zero, suc, ◌+◌, ◌*◌, ◌-◌, ◌/◌, ◌%◌, ◌^◌, ◌≤◌, ◌<◌}
use native.Mathlib.Omega.{arith}
use native.Mathlib.Decide.{ℕ_discrete}
use lib.Dec.{T, eqb, eqb→eq, ltb, ltb→lt}
use lib.IntN.{ℤ, nat_abs}
use lib.ListN.{length, get_or, set}
use lib.Seq.{get_or-set_same, get_or-set_other}
use Rattle.integers.proofs.Sums.{Σℕ_cong}
use Rattle.integers.specs.Lists.{every}
use Rattle.integers.proofs.Tests.{both_left, both_right, up_to, up_to_at, every_at}
use Rattle.integers.proofs.Tabulate.{get_d_tabulate}
use Rattle.coverings.specs.Words.{words, word_of}
use Rattle.coverings.specs.Rule.{Number}
use Rattle.coverings.proofs.Table.{count}
use Rattle.block.specs.Block.{sign_row, values_of, cost_of, shapes_of}
use Rattle.tables.specs.Tables.{piece_of, pieces_of, place_among, placement_list, placement_table, four_table}
use Rattle.kernel.specs.Kernel.{at, Within}
use Rattle.costing.specs.Costs.{spread, placed, spreads, placement_of, Needed, needed_spreads, cost_from, Low}
use Rattle.block.proofs.Rows.{rows_cong}
use Rattle.kernel.proofs.Kernel.{row_bound}
use Rattle.tables.proofs.Entries.{joined_map}

-- each entry of the table of placements is a cell
all_cells : T (every (λ x. ltb x 16) placement_table)
unfolding words placement_list placement_table
all_cells = tt

placements_length : length placement_table ≡ 356
unfolding words placement_list placement_table
placements_length = refl

pub placed_below : (k : ℕ) → k < 356 → get_or placement_table k 0 < 16
placed_below k h = ltb→lt _ _ (every_at (λ x. ltb x 16) placement_table 0 all_cells k (omega (arith, placements_length)))

-- each piece of each covering has its cells at its placement
abbrev found : List ℕ → ℕ → Bool
found w p = let l = piece_of w p in let k = place_among l placement_list in ltb k 89 && up_to 4 (λ i. eqb (get_or placement_table (k * 4 + i) 0) (get_or l i 0))

all_found : T (every (λ w. up_to 4 (found w)) words)
unfolding words placement_list placement_table
all_found = tt

found_at : (n p : ℕ) → Number n → p < 4 → T (found (word_of n) p)
unfolding word_of
found_at n p h l = up_to_at 4 (found (word_of n)) (every_at (λ w. up_to 4 (found w)) words [] all_found (n - 1) (omega (arith, count))) p l

fours_at_law : (w : List ℕ) (p : ℕ) → p < 4 → get_or (map (λ l. place_among l placement_list) (pieces_of w)) p 0 ≡ place_among (piece_of w p) placement_list
fours_at_law w zero h = refl
fours_at_law w (suc zero) h = refl
fours_at_law w (suc (suc zero)) h = refl
fours_at_law w (suc (suc (suc zero))) h = refl
fours_at_law w (suc (suc (suc (suc p)))) h = absurd (omega arith)

placement_is : (n p : ℕ) → Number n → p < 4 → placement_of n p ≡ place_among (piece_of (word_of n) p) placement_list
unfolding word_of four_table placement_of
placement_is n p h l = joined_map 4 (λ w. map (λ l. place_among l placement_list) (pieces_of w)) (λ w. refl) words (n - 1) p (omega (arith, count)) l ∙ fours_at_law (word_of n) p l

pub placement_below : (n p : ℕ) → Number n → p < 4 → placement_of n p < 89
placement_below n p h l = rw (placement_is n p h l) (ltb→lt _ _ (both_left (ltb (place_among (piece_of (word_of n) p) placement_list) 89) _ (found_at n p h l)))

pub placement_cells : (n p i : ℕ) → Number n → p < 4 → i < 4 → get_or placement_table (placement_of n p * 4 + i) 0 ≡ get_or (piece_of (word_of n) p) i 0
placement_cells n p i h l g =
    rw (placement_is n p h l)
    (eqb→eq _ _ (up_to_at 4 (λ i. eqb (get_or placement_table (place_among (piece_of (word_of n) p) placement_list * 4 + i) 0) (get_or (piece_of (word_of n) p) i 0))
    (both_right (ltb (place_among (piece_of (word_of n) p) placement_list) 89) _ (found_at n p h l)) i g))

-- ---- costs
pub spread_cong : (x y : ℕ → ℤ) → ((i : ℕ) → i < 4 → x i ≡ y i) → spread x ≡ spread y
spread_cong x y h = Σℕ_cong 3 (λ b. nat_abs (sign_row (suc b) x)) (λ b. nat_abs (sign_row (suc b) y)) (λ b l. ap nat_abs (rows_cong (suc b) x y h))

pub spreads_at : (v : List ℤ) (k : ℕ) → k < 89 → get_or (spreads v) k 0 ≡ spread (placed v k)
unfolding spreads
spreads_at v k h = get_d_tabulate 89 (λ k. spread (placed v k)) 0 k h

pub cost_from_law : (v : List ℤ) (n : ℕ) → Number n → cost_from (spreads v) n ≡ cost_of (shapes_of (word_of n)) (at v)
unfolding cost_from cost_of
cost_from_law v n h =
    Σℕ_cong 4 (λ p. get_or (spreads v) (placement_of n p) 0) (λ p. spread (values_of (shapes_of (word_of n) p) (at v)))
    (λ p l. spreads_at v (placement_of n p) (placement_below n p h l)
    ∙ spread_cong (placed v (placement_of n p)) (values_of (shapes_of (word_of n) p) (at v)) (λ i g. ap (at v) (placement_cells n p i h l g)))

-- ---- the placements of a list
pub needed_at : (needed : List ℕ) (v : List ℤ) (k : ℕ) → k < 89 → get_or (needed_spreads needed v) k 0 ≡ cond (eqb (get_or needed k 0) 0) 0 (spread (placed v k))
unfolding needed_spreads
needed_at needed v k h = get_d_tabulate 89 (λ k. cond (eqb (get_or needed k 0) 0) 0 (spread (placed v k))) 0 k h

-- of a covering in the list all four are there
pub needed_price : (list needed : List ℕ) (v : List ℤ) (k : ℕ) → Needed list needed → k < length list → Number (get_or list k 0) → cost_from (needed_spreads needed v) (get_or list k 0) ≡ cost_of (shapes_of (word_of (get_or list k 0))) (at v)
unfolding cost_from
needed_price list needed v k f h n = same ∙ cost_from_law v (get_or list k 0) n
  where
    same : cost_from (needed_spreads needed v) (get_or list k 0) ≡ cost_from (spreads v) (get_or list k 0)
    same =
        Σℕ_cong 4 (λ p. get_or (needed_spreads needed v) (placement_of (get_or list k 0) p) 0) (λ p. get_or (spreads v) (placement_of (get_or list k 0) p) 0)
        (λ p l.
        let b = placement_below (get_or list k 0) p n l in
        let i = placement_of (get_or list k 0) p in
        needed_at needed v i b ∙ ap (λ (x : ℕ). cond (eqb x 0) 0 (spread (placed v i))) (f k p h l) ∙ sym (spreads_at v i b))

pub spreads_low : (v : List ℤ) → Within (2 ^ 40) v → Low (spreads v)
spreads_low v h k l =
    let small : (i : ℕ) → i < 4 → nat_abs (placed v k i) ≤ 2 ^ 40 = (λ i g. h _ (placed_below (k * 4 + i) (omega arith))) in
    rw (spreads_at v k l)
    (omega (arith, row_bound 1 (placed v k) (2 ^ 40) small, row_bound 2 (placed v k) (2 ^ 40) small, row_bound 3 (placed v k) (2 ^ 40) small))

pub needed_low : (needed : List ℕ) (v : List ℤ) → Within (2 ^ 40) v → Low (needed_spreads needed v)
needed_low needed v h k l = rw (needed_at needed v k l) (go (eqb (get_or needed k 0) 0))
  where
    go : (b : Bool) → cond b 0 (spread (placed v k)) ≤ 2 ^ 44
    go true = omega arith
    go false = subst (λ (n : ℕ). n ≤ 2 ^ 44) (spreads_at v k l) (spreads_low v h k l)

-- a turn of the loop that marks the placements of a list, piece by piece
abbrev pub Marked : List ℕ → List ℕ → ℕ → Type 0
Marked list needed i = (j : ℕ) → j < i → get_or needed (placement_of (get_or list (j / 4) 0) (j % 4)) 0 ≡ 1

pub mark_next : (list needed : List ℕ) (i x : ℕ) → x ≡ placement_of (get_or list (i / 4) 0) (i % 4) → x < length needed → Marked list needed i → Marked list (set needed x 1) (i + 1)
mark_next list needed i x e h m j l = go (ℕ_discrete (placement_of (get_or list (j / 4) 0) (j % 4)) x)
  where
    go : Dec (placement_of (get_or list (j / 4) 0) (j % 4) ≡ x) → get_or (set needed x 1) (placement_of (get_or list (j / 4) 0) (j % 4)) 0 ≡ 1
    go (yes q) = ap (λ (k : ℕ). get_or (set needed x 1) k 0) q ∙ get_or-set_same needed x 1 0 h
    go (no q) =
        let other : j ≡ i → ⊥ = (λ r. q (ap (λ (k : ℕ). placement_of (get_or list (k / 4) 0) (k % 4)) r ∙ sym e)) in
        get_or-set_other needed x (placement_of (get_or list (j / 4) 0) (j % 4)) 1 0 q ∙ m j (omega (arith, other))

pub mark_last : (list needed : List ℕ) (i : ℕ) → length list * 4 ≤ i → Marked list needed i → Needed list needed
mark_last list needed i l m k p h g =
    let a : (k * 4 + p) / 4 ≡ k = omega arith in
    let b : (k * 4 + p) % 4 ≡ p = omega arith in
    sym (λ t. get_or needed (placement_of (get_or list (a t) 0) (b t)) 0) ∙ m (k * 4 + p) (omega arith)
