-- Where the coverings of the two strips stand in the joined list, by level, block row and block column. Assumes nothing.
use mathlib.Core.Path.{◌≡◌, refl, sym, ap, ◌∙◌, subst}
use mathlib.Core.List.{List, ◌++◌}
use Prim.Native.Nat.{ℕ, zero, suc, ◌+◌, ◌*◌, ◌-◌, ◌/◌, ◌%◌, ◌<◌, ◌≤◌}
use native.Mathlib.Omega.{arith}
use native.Mathlib.Decide.{dec_lt}
use native.Mathlib.Nat.{mul-add-div_right, mul-add-mod_self_right}
use lib.ListN.{length, get_or, drop, length-append, length-drop, get_or-append}
use lib.Seq.{get_or-drop}
use Rattle.integers.specs.Lists.{tabulate}
use Rattle.integers.proofs.Tabulate.{length_tabulate, get_d_tabulate}
use Rattle.pyramid.specs.Plane.{Fits, blocks, all_blocks, halved, listed}
use Rattle.pyramid.specs.Places.{BlockPlace, block_at, blocks_from, block_places}
use Rattle.strips.specs.Join.{joined_covers}
use Rattle.strips.specs.Laws.{no_block, Covered}
use Rattle.strips.proofs.Beside.{wide_half, wide_blocks, Columns, first_columns, other_columns, level_columns}
use Rattle.strips.proofs.Covers.{past, left_cover, right_cover, other_cover}

-- the blocks of one level
abbrev blocks_of : ℕ → ℕ → ℕ → List BlockPlace
blocks_of h w r = tabulate (blocks h w) (λ k. block_at r (k % (h / 4)) (k / (h / 4)))

blocks_length : (h w r : ℕ) → length (blocks_of h w r) ≡ blocks h w
blocks_length h w r = length_tabulate (blocks h w) (λ k. block_at r (k % (h / 4)) (k / (h / 4)))

first_block : (h w r : ℕ) (t : List BlockPlace) (k : ℕ) → k < blocks h w → get_or (blocks_of h w r ++ t) k no_block ≡ block_at r (k % (h / 4)) (k / (h / 4))
first_block h w r t k l =
    get_or-append (blocks_of h w r) t no_block k (omega (arith, blocks_length h w r))
    ∙ get_d_tabulate (blocks h w) (λ k. block_at r (k % (h / 4)) (k / (h / 4))) no_block k l

-- a block as many columns further right as the left strip has
further_block : (m n k : ℕ) → k < n * m → ((n * m + k) % m ≡ k % m) × ((n * m + k) / m ≡ n + k / m)
further_block m n k l = (mul-add-mod_self_right n m k, mul-add-div_right (some m l) n k)
  where
    some : (m : ℕ) → k < n * m → 0 < m
    some zero g = absurd (omega arith)
    some (suc m) g = omega arith

-- a block of the other levels stands behind the blocks of the first
deeper : (m : ℕ) (a t : List BlockPlace) (es fs : List ℕ) {r i j c : ℕ} → length a ≡ m → ((k : ℕ) → listed es (m + k) ≡ listed fs k) → Covered t fs r i j c → Covered (a ++ t) es r i j c
deeper m a t es fs n e s = record {
  number = m + s.number;
  inside = omega (arith, length-append a t, s.inside);
  level = ap (λ (b : BlockPlace). b.level) here ∙ s.level;
  row = ap (λ (b : BlockPlace). b.row) here ∙ s.row;
  col = ap (λ (b : BlockPlace). b.col) here ∙ s.col;
  value = e s.number ∙ s.value;
}
  where
    here : get_or (a ++ t) (m + s.number) no_block ≡ get_or t s.number no_block
    here = past a t m s.number no_block n

both_covered : (c : ℕ → ℕ) (d R h w : ℕ) → Fits R h w → Columns c d (w / 2) → (l r : List ℕ) → all_blocks R h w ≤ length l → all_blocks R h w ≤ length r → (n : ℕ) → n < length (blocks_from d R h w)
    → let e = get_or (blocks_from d R h w) n no_block in let wide = blocks_from d R h (w + w) in let cs = joined_covers R h w l r in
    Covered wide cs e.level e.row e.col (listed l n) × Covered wide cs e.level e.row (c e.level + e.col) (listed r n)
unfolding blocks_from
both_covered c d zero h w f e l r a b n g = absurd (omega arith)
both_covered c d (suc R) h w f e l r a b n g =
    go (both_covered c (suc d) R (h / 2) (w / 2) f.2 (other_columns c d (w / 2) e) (drop m l) (drop m r) (omega (arith, length-drop m l)) (omega (arith, length-drop m r))) (dec_lt n m)
  where
    m : ℕ
    m = blocks h w

    quarter : w / 2 / 2 ≡ w / 4
    quarter = omega arith

    ml : m ≤ length l
    ml = omega arith

    mr : m ≤ length r
    mr = omega arith

    rest : List BlockPlace
    rest = blocks_from (suc d) R (h / 2) (w / 2)

    t : List BlockPlace
    t = blocks_from (suc d) R (h / 2) ((w + w) / 2)

    us : List ℕ
    us = joined_covers R (h / 2) (w / 2) (drop m l) (drop m r)

    es : List ℕ
    es = joined_covers (suc R) h w l r

    narrow : List BlockPlace
    narrow = blocks_of h w (suc d) ++ rest

    wide : List BlockPlace
    wide = blocks_of h (w + w) (suc d) ++ t

    -- a block of the first level, by its number in the joined list
    first : (k i j v : ℕ) → k < m + m → k % (h / 4) ≡ i → k / (h / 4) ≡ j → listed es k ≡ v → Covered wide es (suc d) i j v
    first k i j v p q s u =
        let here = first_block h (w + w) (suc d) t k (omega (arith, wide_blocks h w f.1)) in
        record {
          number = k;
          inside = omega (arith, length-append (blocks_of h (w + w) (suc d)) t, blocks_length h (w + w) (suc d), wide_blocks h w f.1);
          level = ap (λ (b : BlockPlace). b.level) here;
          row = ap (λ (b : BlockPlace). b.row) here ∙ q;
          col = ap (λ (b : BlockPlace). b.col) here ∙ s;
          value = u;
        }

    later : {r' i j v : ℕ} → Covered (blocks_from (suc d) R (h / 2) (w / 2 + w / 2)) us r' i j v → Covered wide es r' i j v
    later {r'} {i} {j} {v} s =
        deeper (m + m) (blocks_of h (w + w) (suc d)) t es us (blocks_length h (w + w) (suc d) ∙ wide_blocks h w f.1) (other_cover R h w l r ml mr)
        (subst (λ (u : ℕ). Covered (blocks_from (suc d) R (h / 2) u) us r' i j v) (sym (wide_half w f.1)) s)

    go : ((k : ℕ) → k < length rest
        → let e = get_or rest k no_block in let big = blocks_from (suc d) R (h / 2) (w / 2 + w / 2) in
        Covered big us e.level e.row e.col (listed (drop m l) k) × Covered big us e.level e.row (c e.level + e.col) (listed (drop m r) k))
        → Dec (n < m)
        → let e = get_or narrow n no_block in Covered wide es e.level e.row e.col (listed l n) × Covered wide es e.level e.row (c e.level + e.col) (listed r n)
    go ih (yes k) =
        rw (first_block h w (suc d) rest n k, first_columns c d (w / 2) e ∙ quarter) (
          first n (n % (h / 4)) (n / (h / 4)) (listed l n) (omega arith) refl refl (left_cover R h w l r ml mr n k),
          first (m + n) (n % (h / 4)) (w / 4 + n / (h / 4)) (listed r n) (omega arith) (further_block (h / 4) (w / 4) n k).0 (further_block (h / 4) (w / 4) n k).1 (right_cover R h w l r ml mr n k),
        )
    go ih (no k) =
        let q : m + (n - m) ≡ n = omega arith in
        subst (λ (n : ℕ). let e = get_or narrow n no_block in Covered wide es e.level e.row e.col (listed l n) × Covered wide es e.level e.row (c e.level + e.col) (listed r n)) q
        (rw (past (blocks_of h w (suc d)) rest m (n - m) no_block (blocks_length h w (suc d)), ← get_or-drop m l (n - m) 0, ← get_or-drop m r (n - m) 0)
        (let i = ih (n - m) (omega (arith, length-append (blocks_of h w (suc d)) rest, blocks_length h w (suc d))) in (later i.0, later i.1)))

-- the block columns of a level are half as many as the columns of its bands
pub covered : (R h w : ℕ) → Fits R h w → (l r : List ℕ) → length l ≡ all_blocks R h w → length r ≡ all_blocks R h w → (n : ℕ) → n < length (block_places R h w)
    → let e = get_or (block_places R h w) n no_block in let wide = block_places R h (w + w) in let cs = joined_covers R h w l r in
    Covered wide cs e.level e.row e.col (listed l n) × Covered wide cs e.level e.row (halved (suc e.level) w + e.col) (listed r n)
covered R h w f l r a b n g = both_covered (λ r. halved (suc r) w) 0 R h w f (level_columns (w / 2)) l r (omega arith) (omega arith) n g
