-- The words of the table one after the other, as the code has them: what stands at each place.
-- Assumes nothing.
use mathlib.Core.Path.{◌≡◌, refl, sym, ap, ◌∙◌}
use mathlib.Core.List.{List, [], ◌∷◌, ◌++◌}
use Prim.Native.Nat.{ℕ, zero, suc, ◌+◌, ◌*◌, ◌-◌, ◌<◌}
use native.Mathlib.Nat.{not-suc-le-zero, le_of_suc-le-suc}
use native.Mathlib.Omega.{arith}
use lib.ListN.{length, get_or, get_or-append}
use lib.Seq.{get_or-append-add}
use Rattle.std.specs.Prelude.{slice_range}
use Rattle.std.proofs.lemmas.List.{ext_get_or}
use Rattle.std.proofs.lemmas.List.Edits.{length-between, get_or-between}
use Rattle.coverings.specs.Block.{name_of}
use Rattle.coverings.specs.Words.{words, word_of, joined, table}
use Rattle.coverings.specs.Rule.{Number}
use Rattle.coverings.proofs.Sound.{Each}
use Rattle.coverings.proofs.Table.{rule, count, sizes}

joined_at : (ws : List (List ℕ)) → Each (λ w. length w ≡ 16) ws → (i j : ℕ) → i < length ws → j < 16 → get_or (joined ws) (i * 16 + j) 0 ≡ get_or (get_or ws i []) j 0
joined_at [] e i j h l = absurd (not-suc-le-zero h)
joined_at (w ∷ ws) e zero j h l =
    let k : 0 * 16 + j ≡ j = omega arith in
    ap (λ (n : ℕ). get_or (w ++ joined ws) n 0) k ∙ get_or-append w (joined ws) 0 j (omega arith)
joined_at (w ∷ ws) e (suc i) j h l =
    let k : suc i * 16 + j ≡ length w + (i * 16 + j) = omega arith in
    ap (λ (n : ℕ). get_or (w ++ joined ws) n 0) k ∙ get_or-append-add w (joined ws) (i * 16 + j) 0 ∙ joined_at ws e.1 i j (le_of_suc-le-suc h) l

pub place : (n j : ℕ) → Number n → j < 16 → get_or table ((n - 1) * 16 + j) 0 ≡ name_of (word_of n) j
unfolding word_of table
place n j h l = joined_at words sizes (n - 1) j (omega (arith, count)) l

-- each word has sixteen names
pub word_length : (n : ℕ) → Number n → length (word_of n) ≡ 16
word_length n h = (rule.valid n h).sixteen

table_length : length table ≡ 1872
unfolding words table
table_length = refl

-- the sixteen names of a word, as a part of the table
pub word_part : (n : ℕ) → Number n → slice_range table ((n - 1) * 16) ((n - 1) * 16 + 16) ≡ word_of n
word_part n h =
    let long : length (slice_range table ((n - 1) * 16) ((n - 1) * 16 + 16)) ≡ 16 = length-between table ((n - 1) * 16) ((n - 1) * 16 + 16) (omega (arith, table_length, h.1)) ∙ omega arith in
    ext_get_or 0 _ _ (long ∙ sym (word_length n h))
    (λ j l. get_or-between table ((n - 1) * 16) ((n - 1) * 16 + 16) j 0 (omega arith) ∙ place n j h (omega arith))
