-- A rule that is fixed at each block by the coverings listed before fixes the whole list: no other list of coverings is settled. Assumes nothing.
use mathlib.Core.Path.{◌≡◌, refl, sym, ap, ◌∙◌, subst, subst⁻¹}
use mathlib.Core.List.{List, [], ◌∷◌, ◌++◌, append_assoc}
use Prim.Native.Nat.{ℕ, zero, suc, ◌+◌, ◌*◌, ◌/◌, ◌%◌, ◌^◌, ◌≤◌, ◌<◌}
use native.Mathlib.Omega.{arith}
use native.Mathlib.Nat.{div-add-mod'}
use lib.Dec.{T}
use lib.IntN.{ℤ}
use lib.ListN.{length, take, drop, length-append, length-drop, take-append-drop}
use lib.Seq.{get_or-append-add, get_or-take, take-suc, take-append-add, length-take-le}
use Rattle.coverings.specs.Rule.{Number}
use Rattle.block.specs.Block.{pick}
use Rattle.block.specs.Laws.{Wins}
use Rattle.integers.specs.Lists.{every, one_of}
use Rattle.integers.proofs.Tests.{every_at}
use Rattle.terms.specs.Terms.{Terms, among, is_list, at_level}
use Rattle.terms.specs.Laws.{InList, WinsBy}
use Rattle.terms.proofs.All as terms
use Rattle.block.proofs.Pick.{pick_number, pick_wins, pick_cong, wins_once}
use Rattle.integers.proofs.Index.{index_bound, index_place}
use Rattle.pyramid.specs.Plane.{Image, Fits, blocks, all_blocks, block_of, after, bands_of, Chooser, following, chosen_to, listed, covers_after, covers, covers_on, Numbers}
use Rattle.pyramid.specs.Settled.{EachBlock, Settled, SettledBy}
use Rattle.pyramid.proofs.Choose.{Reads, Saying, Ruled, each_map, bands_same, after_cong, by_terms, terms_read}

-- the first n choices, where the covering of each block is the rule's
module _ (choose : Chooser) (h w : ℕ) (A : Image) (cs : List ℕ) (long : blocks h w ≤ length cs)
    (e : (i j : ℕ) → i < h / 4 → j < w / 4 → let n = j * (h / 4) + i in listed cs n ≡ choose (take n cs) (block_of A i j)) where
  level_only : (n : ℕ) → n ≤ blocks h w → take n cs ≡ chosen_to choose h A n
  unfolding chosen_to
  level_only zero l = refl
  level_only (suc n) l = go (level_only n (omega arith))
    where
      at : (m : ℕ) → m ≡ n → listed cs m ≡ choose (take m cs) (block_of A (n % (h / 4)) (n / (h / 4))) → listed cs n ≡ choose (take n cs) (block_of A (n % (h / 4)) (n / (h / 4)))
      at m g = subst (λ (z : ℕ). listed cs z ≡ choose (take z cs) (block_of A (n % (h / 4)) (n / (h / 4)))) g

      here : listed cs n ≡ choose (take n cs) (block_of A (n % (h / 4)) (n / (h / 4)))
      here = at (n / (h / 4) * (h / 4) + n % (h / 4)) (div-add-mod' n (h / 4)) (e (n % (h / 4)) (n / (h / 4)) (index_place (h / 4) (w / 4) n l).0 (index_place (h / 4) (w / 4) n l).1)

      go : take n cs ≡ chosen_to choose h A n → take (suc n) cs ≡ chosen_to choose h A (suc n)
      go r = take-suc cs n 0 (omega arith) ∙ (λ t. r t ++ ((here ∙ λ i. choose (r i) (block_of A (n % (h / 4)) (n / (h / 4)))) t ∷ []))

-- a list each of whose coverings is the rule's after those before it is the rule's list
pub ruled_only : (rule : ℕ → Chooser) → ((r : ℕ) → Reads (rule r)) → (d : ℕ) (before : List ℕ) (R h w : ℕ) → Fits R h w → (A : Image) (cs : List ℕ) → length cs ≡ all_blocks R h w
    → EachBlock (Ruled rule) d (length before) R h w (before ++ cs) A → cs ≡ covers_after rule d before R h w A
unfolding covers_after
ruled_only rule reads d before zero h w f A [] long s = refl
ruled_only rule reads d before zero h w f A (c ∷ cs) long s = absurd (omega arith)
ruled_only rule reads d before (suc R) h w f A cs long s = go (ruled_only rule reads (suc d) (before ++ first) R (h / 2) (w / 2) f.2 image rest)
  where
    choose : Chooser
    choose = following before (rule (suc d))

    first : List ℕ
    first = take (blocks h w) cs

    rest : List ℕ
    rest = drop (blocks h w) cs

    first-long : length first ≡ blocks h w
    first-long = length-take-le (blocks h w) cs (omega arith)

    first_is : first ≡ chosen_to choose h A (blocks h w)
    first_is =
        level_only choose h w A cs (omega arith)
        (λ i j a b. let n = j * (h / 4) + i in sym (get_or-append-add before cs n 0) ∙ s.0 i j a b ∙ ap (λ (z : List ℕ). rule (suc d) z (block_of A i j)) (take-append-add before cs n))
        (blocks h w) (omega arith)

    image : Image
    image = bands_of h (after (length before) (listed (before ++ cs))) A 0

    whole : before ++ cs ≡ (before ++ first) ++ rest
    whole = ap (λ (z : List ℕ). before ++ z) (sym (take-append-drop (blocks h w) cs)) ∙ sym (append_assoc before first rest)

    deeper : EachBlock (Ruled rule) (suc d) (length (before ++ first)) R (h / 2) (w / 2) ((before ++ first) ++ rest) image
    deeper =
        subst (λ (l : List ℕ). EachBlock (Ruled rule) (suc d) (length (before ++ first)) R (h / 2) (w / 2) l image) whole
        (subst⁻¹ (λ (k : ℕ). EachBlock (Ruled rule) (suc d) k R (h / 2) (w / 2) (before ++ cs) image) (length-append before first ∙ ap (λ (n : ℕ). length before + n) first-long) s.1)

    go : (length rest ≡ all_blocks R (h / 2) (w / 2) → EachBlock (Ruled rule) (suc d) (length (before ++ first)) R (h / 2) (w / 2) ((before ++ first) ++ rest) image → rest ≡ covers_after rule (suc d) (before ++ first) R (h / 2) (w / 2) image)
        → cs ≡ covers_after rule d before (suc R) h w A
    go ih = sym (take-append-drop (blocks h w) cs) ∙ (λ t. first ++ rest-is t) ∙ (λ t. first_is t ++ covers_after rule (suc d) (before ++ first_is t) R (h / 2) (w / 2) (bands_of h (listed (first_is t)) A 0))
      where
        rest-is : rest ≡ covers_after rule (suc d) (before ++ first) R (h / 2) (w / 2) (bands_of h (listed first) A 0)
        rest-is =
            ih (length-drop (blocks h w) cs ∙ omega arith) deeper
            ∙ after_cong rule reads (suc d) (before ++ first) R (h / 2) (w / 2) f.2 image (bands_of h (listed first) A 0)
            (bands_same h w f.0 f.1 A (after (length before) (listed (before ++ cs))) (listed first) (λ k l. get_or-append-add before cs k 0 ∙ sym (get_or-take (blocks h w) cs k 0 l)) 0)

-- what holds of each covering, beside what is said
module _ (P : ℕ → Type 0) (S : Saying) where
  each_with : (d k R h w : ℕ) (cs : List ℕ) (A : Image) → ((n : ℕ) → n < k + all_blocks R h w → P (listed cs n)) → EachBlock S d k R h w cs A → EachBlock (λ r earlier v c. P c × S r earlier v c) d k R h w cs A
  each_with d k zero h w cs A ps s = tt
  each_with d k (suc R) h w cs A ps s = (
    (λ i j a b. (ps (k + (j * (h / 4) + i)) (omega (arith, index_bound j i (w / 4) (h / 4) b a)), s.0 i j a b)),
    each_with (suc d) (k + blocks h w) R (h / 2) (w / 2) cs (bands_of h (after k (listed cs)) A 0) (λ m l. ps m (omega arith)) s.1,
  )

  -- coverings, each of which is said to be what only the rule's choice is, are the rule's
  only_by : (rule : ℕ → Chooser) → ((r : ℕ) → Reads (rule r)) → ((r : ℕ) (earlier : List ℕ) (v : ℕ → ℤ) (c : ℕ) → P c → S r earlier v c → c ≡ rule r earlier v)
      → (R h w : ℕ) → Fits R h w → (A : Image) (cs : List ℕ) → length cs ≡ all_blocks R h w → ((n : ℕ) → n < all_blocks R h w → P (listed cs n)) → EachBlock S 0 0 R h w cs A → cs ≡ covers_after rule 0 [] R h w A
  only_by rule reads one R h w f A cs long ps s =
      ruled_only rule reads 0 [] R h w f A cs long
      (each_map (λ r earlier v c. P c × S r earlier v c) (Ruled rule) (λ r earlier v c z. one r earlier v c z.0 z.1) 0 0 R h w cs A
      (each_with 0 0 R h w cs A (λ m l. ps m (omega arith)) s))

pub covers_only : (R h w : ℕ) → Fits R h w → (A : Image) (cs : List ℕ) → length cs ≡ all_blocks R h w → Numbers (all_blocks R h w) (listed cs) → Settled R h w cs A → cs ≡ covers R h w A
covers_only =
    only_by Number (λ r earlier v c. (n : ℕ) → Number n → Wins earlier v c n) (λ r. pick) (λ r. pick_cong)
    (λ r earlier v c m z. wins_once earlier v c (pick earlier v) (z (pick earlier v) (pick_number earlier v)) (pick_wins earlier v c m))

pub on_only : (t : Terms) → T (is_list t.list) → (R h w : ℕ) → Fits R h w → (A : Image) (cs : List ℕ) → length cs ≡ all_blocks R h w → T (every (one_of t.list) cs) → SettledBy t R h w cs A → cs ≡ covers_on t R h w A
on_only t g R h w f A cs long stand =
    only_by (InList t) (λ r earlier v c. (n : ℕ) → InList t n → WinsBy (among (t.tolerance * 2 ^ r) t.list) earlier v c n) (by_terms t) (terms_read t)
    (λ r. terms.only (at_level r t) g) R h w f A cs long (λ n l. every_at (one_of t.list) cs 0 stand n (omega arith))
