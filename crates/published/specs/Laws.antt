-- What is proved of the published transform: our coverings are its coverings, ours within a tolerance its relaxed ones, our planes are its planes scaled by 2
-- to the level, and both cuts can be read off its coefficients. Assumes nothing.
use Rattle.std.specs.Prelude.{◌≡◌, cond, List, [], ◌∷◌, ℕ, zero, suc, ◌+◌, ◌*◌, ◌-◌, ◌/◌, ◌^◌, ◌<◌, ◌≤◌, T, leb, ltb, ℤ, pos, nat_abs, ◌*ℤ◌, length, get_or}
use Rattle.integers.specs.Lists.{every, one_of}
use Rattle.coverings.specs.Words.{word_of}
use Rattle.coverings.specs.Rule.{Number}
use Rattle.block.specs.Block.{values_of, shapes_of, labels_of, count_in}
use Rattle.terms.specs.Terms.{within}
use Rattle.pyramid.specs.Plane.{Image, Fits, blocks, block_of, after, analyse, listed, covers, covers_on}
use Rattle.pyramid.specs.Places.{Place, no_place, plane_places, tetrolet_places, at}
use Rattle.pyramid.specs.Slices.{image_of, picture_of, covers_of, plane_of, covers_by, plane_by}
use Rattle.quota.specs.Quota.{rank_of, ranks, stays, passes, kept, cut}
use Rattle.published.specs.Example.{Example}
use Rattle.published.specs.Published.{times, signed, over_piece, half, coefficient, published_cost, published_choice, relaxed_choice, deviations, published_bands, published_at, published_covers, relaxed_covers, sizes, hard}

-- A statement of each place of a list.
abbrev pub Each : List Place → (Place → Type 0) → Type 0
Each l Q = (n : ℕ) → n < length l → Q (get_or l n no_place)

-- No half is rounded: the values that each level works on are even, and in each block twice each coefficient of each covering is the sum that it is half of.
abbrev pub Exact : ℕ → ℕ → ℕ → (ℕ → ℕ) → Image → Type 0
Exact zero h w cs A = Unit {0}
Exact (suc R) h w cs A =
    ((y x : ℕ) → (z : ℤ) × (A y x ≡ pos 2 *ℤ z))
    × ((word : List ℕ) (i j l p : ℕ) → l < 4 → pos 2 *ℤ coefficient word (block_of A i j) l p ≡ signed l (values_of (shapes_of word p) (block_of A i j)))
    × Exact R (h / 2) (w / 2) (after (blocks h w) cs) (published_bands h cs A 0)

-- (3.3) and the sentence on ties: c is rightly chosen where n is another. At equal cost n was not chosen more often; if as often, it has no lower number.
pub record ArgMin (earlier : List ℕ) (v : ℕ → ℤ) (c n : ℕ) : Type 0 where
  pub lowest : published_cost (word_of c) v ≤ published_cost (word_of n) v
  pub often : published_cost (word_of c) v ≡ published_cost (word_of n) v → count_in n earlier ≤ count_in c earlier
  pub first : published_cost (word_of c) v ≡ published_cost (word_of n) v → count_in c earlier ≡ count_in n earlier → c ≤ n

-- Section 5 (b), step 1, as a fact: n is almost optimal.
abbrev pub Almost : ℕ → (ℕ → ℤ) → ℕ → Type 0
Almost theta v n = (m : ℕ) → Number m → published_cost (word_of n) v ≤ published_cost (word_of m) v + theta

-- Both steps: c is rightly chosen where n is another. It costs at most theta more. An almost optimal n was not chosen more often; if as often, it has no lower
-- number.
pub record AlmostMin (theta : ℕ) (earlier : List ℕ) (v : ℕ → ℤ) (c n : ℕ) : Type 0 where
  pub near : published_cost (word_of c) v ≤ published_cost (word_of n) v + theta
  pub often : Almost theta v n → count_in n earlier ≤ count_in c earlier
  pub first : Almost theta v n → count_in c earlier ≡ count_in n earlier → c ≤ n

-- R levels by given coverings: P is our plane of the image A, Q the published numbers, in units of 1 / 2 ^ R, by their places. 2 ^ (R - r) times an entry of
-- ours is that entry in the published units.
pub record Planes (R h w : ℕ) (P : Image) (Q : Place → ℤ) : Type 0 where
  -- in these units the published number is 2 ^ (R - r) times ours, the low-pass (level R) once
  pub scaled : Each (plane_places R h w) (λ p. Q p ≡ pos (2 ^ (R - p.level)) *ℤ at P p)
  -- document 01: "a level-r number is 2^r times the paper's"
  pub to_the_level : Each (plane_places R h w) (λ p. pos (2 ^ R) *ℤ at P p ≡ pos (2 ^ p.level) *ℤ Q p)
  -- a rank is the absolute published coefficient
  pub rank : Each (tetrolet_places R h w) (λ p. rank_of R P p ≡ nat_abs (Q p))
  pub ranked : ranks R h w P ≡ sizes R h w Q
  -- Keep K: a coefficient stays if it is not zero and fewer than K published coefficients go before it, the larger first, then plane order
  pub keeps : (K n : ℕ) → n < length (tetrolet_places R h w) → let p = get_or (tetrolet_places R h w) n no_place in
      pos (2 ^ (R - p.level)) *ℤ at (kept R h w K P) p ≡ cond (stays K (sizes R h w Q) n) (Q p) (pos 0)
  -- Cut by T, which is T * 2 ^ R units: a coefficient passes if it is at least T, and what is left is its hard threshold
  pub threshold : (T : ℕ) → Each (tetrolet_places R h w) (λ p. passes T P p ≡ leb (T * 2 ^ R) (nat_abs (Q p)))
  pub cuts : (T : ℕ) → Each (tetrolet_places R h w) (λ p. pos (2 ^ (R - p.level)) *ℤ at (cut R h w T P) p ≡ hard (T * 2 ^ R) (Q p))

-- The slices that decomposing R levels of a picture gives, its coverings and its plane, beside the published coverings and the published numbers of that
-- picture.
pub record Slices (R h w : ℕ) (found : List ℕ) (p : List ℤ) (cs : List ℕ) (Q : Place → ℤ) : Type 0 where
  pub coverings : found ≡ cs
  pub plane : Planes R h w (image_of h p) Q

-- "24 possibilities to label the four tetrominoes": the labels of pieces 0, 1, 2, 3, in which each of 0 to 3 stands.
abbrev pub Labelling : List ℕ → Type 0
Labelling l = (length l ≡ 4) × T (every (λ a. ltb a 4) l) × T (every (one_of l) (0 ∷ 1 ∷ 2 ∷ 3 ∷ []))

pub record PublishedLaws : Type 0 where
  -- the example of document 000 comes out
  pub example : Example
  -- (3.1) and (3.2) to the letter, for each covering
  pub equations : (n : ℕ) → Number n → (v : ℕ → ℤ) (l p : ℕ) → p < 4 → coefficient (word_of n) v l p ≡ half (over_piece (word_of n) v l p)
  -- step 3: the labels are a labelling, and no other has fewer deviations
  pub labels : (w : List ℕ) → Labelling (labels_of w) × ((l : List ℕ) → Labelling l → deviations w (labels_of w) ≤ deviations w l)
  -- in units of 1 / 2 ^ R, halving at R levels is exact
  pub exact : (R h w : ℕ) (cs : ℕ → ℕ) (A : Image) → Exact R h w cs (times (2 ^ R) A)
  -- on even values, which by `exact` they all are, the choice is (3.3) with the rule for ties
  pub arg_min : (earlier : List ℕ) (v : ℕ → ℤ) (n : ℕ) → Number n → let u : ℕ → ℤ = (λ a. pos 2 *ℤ v a) in ArgMin earlier u (published_choice earlier u) n
  -- and the relaxed choice is the two steps of section 5 (b)
  pub almost_min : (theta : ℕ) (earlier : List ℕ) (v : ℕ → ℤ) (n : ℕ) → Number n →
      let u : ℕ → ℤ = (λ a. pos 2 *ℤ v a) in AlmostMin theta earlier u (relaxed_choice theta earlier u) n
  -- our coverings are the published ones, our planes the published ones scaled by 2 to the level: of any image, and of the slices that decomposing gives
  pub same_coverings : (R h w : ℕ) (A : Image) → published_covers R h w (times (2 ^ R) A) ≡ covers R h w A
  pub same_planes : (R h w : ℕ) → Fits R h w → (cs : ℕ → ℕ) (A : Image) → Planes R h w (analyse R h w cs A) (published_at h w cs (times (2 ^ R) A))
  pub same_slices : (R h w : ℕ) → Fits R h w → (s : List ℕ) →
      let A = times (2 ^ R) (picture_of h s) in
      let cs = published_covers R h w A in
      Slices R h w (covers_of R h w s) (plane_of R h w s) cs (published_at h w (listed cs) A)
  -- the relaxed coverings are ours within t: the paper's theta, the same at every level, is our t, which counts t * 2 ^ r at level r; it is t * 2 ^ R units
  pub relaxed_coverings : (t R h w : ℕ) (A : Image) → relaxed_covers (t * 2 ^ R) R h w (times (2 ^ R) A) ≡ covers_on (within t) R h w A
  pub relaxed_slices : (t R h w : ℕ) → Fits R h w → (s : List ℕ) →
      let A = times (2 ^ R) (picture_of h s) in
      let cs = relaxed_covers (t * 2 ^ R) R h w A in
      Slices R h w (covers_by (within t) R h w s) (plane_by (within t) R h w s) cs (published_at h w (listed cs) A)
  -- a smaller unit, 1 / 2 ^ N, gives the same coverings and the same numbers in that unit
  pub any_unit : (R N h w : ℕ) → R ≤ N → (A : Image) → published_covers R h w (times (2 ^ N) A) ≡ covers R h w A
  pub any_unit_relaxed : (t R N h w : ℕ) → R ≤ N → (A : Image) → relaxed_covers (t * 2 ^ N) R h w (times (2 ^ N) A) ≡ covers_on (within t) R h w A
  pub any_unit_plane : (R N h w : ℕ) → R ≤ N → Fits R h w → (cs : ℕ → ℕ) (A : Image)
      → Each (plane_places R h w) (λ p. published_at h w cs (times (2 ^ N) A) p ≡ pos (2 ^ (N - p.level)) *ℤ at (analyse R h w cs A) p)
