-- The laws of Keep and Cut, with the third demand, as one record: what is proved of the definitions once and for all. Assumes nothing.
use Rattle.std.specs.Prelude.{◌≡◌, List, Bool, not, cond, ℕ, suc, ◌*◌, ◌<◌, ◌≤◌, min, max, T, ltb, ℤ, pos, length, get_or}
use Rattle.integers.specs.Sum.{Σℕ, only}
use Rattle.terms.specs.Terms.{Terms, within, is_list}
use Rattle.pyramid.specs.Plane.{Image, Fits, halved}
use Rattle.pyramid.specs.Places.{tetrolet_places, no_place, at}
use Rattle.pyramid.specs.Slices.{image_of, plane_with, covers_of, plane_of, covers_by, plane_by}
use Rattle.pyramid.specs.Ranges.{InRange, in_range}
use Rattle.quota.specs.Quota.{stays, select, kept, entries, kept_of, cut_of}
use Rattle.quota.specs.Claims.{Demand}

-- Keep on a list q of ranks.
pub record KeepLaws (K : ℕ) (q : List ℕ) : Type 0 where
  -- the smaller of K and the entries that are not zero stay
  pub count : Σℕ (length q) (λ n. cond (stays K q n) 1 0) ≡ min K (Σℕ (length q) (λ n. cond (ltb 0 (get_or q n 0)) 1 0))
  -- no other choice of at most K entries leaves out a lesser sum of squares
  pub best : (z : ℕ → Bool) → Σℕ (length q) (λ n. cond (z n) 1 0) ≤ K
      → Σℕ (length q) (λ n. only (not (stays K q n)) (get_or q n 0 * get_or q n 0)) ≤ Σℕ (length q) (λ n. only (not (z n)) (get_or q n 0 * get_or q n 0))

-- A selection of entries by their numbers in plane order: the entry at the place with the number n is as it was, or 0, and the low-pass is as it was.
-- With `PlaceLaws` of the crate pyramid, these two say what each entry is.
pub record SelectLaws (R h w : ℕ) (stay : ℕ → Bool) (P : Image) : Type 0 where
  pub tetrolet : (n : ℕ) → n < length (tetrolet_places R h w) → let p = get_or (tetrolet_places R h w) n no_place in at (select R h w stay P) p ≡ cond (stay n) (at P p) (pos 0)
  pub low : (y x : ℕ) → y < halved R h → x < halved R w → select R h w stay P y x ≡ P y x

pub record Laws : Type 0 where
  pub keep : (K : ℕ) (q : List ℕ) → KeepLaws K q
  pub selected : (R h w : ℕ) → Fits R h w → (stay : ℕ → Bool) (P : Image) → SelectLaws R h w stay P
  -- Keep leaves the smaller of K and the entries before that are not zero
  pub counted : (R h w K : ℕ) → Fits R h w → (P : Image) → entries R h w (kept R h w K P) ≡ min K (entries R h w P)
  -- document 02: "keeping L and then K must leave the same plane and final count as keeping the smaller of the two", of any plane of whole numbers; the count
  -- is that of the plane
  pub kept_again : (R h w L K : ℕ) → Fits R h w → (p : List ℤ) → kept_of R h w K (kept_of R h w L p) ≡ kept_of R h w (min L K) p
  -- "Cutting by T and then by S must likewise match the larger threshold"
  pub cut_again : (R h w T S : ℕ) → Fits R h w → (p : List ℤ) → cut_of R h w S (cut_of R h w T p) ≡ cut_of R h w (max T S) p
  -- what a selection leaves of a plane in range is in range
  pub selected_range : (R h w : ℕ) → Fits R h w → (stay : ℕ → Bool) (P : Image) → InRange R h w P → InRange R h w (select R h w stay P)
  -- decomposing a picture, by whatever coverings, gives a plane that Keep accepts, and Keep leaves one that restoring accepts
  pub keep_accepts : (R h w : ℕ) → Fits (suc R) h w → (cs s : List ℕ) → ((k : ℕ) → k < w * h → get_or s k 0 ≤ 4095) → T (in_range (suc R) h w (image_of h (plane_with (suc R) h w cs s)))
  pub restore_accepts : (R h w : ℕ) → Fits (suc R) h w → (cs s : List ℕ) → ((k : ℕ) → k < w * h → get_or s k 0 ≤ 4095) → (K : ℕ) → T (in_range (suc R) h w (image_of h (kept_of (suc R) h w K (plane_with (suc R) h w cs s))))
  -- the third demand, on whatever terms
  pub demand : (t : Terms) → T (is_list t.list) → (R h w K : ℕ) → Fits R h w → (s : List ℕ) → Demand t R h w K s (covers_by t R h w s) (plane_by t R h w s) (kept_of R h w K (plane_by t R h w s))
  -- and without them: tolerance 0, all coverings listed
  pub demand_without : (R h w K : ℕ) → Fits R h w → (s : List ℕ) → Demand (within 0) R h w K s (covers_of R h w s) (plane_of R h w s) (kept_of R h w K (plane_of R h w s))
