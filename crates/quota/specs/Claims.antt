-- The third demand, in a page: what is proved of decomposing a picture and then keeping K, on the slices. A slice of height h and width w is stored down
-- columns. Assumes nothing.
use Rattle.std.specs.Prelude.{◌≡◌, not, ◌&&◌, List, ℕ, ◌*◌, ◌-◌, ◌^◌, ◌≤◌, ℤ, pos, ◌-ℤ◌, ◌*ℤ◌, length, get_or}
use Rattle.integers.specs.Sum.{Σℕ, sq, only}
use Rattle.terms.specs.Terms.{Terms, all_numbers}
use Rattle.pyramid.specs.Plane.{listed}
use Rattle.pyramid.specs.Least.{Least}
use Rattle.pyramid.specs.Near.{Near, NearEvery}
use Rattle.pyramid.specs.Places.{tetrolet_places, at, sum_over}
use Rattle.pyramid.specs.Slices.{image_of, picture_of, numerators_of}
use Rattle.integers.specs.Zero.{is_zero}
use Rattle.quota.specs.Quota.{entries_of}

-- A plane's distance: the sum, over all samples of the picture s, of the squared difference between its numerator there and 4 ^ R times the sample.
abbrev pub distance_of : ℕ → ℕ → ℕ → List ℕ → List ℕ → List ℤ → ℕ
distance_of R h w cs s p = Σℕ (w * h) (λ k. sq (get_or (numerators_of R h w cs p) k (pos 0) -ℤ pos (4 ^ R) *ℤ pos (get_or s k 0)))

-- The terms t of the choice, which are its tolerance and its list of coverings; the picture s of height h and width w, R levels, the quota K; the coverings cs and the plane p that
-- decomposing gives; the plane q that Keep left of p.
pub record Demand (t : Terms) (R h w K : ℕ) (s cs : List ℕ) (p q : List ℤ) : Type 0 where
  -- (a) In each block of each level r, the sum of absolute coefficients of the chosen covering on that block's values is at most the tolerance times 2 ^ r
  -- more than that of every other covering in the list (document 02, wish 7).
  pub near : Near t R h w cs (picture_of h s)
  -- With all coverings listed: than that of every other cutting into four edge-joined shapes of four cells (wish 6).
  pub all : t.list ≡ all_numbers → NearEvery t R h w cs (picture_of h s)
  -- With all listed and tolerance 0: in each block of each level, every other cutting into four edge-joined shapes of four cells has at least as large a sum
  -- of absolute coefficients on that block's values as the chosen covering.
  pub least : t.list ≡ all_numbers → t.tolerance ≡ 0 → Least R h w (listed cs) (picture_of h s)
  -- (b) Every other plane of whole numbers over the same coverings, its low-pass chosen at will, with at most K tetrolet entries not zero, has at least the
  -- distance of our kept plane.
  pub nearest : (rival : List ℤ) → length rival ≡ w * h → entries_of R h w rival ≤ K → distance_of R h w cs s q ≤ distance_of R h w cs s rival
  -- (c) Ours has at most K such entries too.
  pub ours : entries_of R h w q ≤ K
  -- (d) Its distance is exactly the sum of 4 ^ (2R - r) times W squared over the dropped entries W of all levels r: those not zero in p and 0 in q.
  pub exact :
      let old = image_of h p in
      let new = image_of h q in
      distance_of R h w cs s q ≡ sum_over (tetrolet_places R h w) (λ e. only (not (is_zero (at old e)) && is_zero (at new e)) (4 ^ (2 * R - e.level) * sq (at old e)))
