-- What is proved of the entries with a list together, and beside those without one. Assumes nothing.
use Rattle.std.specs.Prelude.{◌≡◌, ◌↔◌, List, ℕ, suc, ◌*◌, ◌≤◌, ◌<◌, T, ℤ, length, get_or}
use Rattle.coverings.specs.Rule.{Number}
use Rattle.terms.specs.Terms.{among, is_list}
use Rattle.pyramid.specs.Plane.{all_blocks}
use Rattle.coder.specs.Entries.{within_refusal, DecomposedWithin, frame_refusal, Restored}
use Rattle.coder.specs.Claims.{Picture, Left}
use Rattle.keeping.specs.Entries.{Kept, Cut}
use Rattle.listing.specs.Entries.{listed_refusal, DecomposedListed, restore_listed_refusal, RestoredListed}

-- Document 02, wish 10: "every covering used stands in it": that of each block is an entry of the list. Whether the list holds others is not asked.
abbrev pub Stand : List ℕ → List ℕ → Type 0
Stand list coverings = (k : ℕ) → k < length coverings → (i : ℕ) × (i < length list) × (get_or coverings k 0 ≡ get_or list i 0)

-- What becomes of a plane by cuts: by none, or by calls of keep and threshold one after the other, with whatever quotas and limits. A refused one leaves it.
pub data Cuts (height width levels : ℕ) (plane : List ℤ) : List ℤ → Type 0 where
  uncut : Cuts height width levels plane plane
  keep : {before after : List ℤ} {quota n left : ℕ} → Cuts height width levels plane before → Kept height width levels before after quota n left → Cuts height width levels plane after
  threshold : {before after : List ℤ} {limit n left : ℕ} → Cuts height width levels plane before → Cut height width levels before after limit n left → Cuts height width levels plane after

pub record ListingLaws : Type 0 where
  -- document 02, wish 7: 14 "after 13 when decomposing". What is refused without a list is refused alike with any, and only then is the list looked at
  pub after : (height width levels tolerance : ℕ) (samples list : List ℕ) (plane : List ℤ) (coverings : List ℕ) (scratch : List ℤ) (n : ℕ)
      → within_refusal height width levels tolerance samples plane coverings scratch ≡ suc n → listed_refusal height width levels tolerance samples list plane coverings scratch ≡ suc n
  pub bad : (height width levels tolerance : ℕ) (samples list : List ℕ) (plane : List ℤ) (coverings : List ℕ) (scratch : List ℤ)
      → within_refusal height width levels tolerance samples plane coverings scratch ≡ 0 → (T (is_list list) → ⊥) → listed_refusal height width levels tolerance samples list plane coverings scratch ≡ 14
  -- a picture with a tolerance up to 4,095, a list that is not refused and slices of exact length is not refused
  pub decomposes : (height width levels tolerance : ℕ) (samples list : List ℕ) → Picture height width levels samples → tolerance ≤ 4095 → T (is_list list) → (plane scratch : List ℤ) (coverings : List ℕ)
      → length plane ≡ width * height → length scratch ≡ width * height → length coverings ≡ all_blocks levels height width
      → listed_refusal height width levels tolerance samples list plane coverings scratch ≡ 0
  -- what an accepted call leaves: each covering is in the list and near every other one in it; with all 117 listed, near every cutting there is
  pub left : (height width levels tolerance : ℕ) (samples list : List ℕ) (plane plane' : List ℤ) (coverings coverings' : List ℕ) (scratch scratch' : List ℤ)
      → DecomposedListed height width levels tolerance samples list plane plane' coverings coverings' scratch scratch' 0 → Left (among tolerance list) height width levels samples plane' coverings'
  -- restoring it, with the list and slices of exact length, is accepted and gives the picture
  pub back : (height width levels tolerance : ℕ) (samples list : List ℕ) (plane plane' : List ℤ) (coverings coverings' : List ℕ) (scratch scratch' : List ℤ)
      → DecomposedListed height width levels tolerance samples list plane plane' coverings coverings' scratch scratch' 0
      → (numerators numerators' : List ℤ) (restored restored' : List ℕ) (work work' : List ℤ) (n : ℕ) → length numerators ≡ width * height → length restored ≡ width * height → length work ≡ width * height
      → RestoredListed height width levels plane' coverings' list numerators numerators' restored restored' work work' n → (n ≡ 0) × (restored' ≡ samples)
  -- a list of all 117 is as none: number and every slice of decomposing with a tolerance, for good and refused calls
  pub full : (height width levels tolerance : ℕ) (samples list : List ℕ) (plane plane' : List ℤ) (coverings coverings' : List ℕ) (scratch scratch' : List ℤ) (n : ℕ) → T (is_list list) → length list ≡ 117
      → DecomposedListed height width levels tolerance samples list plane plane' coverings coverings' scratch scratch' n ↔ DecomposedWithin height width levels tolerance samples plane plane' coverings coverings' scratch scratch' n
  -- 14 "directly after 3 when restoring": behind a bad list neither coverings nor coefficients are looked at
  pub third : (height width levels : ℕ) (plane : List ℤ) (coverings list : List ℕ) (numerators : List ℤ) (samples : List ℕ) (scratch : List ℤ) → (T (is_list list) → ⊥)
      → restore_listed_refusal height width levels plane coverings list numerators samples scratch ≡ frame_refusal height width levels plane coverings numerators samples scratch 14
  -- wish 10: 18 "after 5": where a block's covering is no number it is 5, though such a one stands in no list
  pub unnumbered : (height width levels : ℕ) (plane : List ℤ) (coverings list : List ℕ) (numerators : List ℤ) (samples : List ℕ) (scratch : List ℤ) → T (is_list list)
      → (k : ℕ) → k < length coverings → (Number (get_or coverings k 0) → ⊥)
      → restore_listed_refusal height width levels plane coverings list numerators samples scratch ≡ frame_refusal height width levels plane coverings numerators samples scratch 5
  -- "18 when a covering that some block uses is missing from the list", "before 6": one block's is enough, whichever, and whatever the plane holds
  pub missing : (height width levels : ℕ) (plane : List ℤ) (coverings list : List ℕ) (numerators : List ℤ) (samples : List ℕ) (scratch : List ℤ) → T (is_list list) → ((k : ℕ) → k < length coverings → Number (get_or coverings k 0))
      → (k : ℕ) → k < length coverings → ((i : ℕ) → i < length list → get_or coverings k 0 ≡ get_or list i 0 → ⊥)
      → restore_listed_refusal height width levels plane coverings list numerators samples scratch ≡ frame_refusal height width levels plane coverings numerators samples scratch 18
  -- "Sheets whose coverings do stand there give the samples they gave", which is what "restoring without one gives" (wish 7): number and every slice, for good
  -- and refused calls. With `third`, `unnumbered` and `missing` this is every case
  pub same : (height width levels : ℕ) (plane : List ℤ) (coverings list : List ℕ) (numerators numerators' : List ℤ) (samples samples' : List ℕ) (scratch scratch' : List ℤ) (n : ℕ) → T (is_list list) → Stand list coverings
      → RestoredListed height width levels plane coverings list numerators numerators' samples samples' scratch scratch' n ↔ Restored height width levels plane coverings numerators numerators' samples samples' scratch scratch' n
  -- with all 117 in the list, whatever the coverings are: 18 is never answered
  pub full_restored : (height width levels : ℕ) (plane : List ℤ) (coverings list : List ℕ) (numerators numerators' : List ℤ) (samples samples' : List ℕ) (scratch scratch' : List ℤ) (n : ℕ) → T (is_list list) → length list ≡ 117
      → RestoredListed height width levels plane coverings list numerators numerators' samples samples' scratch scratch' n ↔ Restored height width levels plane coverings numerators numerators' samples samples' scratch scratch' n
  -- in the list that was used for decomposing the coverings do stand
  pub used : (height width levels tolerance : ℕ) (samples list : List ℕ) (plane plane' : List ℤ) (coverings coverings' : List ℕ) (scratch scratch' : List ℤ)
      → DecomposedListed height width levels tolerance samples list plane plane' coverings coverings' scratch scratch' 0 → Stand list coverings'
  -- so restoring with it, and slices of exact length, is never refused, neither with 18 nor with another number: uncut, after keep, after a threshold
  pub own : (height width levels tolerance : ℕ) (samples list : List ℕ) (plane plane' cut : List ℤ) (coverings coverings' : List ℕ) (scratch scratch' : List ℤ)
      → DecomposedListed height width levels tolerance samples list plane plane' coverings coverings' scratch scratch' 0 → Cuts height width levels plane' cut
      → (numerators numerators' : List ℤ) (restored restored' : List ℕ) (work work' : List ℤ) (n : ℕ) → length numerators ≡ width * height → length restored ≡ width * height → length work ≡ width * height
      → RestoredListed height width levels cut coverings' list numerators numerators' restored restored' work work' n → n ≡ 0
