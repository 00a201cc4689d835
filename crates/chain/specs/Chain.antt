-- The chain of the third demand: what decomposing, keeping and restoring answer together, what they leave in each lent slice, and the third demand of
-- these slices. Assumes nothing.
use Rattle.std.specs.Prelude.{◌≡◌, not, ◌&&◌, List, ℕ, ◌*◌, ltb, ℤ, pos, length, replicate}
use Rattle.refusals.specs.Refusal.{refuse_if, after_call}
use Rattle.integers.specs.Lists.{every}
use Rattle.terms.specs.Terms.{among, is_list}
use Rattle.pyramid.specs.Plane.{listed}
use Rattle.pyramid.specs.Least.{Least}
use Rattle.pyramid.specs.Near.{NearEvery}
use Rattle.pyramid.specs.Sides.{is_plane, is_coverings}
use Rattle.pyramid.specs.Slices.{picture_of, covers_by, plane_by, numerators_of, samples_of}
use Rattle.places.specs.Sizes.{size_refusal}
use Rattle.coder.specs.Entries.{is_sample}
use Rattle.quota.specs.Quota.{kept_of, entries_of, quota_limit}
use Rattle.quota.specs.Claims.{Demand}

-- The checks of the three calls, all before the first: 1 2 3 4 13 14 of decomposing with a tolerance and a list, 3 with restoring's slices too, then Keep's
-- 7. What decomposing and Keep leave passes the others.
abbrev pub chain_refusal : ℕ → ℕ → ℕ → ℕ → ℕ → List ℕ → List ℕ → List ℤ → List ℕ → List ℤ → List ℕ → List ℤ → ℕ
chain_refusal height width levels tolerance quota samples list plane coverings numerators restored scratch =
    size_refusal height width levels
    (refuse_if (not ((is_plane height width samples && (is_plane height width plane && (is_coverings levels height width coverings && is_plane height width scratch))) && (is_plane height width numerators && is_plane height width restored))) 3
    (refuse_if (not (every is_sample samples)) 4
    (refuse_if (ltb 4095 tolerance) 13
    (refuse_if (not (is_list list)) 14
    (refuse_if (ltb (quota_limit height width levels) quota) 7
    0)))))

-- The number answered is n, and `left` the count that comes with it, 0 where the chain is refused. A name with ' is what the slice holds after the chain.
pub record Chained (height width levels tolerance quota : ℕ) (samples list : List ℕ) (plane plane' : List ℤ) (coverings coverings' : List ℕ) (numerators numerators' : List ℤ) (restored restored' : List ℕ) (scratch scratch' : List ℤ) (n left : ℕ) : Type 0 where
  pub number : n ≡ chain_refusal height width levels tolerance quota samples list plane coverings numerators restored scratch
  -- "decomposing, then Keep on the plane as left, then restoring what Keep left with the coverings that decomposing gave, the picture's sides and R the
  -- same throughout"
  pub planes : plane' ≡ after_call n (kept_of levels height width quota (plane_by (among tolerance list) levels height width samples)) plane
  pub covers : coverings' ≡ after_call n (covers_by (among tolerance list) levels height width samples) coverings
  pub values : numerators' ≡ after_call n (numerators_of levels height width coverings' plane') numerators
  pub image : restored' ≡ after_call n (samples_of levels height width coverings' plane') restored
  pub zeros : scratch' ≡ after_call n (replicate (width * height) (pos 0)) scratch
  pub counts : left ≡ after_call n (entries_of levels height width plane') 0
  -- the third demand of these slices; the numerators of the kept plane are those that restoring gave, by `values`. Document 02, wish 2: "the claim about
  -- rivals is wanted for strips too". Wish 6: "whatever builds on that choice takes it over. The quota claim is kept, over the coverings chosen." Wish 7: the
  -- list goes along with the tolerance.
  pub demand : n ≡ 0 → Demand (among tolerance list) levels height width quota samples coverings' (plane_by (among tolerance list) levels height width samples) plane'
  -- with all 117 listed: near every cutting there is; and with tolerance 0 no cutting costs less, which is the demand of document 01
  pub all : n ≡ 0 → length list ≡ 117 → NearEvery (among tolerance list) levels height width coverings' (picture_of height samples)
  pub least : n ≡ 0 → length list ≡ 117 → tolerance ≡ 0 → Least levels height width (listed coverings') (picture_of height samples)
