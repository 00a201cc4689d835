-- What a selection, such as Keep's or that of a threshold, leaves of a plane in range is in range, also as a slice; so restoring accepts what Keep leaves of a
-- picture's plane, by whatever coverings. Assumes nothing.
use mathlib.Core.Bool.{Bool}
use mathlib.Core.List.{List}
use Prim.Native.Nat.{ℕ, zero, suc, ◌*◌, ◌<◌, ◌≤◌}
use native.Mathlib.Omega.{arith}
use lib.Dec.{T}
use lib.IntN.{ℤ}
use lib.ListN.{get_or}
use Rattle.pyramid.specs.Plane.{Fits}
use Rattle.pyramid.specs.Ranges.{in_range}
use Rattle.pyramid.specs.Slices.{image_of, slice_of, plane_with}
use Rattle.pyramid.proofs.Accepted.{slice_range, plane_accepted}
use Rattle.pyramid.proofs.Whole.{ranged}
use Rattle.quota.specs.Quota.{select, kept_of}
use Rattle.quota.proofs.Select.{selected_range_law}

pub selected_accepted : (R h w : ℕ) → 1 ≤ R → Fits R h w → (stay : ℕ → Bool) (p : List ℤ) → T (in_range R h w (image_of h p)) → T (in_range R h w (image_of h (slice_of h w (select R h w stay (image_of h p)))))
selected_accepted zero h w l f stay p r = absurd (omega arith)
selected_accepted (suc R) h w l f stay p r = slice_range R h w f (select (suc R) h w stay (image_of h p)) (selected_range_law (suc R) h w f stay (image_of h p) ((ranged R h w (image_of h p)).0 r))

pub kept_accepted : (R h w : ℕ) → Fits (suc R) h w → (cs s : List ℕ) → ((k : ℕ) → k < w * h → get_or s k 0 ≤ 4095) → (K : ℕ) → T (in_range (suc R) h w (image_of h (kept_of (suc R) h w K (plane_with (suc R) h w cs s))))
kept_accepted R h w f cs s small K = selected_accepted (suc R) h w (omega arith) f _ (plane_with (suc R) h w cs s) (plane_accepted R h w f cs s small)
