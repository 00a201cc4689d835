-- The laws of joining, all together. Assumes nothing.
use mathlib.Core.Path.{◌≡◌, ◌∙◌}
use mathlib.Core.List.{List, ◌++◌}
use Prim.Native.Nat.{ℕ, ◌+◌}
use Rattle.pyramid.specs.Plane.{Fits, Numbers, all_blocks, listed}
use Rattle.pyramid.specs.Slices.{plane_with, samples_of}
use Rattle.pyramid.proofs.Bounds.{exactly}
use Rattle.strips.specs.Join.{joined_covers, joined_of}
use Rattle.strips.specs.Laws.{Samples, Laws}
use Rattle.strips.proofs.Beside.{wide_fits, wide_all}
use Rattle.strips.proofs.Blocks.{covered}
use Rattle.strips.proofs.Merged.{numerators_beside, samples_beside}
use Rattle.strips.proofs.Passed.{passes}
use Rattle.strips.proofs.Placed.{placed}

exact : (R h w : ℕ) → Fits R h w → (s t l r : List ℕ) → Numbers (all_blocks R h w) (listed l) → Numbers (all_blocks R h w) (listed r) → Samples h w s → Samples h w t
    → samples_of R h (w + w) (joined_covers R h w l r) (joined_of R h w (plane_with R h w l s) (plane_with R h w r t)) ≡ s ++ t
exact R h w f s t l r ns ms a b =
    samples_beside R h w f (plane_with R h w l s) (plane_with R h w r t) l r ns ms
    ∙ (λ i. exactly R h w f l ns s a.0 a.1 i ++ exactly R h w f r ms t b.0 b.1 i)

pub laws : Laws
laws = record {
  join = λ R h w f. record {
    fits = wide_fits R h w f;
    blocks = wide_all R h w f;
    numerators = numerators_beside R h w f;
    samples = samples_beside R h w f;
    placed = placed R h w f;
    covered = covered R h w f;
    exact = exact R h w f;
  };
  passes = passes;
}
