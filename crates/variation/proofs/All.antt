-- The laws of the smoothing step, all together. Assumes nothing.
use mathlib.Core.Path.{refl, ◌∙◌, subst⁻¹}
use Prim.Native.Nat.{ℕ, ◌+◌, ◌*◌, ◌^◌, ◌≤◌}
use lib.IntN.{ℤ, nat_abs}
use Rattle.coverings.specs.Words.{words, word_of}
use Rattle.block.specs.Block.{labels_of, forward, inverse}
use Rattle.pyramid.specs.Plane.{Image, Fits, all_blocks, Numbers, analyse, numerators, listed}
use Rattle.pyramid.specs.Slices.{image_of, slice_of}
use Rattle.pyramid.proofs.Bounds.{limited}
use Rattle.pyramid.proofs.Slices.{Agree, image_slice}
use Rattle.variation.specs.Smooth.{sign_of, gradient, smoothed}
use Rattle.variation.specs.Laws.{SmoothLaws, Pinned, Laws}
use Rattle.variation.proofs.Exact.{subgradient, exact}
use Rattle.variation.proofs.Step.{spares_low_law, spares_kept_law, others, mixed, unmoved}
use Rattle.variation.proofs.Sizes.{sizes}

-- of any image that agrees with what the step gives
step : (R h w : ℕ) → Fits R h w → (cs : ℕ → ℕ) → Numbers (all_blocks R h w) cs → (p : ℕ) (P S : Image) → Agree h w S (smoothed R h w cs p P) → SmoothLaws R h w cs p P S
step R h w f cs ns p P S e = record {
  spares_low = spares_low_law R h w f cs ns p P S e;
  spares_kept = spares_kept_law R h w f cs ns p P S e;
  others = others R h w f cs ns p P S e;
  mixed = λ y x a b. e y x a b ∙ mixed R h w cs p P y x;
  still = λ z y x a b. e y x a b ∙ unmoved R h w cs p P z y x;
  bounds = λ r s y x a b. subst⁻¹ (λ (z : ℤ). 2 * nat_abs z ≤ 65520 * 4 ^ R * (2 + 3 * R)) (e y x a b) (sizes R h w f cs p P (limited R h w P r) s ns y x a b);
}

pinned : Pinned
unfolding words word_of labels_of forward inverse analyse numerators slice_of sign_of gradient smoothed
pinned = record { inside = refl; first = refl; last = refl; rising = refl; step = refl }

pub laws : Laws
laws = record {
  image = λ R h w f cs ns p P. step R h w f cs ns p P (smoothed R h w cs p P) (λ y x a b. refl);
  slice = λ R h w f cs ns p plane.
      step R h w f (listed cs) ns p (image_of h plane) (image_of h (slice_of h w (smoothed R h w (listed cs) p (image_of h plane)))) (image_slice h w (smoothed R h w (listed cs) p (image_of h plane)));
  pinned = pinned;
  subgradient = subgradient;
  exact = exact;
}
