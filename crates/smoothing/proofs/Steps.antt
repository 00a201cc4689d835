-- The step, slice by slice: each agrees with the image that the definition has, and the last is the definition's; how large they are. Assumes nothing.
use mathlib.Core.Path.{◌≡◌, sym, ap, ◌∙◌, subst⁻¹}
use mathlib.Core.Bool.{cond}
use mathlib.Core.List.{List}
use Prim.Native.Nat.{ℕ, ◌*◌, ◌/◌, ◌%◌, ◌^◌, ◌<◌, ◌≤◌}
use native.Mathlib.Nat.{div-add-mod'}
use native.Mathlib.Omega.{arith}
use lib.IntN.{ℤ, pos, nat_abs, ◌-ℤ◌, ◌*ℤ◌}
use lib.ListN.{get_or}
use Rattle.integers.proofs.Index.{index_place}
use Rattle.pyramid.specs.Plane.{Image, analyse, numerators, listed}
use Rattle.pyramid.specs.Slices.{image_of, slice_of, numerators_of}
use Rattle.pyramid.proofs.Slices.{Agree, image_slice, slice_of_law, slice_length}
use Rattle.pyramid.proofs.Finish.{analyse_cong}
use Rattle.pyramid.proofs.Pyramid.{numerators_cong}
use Rattle.pyramid.proofs.Growth.{limited_abs, limited_cong}
use Rattle.pyramid.proofs.Behind.{four_most}
use Rattle.given.specs.Given.{Modest}
use Rattle.synthesis.specs.Synthesis.{Mergeable, Restorable}
use Rattle.variation.specs.Smooth.{gradient, spared, slopes, smoothed, smoothed_of}
use Rattle.variation.proofs.Step.{gradient_cong, mixture, mixed}
use Rattle.variation.proofs.Sizes.{gradient_abs, slopes_abs, mixture_limited}
use Rattle.smoothing.specs.Mixed.{gradient_of, mixed_of}

-- entries of a slice by its image
entry_of : (h w c : ℕ) (l : List ℤ) → ((y x : ℕ) → y < h → x < w → nat_abs (image_of h l y x) ≤ c) → (k : ℕ) → k < w * h → nat_abs (get_or l k (pos 0)) ≤ c
entry_of h w c l f k i = subst⁻¹ (λ (n : ℕ). nat_abs (get_or l n (pos 0)) ≤ c) (sym (div-add-mod' k h)) (let p = index_place h w k i in f (k % h) (k / h) p.0 p.1)

module _ {R h w : ℕ} {cs : List ℕ} {plane : List ℤ} (r : Restorable R h w cs plane) (p : ℕ) where
  abbrev P : Image
  P = image_of h plane

  abbrev Y : Image
  Y = numerators R h w (listed cs) P

  -- the gradient, in the scratch
  abbrev pub first : List ℤ
  first = gradient_of h w (numerators_of R h w cs plane)

  first_is : Agree h w (image_of h first) (gradient h w Y)
  first_is y x k l = image_slice h w (gradient h w (image_of h (numerators_of R h w cs plane))) y x k l ∙ gradient_cong h w (image_of h (numerators_of R h w cs plane)) Y (image_slice h w Y) y x k l

  pub first_modest : Modest h w (image_of h first)
  first_modest y x k l = subst⁻¹ (λ (z : ℤ). nat_abs z ≤ 2 ^ 24) (first_is y x k l) (omega (arith, gradient_abs h w Y y x))

  -- decomposed
  abbrev pub second : List ℤ
  second = slice_of h w (analyse R h w (listed cs) (image_of h first))

  second_is : Agree h w (image_of h second) (slopes R h w (listed cs) P)
  second_is y x k l = image_slice h w (analyse R h w (listed cs) (image_of h first)) y x k l ∙ analyse_cong R h w r.fits (listed cs) (image_of h first) (gradient h w Y) first_is y x k l

  pub second_small : (k : ℕ) → k < w * h → nat_abs (get_or second k (pos 0)) ≤ 2 ^ 40
  second_small =
      entry_of h w (2 ^ 40) second
      (λ y x k l. subst⁻¹ (λ (z : ℤ). nat_abs z ≤ 2 ^ 40) (second_is y x k l) (omega (arith, slopes_abs R h w r.fits (listed cs) P y x k l, four_most R r.most)))

  pub plane_small : (k : ℕ) → k < w * h → nat_abs (get_or plane k (pos 0)) ≤ 2 ^ 40
  plane_small = entry_of h w (2 ^ 40) plane (λ y x k l. omega (arith, limited_abs r.fits r.size y x k l, r.limit))

  -- mixed with the plane
  abbrev pub third : List ℤ
  third = mixed_of R h w p plane second

  third_is : Agree h w (image_of h third) (mixture R h w (listed cs) p P)
  third_is y x k l =
      image_slice h w (λ y x. pos 16 *ℤ P y x -ℤ pos p *ℤ cond (spared R h w P y x) (pos 0) (image_of h second y x)) y x k l
      ∙ ap (λ (z : ℤ). pos 16 *ℤ P y x -ℤ pos p *ℤ cond (spared R h w P y x) (pos 0) z) (second_is y x k l)

  pub third_mergeable : p ≤ 255 → Mergeable R h w (65520 * 4 ^ R) cs third
  third_mergeable s = record {
    fits = r.fits;
    some = r.some;
    most = r.most;
    height = r.height;
    width = r.width;
    plane_long = slice_length h w (λ y x. pos 16 *ℤ P y x -ℤ pos p *ℤ cond (spared R h w P y x) (pos 0) (image_of h second y x));
    covered = r.covered;
    numbers = r.numbers;
    limit = omega (arith, four_most R r.most);
    size = limited_cong r.fits (λ y x k l. sym (third_is y x k l)) (mixture_limited R h w r.fits (listed cs) p P r.size s);
  }

  -- what each call leaves, by what those before it left
  pub sloped_is : {copied merged out : List ℤ} → copied ≡ plane → merged ≡ numerators_of R h w cs copied → out ≡ gradient_of h w merged → out ≡ first
  sloped_is e f g = g ∙ ap (gradient_of h w) (f ∙ ap (numerators_of R h w cs) e)

  pub decomposed_is : {out decomposed : List ℤ} → out ≡ first → decomposed ≡ slice_of h w (analyse R h w (listed cs) (image_of h out)) → decomposed ≡ second
  decomposed_is e f = f ∙ ap (λ (l : List ℤ). slice_of h w (analyse R h w (listed cs) (image_of h l))) e

  pub mixed_is : {decomposed out : List ℤ} → decomposed ≡ second → out ≡ mixed_of R h w p plane decomposed → out ≡ third
  mixed_is e f = f ∙ ap (mixed_of R h w p plane) e

  -- and restored
  pub last_is : numerators_of R h w cs third ≡ smoothed_of R h w cs p plane
  last_is =
      slice_of_law h w (smoothed R h w (listed cs) p P) (numerators_of R h w cs third) (slice_length h w (numerators R h w (listed cs) (image_of h third)))
      (λ y x k l.
      image_slice h w (numerators R h w (listed cs) (image_of h third)) y x k l
      ∙ numerators_cong R h w r.fits (listed cs) r.numbers (image_of h third) (mixture R h w (listed cs) p P) third_is y x k l
      ∙ sym (mixed R h w (listed cs) p P y x))
