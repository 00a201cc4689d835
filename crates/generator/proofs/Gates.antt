-- What the checks of the entry let through, and what a refused and an accepted call leave. Assumes nothing.
use Rattle.std.proofs.Common.{◌≡◌, ℕ, ◌*◌, List, length, ap, ◌∙◌, eqb-true}
use Rattle.refusals.specs.Refusal.{number_of}
use Rattle.refusals.specs.declared.Refusal.{Refusal}
use Rattle.refusals.proofs.After.{unchanged, past}
use Rattle.pyramid.specs.Sides.{is_sides, is_plane}
use Rattle.generator.specs.Generator.{samples_from, image_refusal, Generated}

module _ (height width start : ℕ) (samples : List ℕ) where
  pub refuses : (r : Refusal) → number_of r ≡ image_refusal height width samples → Generated height width start samples samples (number_of r)
  refuses r e = record { number = e; image = unchanged r _ samples }

  -- the slice is as long as the picture, so it has all its samples
  pub generates : 0 ≡ image_refusal height width samples → {samples' : List ℕ} → samples' ≡ samples_from (length samples) start → Generated height width start samples samples' 0
  generates e g =
      let long = eqb-true (length samples) (width * height) (past (is_plane height width samples) 2 (past (is_sides height width) 0 e).1).0 in
      record { number = e; image = g ∙ ap (λ (n : ℕ). samples_from n start) long }
