-- What is proved of the entry smooth: which number each call is answered with, and what an accepted call leaves beside restoring. Assumes nothing.
use Rattle.std.specs.Prelude.{◌≡◌, List, map, ℕ, ◌*◌, ◌<◌, ◌≤◌, ℤ, pos, ◌*ℤ◌, length, get_or}
use Rattle.pyramid.specs.Plane.{listed}
use Rattle.pyramid.specs.Slices.{image_of}
use Rattle.strips.specs.Strip.{Strip, Sided, Deep, Framed, Numbered, Ranged, Passes}
use Rattle.coder.specs.Entries.{restore_refusal, Restored}
use Rattle.variation.specs.Laws.{SmoothLaws}
use Rattle.smoothing.specs.Entry.{smooth_refusal, Smoothed}

-- What 3 asks of the result and of the scratch.
abbrev pub Exact : Strip → List ℤ → Type 0
Exact s l = length l ≡ s.width * s.height

-- The number of each call.
pub record SmoothChecks (s : Strip) (p : ℕ) (result scratch : List ℤ) : Type 0 where
  pub side : (Sided s → ⊥) → smooth_refusal s p result scratch ≡ 1
  pub depth : Sided s → (Deep s → ⊥) → smooth_refusal s p result scratch ≡ 2
  pub frame : Sided s → Deep s → (Framed s → Exact s result → Exact s scratch → ⊥) → smooth_refusal s p result scratch ≡ 3
  pub covering : Sided s → Deep s → Framed s → Exact s result → Exact s scratch → (Numbered s → ⊥) → smooth_refusal s p result scratch ≡ 5
  pub coefficient : Sided s → Deep s → Framed s → Exact s result → Exact s scratch → Numbered s → (Ranged s → ⊥) → smooth_refusal s p result scratch ≡ 6
  -- "19 when p is over 255, after 6"
  pub step : Passes s → Exact s result → Exact s scratch → 255 < p → smooth_refusal s p result scratch ≡ 19
  -- and the rest is accepted
  pub accepted : Passes s → Exact s result → Exact s scratch → p ≤ 255 → smooth_refusal s p result scratch ≡ 0

pub record SmoothingLaws : Type 0 where
  pub checks : (s : Strip) (p : ℕ) (result scratch : List ℤ) → SmoothChecks s p result scratch
  -- with a step up to 255 and slices of exact length the number is that of restoring: what restoring accepts, cut or not, is smoothed
  pub alike : (s : Strip) (p : ℕ) (result scratch numerators zeros : List ℤ) (samples : List ℕ) → p ≤ 255 → Exact s result → Exact s scratch → Exact s numerators → Exact s zeros
      → length samples ≡ s.width * s.height
      → smooth_refusal s p result scratch ≡ restore_refusal s.height s.width s.levels s.plane s.coverings numerators samples zeros
  -- what an accepted call left in the result, decomposed by the same coverings, shows what the wish asks, and the rest of the step's laws hold of it
  pub left : (s : Strip) (p : ℕ) (result result' scratch scratch' : List ℤ) → Smoothed s p result result' scratch scratch' 0
      → SmoothLaws s.levels s.height s.width (listed s.coverings) p (image_of s.height s.plane) (image_of s.height result')
  -- and the scratch at zeros, entry by entry; a refused call leaves both as they were
  pub empty : (s : Strip) (p : ℕ) (result result' scratch scratch' : List ℤ) → Smoothed s p result result' scratch scratch' 0 → Exact s scratch' × ((k : ℕ) → k < s.width * s.height → get_or scratch' k (pos 1) ≡ pos 0)
  pub unchanged : (s : Strip) (p : ℕ) (result result' scratch scratch' : List ℤ) (n : ℕ) → 0 < n → Smoothed s p result result' scratch scratch' n → (result' ≡ result) × (scratch' ≡ scratch)
  -- the step 0 leaves 16 times the numerators that an accepted restoring of the same plane left
  pub still : (s : Strip) (result result' scratch scratch' numerators numerators' zeros zeros' : List ℤ) (samples samples' : List ℕ)
      → Smoothed s 0 result result' scratch scratch' 0
      → Restored s.height s.width s.levels s.plane s.coverings numerators numerators' samples samples' zeros zeros' 0
      → result' ≡ map (λ (z : ℤ). pos 16 *ℤ z) numerators'
