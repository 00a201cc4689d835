-- What is proved of windows: which number each call is answered with, and the window beside the full restoring. Assumes nothing.
use Rattle.std.specs.Prelude.{◌≡◌, List, ℕ, ◌+◌, ◌*◌, ◌<◌, ℤ, length, get_or}
use Rattle.terms.specs.Terms.{Terms}
use Rattle.strips.specs.Strip.{Strip, strip_of, Sided, Deep, Framed, Numbered, Ranged, Passes}
use Rattle.coder.specs.Claims.{Left}
use Rattle.coder.specs.Entries.{restore_refusal, Restored}
use Rattle.windows.specs.declared.View.{View}
use Rattle.viewer.specs.Window.{view_of, window_of, window_refusal, Viewed}

-- What 17 asks, cell by cell: the window has one, and each of its cells is one of the picture's, of h rows and w columns.
pub record Fitting (h w : ℕ) (v : View) : Type 0 where
  pub some_rows : 0 < v.tall
  pub some_columns : 0 < v.wide
  pub rows : (y : ℕ) → y < v.tall → v.top + y < h
  pub columns : (x : ℕ) → x < v.wide → v.left + x < w

-- What 3 asks of the window's slice.
abbrev pub Exact : View → List ℕ → Type 0
Exact v samples = length samples ≡ v.wide * v.tall

-- The number of each call.
pub record WindowChecks (s : Strip) (v : View) (samples : List ℕ) : Type 0 where
  pub side : (Sided s → ⊥) → window_refusal s v samples ≡ 1
  pub depth : Sided s → (Deep s → ⊥) → window_refusal s v samples ≡ 2
  -- "17 when the window has no cell or reaches past the picture, after 2 and before 3", whatever the slices are
  pub window : Sided s → Deep s → (Fitting s.height s.width v → ⊥) → window_refusal s v samples ≡ 17
  pub frame : Sided s → Deep s → Fitting s.height s.width v → (Framed s → Exact v samples → ⊥) → window_refusal s v samples ≡ 3
  -- "5 and 6 still look at the whole plane"
  pub covering : Sided s → Deep s → Fitting s.height s.width v → Framed s → Exact v samples → (Numbered s → ⊥) → window_refusal s v samples ≡ 5
  pub coefficient : Sided s → Deep s → Fitting s.height s.width v → Framed s → Exact v samples → Numbered s → (Ranged s → ⊥) → window_refusal s v samples ≡ 6
  -- and the rest is accepted
  pub accepted : Passes s → Fitting s.height s.width v → Exact v samples → window_refusal s v samples ≡ 0

pub record ViewerLaws : Type 0 where
  pub checks : (s : Strip) (v : View) (samples : List ℕ) → WindowChecks s v samples
  -- "Its samples are those of the full restoration at the same places, whichever window fits the picture." `Restored` is the contract of the store's entry,
  -- `Viewed` that of the viewer's: whatever an accepted restoring left in its samples, an accepted window holds that slice at the same places
  pub full : (s : Strip) (numerators numerators' : List ℤ) (samples samples' : List ℕ) (scratch scratch' : List ℤ) (v : View) (window window' : List ℕ)
      → Restored s.height s.width s.levels s.plane s.coverings numerators numerators' samples samples' scratch scratch' 0
      → Viewed s v window window' 0
      → window' ≡ window_of s.height v samples'
  -- the window's sample in row y, column x is the picture's in row top + y, column left + x
  pub at : (h : ℕ) (v : View) (s : List ℕ) (y x : ℕ) → y < v.tall → x < v.wide → get_or (window_of h v s) (x * v.tall + y) 0 ≡ get_or s ((v.left + x) * h + (v.top + y)) 0
  -- it has height times width samples
  pub long : (h : ℕ) (v : View) (s : List ℕ) → Exact v (window_of h v s)
  -- the window of the whole picture is the picture
  pub whole : (h w : ℕ) (s : List ℕ) → length s ≡ w * h → window_of h (view_of 0 0 h w) s ≡ s
  -- "Checks are those of restoring": a window that fits, with a slice of exact length, is answered with the number of restoring, with slices of exact length
  pub alike : (s : Strip) (v : View) (window : List ℕ) (numerators scratch : List ℤ) (samples : List ℕ) → Fitting s.height s.width v → Exact v window
      → length numerators ≡ s.width * s.height → length samples ≡ s.width * s.height → length scratch ≡ s.width * s.height
      → window_refusal s v window ≡ restore_refusal s.height s.width s.levels s.plane s.coverings numerators samples scratch
  -- a window of what decomposing leaves of a picture is not refused, and is the picture's own samples
  pub picture : (t : Terms) (height width levels : ℕ) (samples : List ℕ) (plane : List ℤ) (coverings : List ℕ) → Left t height width levels samples plane coverings
      → (v : View) (window window' : List ℕ) (n : ℕ) → Fitting height width v → Exact v window
      → Viewed (strip_of height width levels plane coverings) v window window' n
      → (n ≡ 0) × (window' ≡ window_of height v samples)
