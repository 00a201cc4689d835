-- What is proved of the entry join: which number each call is answered with, what the other entries make of a joined strip, and two pictures joined.
-- Assumes nothing.
use Rattle.std.specs.Prelude.{◌≡◌, List, ◌++◌, ℕ, ◌+◌, ◌*◌, ◌<◌, ◌≤◌, ℤ, length}
use Rattle.terms.specs.Terms.{Terms}
use Rattle.pyramid.specs.Slices.{numerators_of, samples_of}
use Rattle.quota.specs.Quota.{quota_limit}
use Rattle.coder.specs.Claims.{Left}
use Rattle.coder.specs.Entries.{restore_refusal, Restored}
use Rattle.keeping.specs.Entries.{keep_refusal, cut_refusal}
use Rattle.sheet_text.specs.Sheet.{sheet_text, write_refusal}
use Rattle.strips.specs.Strip.{Strip, strip_of, wide_of, Sided, Deep, Framed, Numbered, Ranged, Passes}
use Rattle.joining.specs.Entries.{join_refusal, Joined}

-- What 1 and 2 ask of a strip.
abbrev pub Sized : Strip → Type 0
Sized s = Sided s × Deep s

-- What 15 and 16 ask of two.
pub record Alike (left right : Strip) : Type 0 where
  pub heights : left.height ≡ right.height
  pub widths : left.width ≡ right.width
  pub levels : left.levels ≡ right.levels
  pub narrow : left.width + left.width ≤ 512

-- The number of each call: "Each check takes the left strip, then the right, before the next check".
pub record JoinChecks (left right : Strip) (plane : List ℤ) (coverings : List ℕ) : Type 0 where
  pub side : (Sided left → Sided right → ⊥) → join_refusal left right plane coverings ≡ 1
  pub depth : Sided left → Sided right → (Deep left → Deep right → ⊥) → join_refusal left right plane coverings ≡ 2
  -- "15 when heights, widths or levels differ, after 2", whatever the slices are
  pub mismatch : Sized left → Sized right → (left.height ≡ right.height → left.width ≡ right.width → left.levels ≡ right.levels → ⊥) → join_refusal left right plane coverings ≡ 15
  -- "16 when the joined width is over 512, after 15 and before 3"
  pub wide : Sized left → Sized right → left.height ≡ right.height → left.width ≡ right.width → left.levels ≡ right.levels → 512 < left.width + left.width → join_refusal left right plane coverings ≡ 16
  -- "3 then looks at the joined slices"
  pub frame : Sized left → Sized right → Alike left right → (Framed left → Framed right → Framed (wide_of left plane coverings) → ⊥) → join_refusal left right plane coverings ≡ 3
  pub covering : Sized left → Sized right → Alike left right → Framed left → Framed right → Framed (wide_of left plane coverings) → (Numbered left → Numbered right → ⊥) → join_refusal left right plane coverings ≡ 5
  pub coefficient : Sized left → Sized right → Alike left right → Framed left → Framed right → Framed (wide_of left plane coverings) → Numbered left → Numbered right → (Ranged left → Ranged right → ⊥)
      → join_refusal left right plane coverings ≡ 6
  -- and the rest is accepted
  pub accepted : Passes left → Passes right → Alike left right → Framed (wide_of left plane coverings) → join_refusal left right plane coverings ≡ 0

-- What an accepted call leaves, the joined strip: the other entries take it.
pub record Taken (left right joined : Strip) : Type 0 where
  -- restoring, with slices of exact length, gives the two sets of numerators side by side, and the two sets of samples
  pub restored : (numerators numerators' : List ℤ) (samples samples' : List ℕ) (scratch scratch' : List ℤ) (n : ℕ)
      → length numerators ≡ joined.width * joined.height → length samples ≡ joined.width * joined.height → length scratch ≡ joined.width * joined.height
      → Restored joined.height joined.width joined.levels joined.plane joined.coverings numerators numerators' samples samples' scratch scratch' n
      → (n ≡ 0)
      × (numerators' ≡ numerators_of left.levels left.height left.width left.coverings left.plane ++ numerators_of right.levels right.height right.width right.coverings right.plane)
      × (samples' ≡ samples_of left.levels left.height left.width left.coverings left.plane ++ samples_of right.levels right.height right.width right.coverings right.plane)
  -- keeping, cutting by a threshold and writing refuse it for the quota, the threshold and the buffer only
  pub kept : (quota : ℕ) → quota ≤ quota_limit joined.height joined.width joined.levels → keep_refusal joined.height joined.width joined.levels joined.plane quota ≡ 0
  pub cut : (limit : ℕ) → limit ≤ 1000000 → cut_refusal joined.height joined.width joined.levels joined.plane limit ≡ 0
  pub written : (buffer : List ℕ) → length (sheet_text joined.height joined.width joined.levels joined.plane joined.coverings) ≤ length buffer
      → write_refusal joined.height joined.width joined.levels joined.plane joined.coverings buffer ≡ 0

pub record JoiningLaws : Type 0 where
  pub checks : (left right : Strip) (plane : List ℤ) (coverings : List ℕ) → JoinChecks left right plane coverings
  pub taken : (left right : Strip) (plane plane' : List ℤ) (coverings coverings' : List ℕ) → Joined left right plane plane' coverings coverings' 0 → Taken left right (wide_of left plane' coverings')
  -- two strips that restoring accepts, uncut or cut, of one height, width and number of levels are joined, if they are not too wide
  pub joins : (left right : Strip) → Alike left right → (numerators numerators₂ : List ℤ) (samples samples₂ : List ℕ) (scratch scratch₂ : List ℤ)
      → restore_refusal left.height left.width left.levels left.plane left.coverings numerators samples scratch ≡ 0
      → restore_refusal right.height right.width right.levels right.plane right.coverings numerators₂ samples₂ scratch₂ ≡ 0
      → (plane : List ℤ) (coverings : List ℕ) → Framed (wide_of left plane coverings) → join_refusal left right plane coverings ≡ 0
  -- two pictures, decomposed each on its own terms, joined and restored, are the two pictures side by side; none of these calls is refused
  pub pictures : (t u : Terms) (height width levels : ℕ) (s r : List ℕ) (p q : List ℤ) (l m : List ℕ) → Left t height width levels s p l → Left u height width levels r q m → width + width ≤ 512
      → (plane plane' : List ℤ) (coverings coverings' : List ℕ) (k : ℕ) → Framed (strip_of height (width + width) levels plane coverings)
      → Joined (strip_of height width levels p l) (strip_of height width levels q m) plane plane' coverings coverings' k
      → (numerators numerators' : List ℤ) (samples samples' : List ℕ) (scratch scratch' : List ℤ) (n : ℕ)
      → length numerators ≡ (width + width) * height → length samples ≡ (width + width) * height → length scratch ≡ (width + width) * height
      → Restored height (width + width) levels plane' coverings' numerators numerators' samples samples' scratch scratch' n
      → (k ≡ 0) × (n ≡ 0) × (samples' ≡ s ++ r)
