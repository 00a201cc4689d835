-- The laws of join beside the other entries: what restoring, keeping, cutting and writing make of a joined strip, and two pictures joined. Assumes nothing.
use mathlib.Core.Path.{◌≡◌, refl, sym, ap, ◌∙◌, subst, subst⁻¹}
use mathlib.Core.Bool.{Bool, true, not, ◌&&◌}
use mathlib.Core.List.{List, ◌++◌}
use Prim.Native.Nat.{ℕ, ◌+◌, ◌*◌, ◌≤◌}
use lib.IntN.{ℤ, pos}
use lib.ListN.{length, replicate, length-replicate}
use Rattle.refusals.specs.Refusal.{refuse_if, after_call}
use Rattle.integers.proofs.Tests.{is_true, eq→eqb, false_at}
use Rattle.terms.specs.Terms.{Terms}
use Rattle.pyramid.specs.Plane.{all_blocks, Numbers, listed, Fits}
use Rattle.pyramid.specs.Sides.{is_plane, is_coverings}
use Rattle.pyramid.specs.Slices.{numerators_of, samples_of}
use Rattle.quota.specs.Quota.{quota_limit}
use Rattle.coder.specs.Claims.{Left}
use Rattle.coder.specs.Entries.{Restored}
use Rattle.coder.proofs.Gates.{restoring, restored_passes}
use Rattle.keeping.specs.Entries.{plane_refusal, keep_refusal, cut_refusal}
use Rattle.keeping.proofs.Checks.{front_passes}
use Rattle.sheet_text.specs.Sheet.{sheet_text, write_refusal}
use Rattle.strips.specs.Join.{joined_of, joined_covers}
use Rattle.strips.specs.Laws.{JoinLaws}
use Rattle.strips.specs.Strip.{Strip, strip_of, wide_of, is_sided, is_deep, is_numbered, is_ranged, Framed, Passes}
use Rattle.strips.proofs.All as strips
use Rattle.strips.proofs.Passed.{of_test}
use Rattle.places.proofs.Sides.{passed}
use Rattle.joining.specs.Entries.{Joined}
use Rattle.joining.specs.Claims.{Alike, Taken, JoiningLaws}
use Rattle.joining.proofs.Gates.{checks, join_past}

-- ---- one strip

-- a strip that passes is accepted by the other entries
module _ (s : Strip) (a : Passes s) where
  sided : is_sided s ≡ true
  sided = is_true (is_sided s) a.sides

  deep : is_deep s ≡ true
  deep = is_true (is_deep s) a.depth

  long : is_plane s.height s.width s.plane ≡ true
  long = is_true (is_plane s.height s.width s.plane) (eq→eqb a.frame.0)

  covered : is_coverings s.levels s.height s.width s.coverings ≡ true
  covered = is_true (is_coverings s.levels s.height s.width s.coverings) (eq→eqb a.frame.1)

  numbered : is_numbered s ≡ true
  numbered = is_true (is_numbered s) a.numbers

  ranged : is_ranged s ≡ true
  ranged = is_true (is_ranged s) a.ranges

  checked : (rest : ℕ) → plane_refusal s.height s.width s.levels s.plane rest ≡ rest
  checked = front_passes s.height s.width s.levels s.plane (record { sided = sided; deep = deep; long = a.frame.0; range = ranged })

  keeping : (quota : ℕ) → quota ≤ quota_limit s.height s.width s.levels → keep_refusal s.height s.width s.levels s.plane quota ≡ 0
  keeping quota l = checked _ ∙ ap (λ (b : Bool). refuse_if b 7 0) (false_at (quota_limit s.height s.width s.levels) quota l)

  cutting : (limit : ℕ) → limit ≤ 1000000 → cut_refusal s.height s.width s.levels s.plane limit ≡ 0
  cutting limit l = checked _ ∙ ap (λ (b : Bool). refuse_if b 8 0) (false_at 1000000 limit l)

  writing : (buffer : List ℕ) → length (sheet_text s.height s.width s.levels s.plane s.coverings) ≤ length buffer
      → write_refusal s.height s.width s.levels s.plane s.coverings buffer ≡ 0
  writing buffer l i =
      refuse_if (not (sided i)) 1 (refuse_if (not (deep i)) 2 (refuse_if (not (long i && covered i)) 3 (refuse_if (not (numbered i)) 5 (refuse_if (not (ranged i)) 6
      (refuse_if (false_at (length buffer) (length (sheet_text s.height s.width s.levels s.plane s.coverings)) l i) 10 0)))))

-- ---- two strips

module _ (R h w : ℕ) (p q : List ℤ) (l r : List ℕ) (a : Passes (strip_of h w R p l)) (b : Passes (strip_of h w R q r)) (narrow : w + w ≤ 512) where
  fits : Fits R h w
  fits = (passed h w R (sided (strip_of h w R p l) a) (deep (strip_of h w R p l) a)).fits

  ns : Numbers (all_blocks R h w) (listed l)
  ns = of_test (all_blocks R h w) l a.frame.1 a.numbers

  ms : Numbers (all_blocks R h w) (listed r)
  ms = of_test (all_blocks R h w) r b.frame.1 b.numbers

  abbrev both_strips : Strip
  both_strips = strip_of h (w + w) R (joined_of R h w p q) (joined_covers R h w l r)

  whole : Passes both_strips
  whole = (strips.laws).passes R h w p q l r a b narrow

  laws_of : JoinLaws R h w
  laws_of = (strips.laws).join R h w fits

  pub taken_by : Taken (strip_of h w R p l) (strip_of h w R q r) both_strips
  taken_by = record {
    restored = λ numerators numerators' samples samples' scratch scratch' n c d e t.
        let zero : n ≡ 0 = t.number ∙ restoring both_strips whole numerators scratch samples c d e in (
          zero,
          t.values ∙ ap (λ (k : ℕ). after_call k (numerators_of R h (w + w) (joined_covers R h w l r) (joined_of R h w p q)) numerators) zero ∙ laws_of.numerators p q l r ns ms,
          t.image ∙ ap (λ (k : ℕ). after_call k (samples_of R h (w + w) (joined_covers R h w l r) (joined_of R h w p q)) samples) zero ∙ laws_of.samples p q l r ns ms,
        );
    kept = keeping both_strips whole;
    cut = cutting both_strips whole;
    written = writing both_strips whole;
  }

-- strips that are alike have one height, width and number of levels
module _ (left right : Strip) (a : Alike left right) where
  abbrev level_with : Strip
  level_with = strip_of left.height left.width left.levels right.plane right.coverings

  levelled : right ≡ level_with
  levelled i = strip_of (sym a.heights i) (sym a.widths i) (sym a.levels i) right.plane right.coverings

taken : (left right : Strip) (plane plane' : List ℤ) (coverings coverings' : List ℕ) → Joined left right plane plane' coverings coverings' 0 → Taken left right (wide_of left plane' coverings')
taken left right plane plane' coverings coverings' d =
    let f = join_past left right plane coverings d.number in
    let e = levelled left right f.alike in
    subst⁻¹ (λ (x : List ℤ). Taken left right (wide_of left x coverings')) d.planes
    (subst⁻¹ (λ (x : List ℕ). Taken left right (wide_of left (joined_of left.levels left.height left.width left.plane right.plane) x)) d.covers
    (subst⁻¹ (λ (s : Strip). Taken left s (strip_of left.height (left.width + left.width) left.levels (joined_of left.levels left.height left.width left.plane right.plane) (joined_covers left.levels left.height left.width left.coverings right.coverings))) e
    (taken_by left.levels left.height left.width left.plane right.plane left.coverings right.coverings f.left_passes (subst Passes e f.right_passes) f.alike.narrow)))

-- ---- two pictures

left_passes : (t : Terms) (height width levels : ℕ) (s : List ℕ) (p : List ℤ) (l : List ℕ) → Left t height width levels s p l → Passes (strip_of height width levels p l)
left_passes t height width levels s p l d =
    let z = replicate (width * height) (pos 0) in
    let y = replicate {A = ℕ} (width * height) 0 in
    restored_passes (strip_of height width levels p l) z z y (sym (d.restores z z y (length-replicate (width * height) (pos 0)) (length-replicate (width * height) (pos 0)) (length-replicate {A = ℕ} (width * height) 0)))

pictures : (t u : Terms) (height width levels : ℕ) (s r : List ℕ) (p q : List ℤ) (l m : List ℕ) → Left t height width levels s p l → Left u height width levels r q m → width + width ≤ 512
    → (plane plane' : List ℤ) (coverings coverings' : List ℕ) (k : ℕ) → Framed (strip_of height (width + width) levels plane coverings)
    → Joined (strip_of height width levels p l) (strip_of height width levels q m) plane plane' coverings coverings' k
    → (numerators numerators' : List ℤ) (samples samples' : List ℕ) (scratch scratch' : List ℤ) (n : ℕ)
    → length numerators ≡ (width + width) * height → length samples ≡ (width + width) * height → length scratch ≡ (width + width) * height
    → Restored height (width + width) levels plane' coverings' numerators numerators' samples samples' scratch scratch' n
    → (k ≡ 0) × (n ≡ 0) × (samples' ≡ s ++ r)
pictures t u height width levels s r p q l m a b narrow plane plane' coverings coverings' k framed d numerators numerators' samples samples' scratch scratch' n e f g o =
    let left = strip_of height width levels p l in
    let right = strip_of height width levels q m in
    let alike : Alike left right = record { heights = refl; widths = refl; levels = refl; narrow = narrow } in
    let zero : k ≡ 0 = d.number ∙ (checks left right plane coverings).accepted (left_passes t height width levels s p l a) (left_passes u height width levels r q m b) alike framed in
    let x = (taken left right plane plane' coverings coverings' (subst (Joined left right plane plane' coverings coverings') zero d)).restored numerators numerators' samples samples' scratch scratch' n e f g o in
    (zero, x.0, x.2 ∙ (λ i. a.exact i ++ b.exact i))

pub laws : JoiningLaws
laws = record {
  checks = checks;
  taken = taken;
  joins = λ left right a numerators numerators₂ samples samples₂ scratch scratch₂ c d plane coverings f.
      (checks left right plane coverings).accepted (restored_passes left numerators scratch samples (sym c)) (restored_passes right numerators₂ scratch₂ samples₂ (sym d)) a f;
  pictures = pictures;
}
