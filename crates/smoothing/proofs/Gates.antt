-- The checks of the entry smooth: the number of each call by what is found, and what is found where none refuses; the laws of the entry. Assumes nothing.
use mathlib.Core.Path.{◌≡◌, refl, sym, ap, ◌∙◌, subst⁻¹}
use mathlib.Core.Bool.{Bool, true, false, not, ◌&&◌}
use mathlib.Core.List.{List, map}
use Prim.Native.Nat.{ℕ, zero, suc, ◌*◌, ◌/◌, ◌%◌, ◌<◌, ◌≤◌}
use native.Mathlib.Nat.{one-le-pow}
use native.Mathlib.Omega.{arith}
use borrow.Author.Tests.{eqb-true, ltb-false, le-ltb}
use lib.Dec.{T, ltb}
use lib.IntN.{ℤ, pos, ◌*ℤ◌}
use lib.ListN.{length, get_or}
use Rattle.refusals.specs.Refusal.{number_of, refuse_if}
use Rattle.refusals.specs.declared.Refusal.{Refusal}
use Rattle.refusals.proofs.After.{unchanged, past, within}
use Rattle.integers.proofs.Tabulate.{map_tabulate}
use Rattle.integers.proofs.Tests.{is_true, is_false, true_at, both_true, two_hold, not_both, eq→eqb}
use Rattle.pyramid.specs.Plane.{Image, numerators, listed}
use Rattle.pyramid.specs.Slices.{image_of, slice_of, numerators_of}
use Rattle.pyramid.specs.Sides.{is_sides, is_plane, is_coverings}
use Rattle.pyramid.proofs.Sides.{size_laws}
use Rattle.strips.specs.Strip.{Strip, is_sided, is_deep, is_framed, is_numbered, is_ranged, Framed, Passes}
use Rattle.strips.proofs.Passed.{framed_of, of_framed}
use Rattle.places.specs.Sizes.{size_refusal}
use Rattle.places.proofs.Sides.{size_past}
use Rattle.coder.specs.Entries.{restore_refusal}
use Rattle.coder.proofs.Gates.{truth, cleared, mergeable}
use Rattle.variation.specs.Smooth.{smoothed_of}
use Rattle.variation.specs.Laws.{SmoothLaws}
use Rattle.variation.proofs.All as variation
use Rattle.variation.proofs.Step.{unmoved}
use Rattle.smoothing.specs.Entry.{smooth_refusal, Smoothed}
use Rattle.smoothing.specs.Claims.{Exact, SmoothChecks, SmoothingLaws}

-- a picture has a column
one_column : (h w : ℕ) → is_sides h w ≡ true → 1 ≤ w
one_column h w e = let t = ((size_laws h w).sides.0 (truth e)).1 in subst⁻¹ (λ (n : ℕ). 1 ≤ n) t.is (one-le-pow t.log 2 (omega arith))

-- ---- the number of each call

-- the list of checks, by what each finds
abbrev chain : Bool → Bool → Bool → Bool → Bool → Bool → ℕ
chain sided deep framed numbered ranged long = refuse_if (not sided) 1 (refuse_if (not deep) 2 (refuse_if (not framed) 3 (refuse_if (not numbered) 5 (refuse_if (not ranged) 6 (refuse_if long 19 0)))))

module _ (s : Strip) (p : ℕ) (result scratch : List ℤ) where
  abbrev lent : Bool
  lent = is_plane s.height s.width result && is_plane s.height s.width scratch

  sided : T (is_sided s) → is_sided s ≡ true
  sided t = is_true (is_sided s) t

  deep : T (is_deep s) → is_deep s ≡ true
  deep t = is_true (is_deep s) t

  in_frame : Framed s → Exact s result → Exact s scratch → (is_framed s && lent) ≡ true
  in_frame f e g = two_hold (is_framed s) lent (framed_of s f) (truth (two_hold (is_plane s.height s.width result) (is_plane s.height s.width scratch) (eq→eqb e) (eq→eqb g)))

  off_frame : (Framed s → Exact s result → Exact s scratch → ⊥) → (is_framed s && lent) ≡ false
  off_frame f =
      not_both (is_framed s) lent
      (λ a t.
      let b = both_true (is_plane s.height s.width result) (is_plane s.height s.width scratch) (is_true lent t) in
      f (of_framed s (is_true (is_framed s) a)) (eqb-true _ _ b.0) (eqb-true _ _ b.1))

  numbered : T (is_numbered s) → is_numbered s ≡ true
  numbered t = is_true (is_numbered s) t

  ranged : T (is_ranged s) → is_ranged s ≡ true
  ranged t = is_true (is_ranged s) t

  pub checks : SmoothChecks s p result scratch
  checks = record {
    side = λ f i. chain (is_false (is_sided s) f i) (is_deep s) (is_framed s && lent) (is_numbered s) (is_ranged s) (ltb 255 p);
    depth = λ a f i. chain (sided a i) (is_false (is_deep s) f i) (is_framed s && lent) (is_numbered s) (is_ranged s) (ltb 255 p);
    frame = λ a b f i. chain (sided a i) (deep b i) (off_frame f i) (is_numbered s) (is_ranged s) (ltb 255 p);
    covering = λ a b c d e f i. chain (sided a i) (deep b i) (in_frame c d e i) (is_false (is_numbered s) f i) (is_ranged s) (ltb 255 p);
    coefficient = λ a b c d e n f i. chain (sided a i) (deep b i) (in_frame c d e i) (numbered n i) (is_false (is_ranged s) f i) (ltb 255 p);
    step = λ g d e l i. chain (sided g.sides i) (deep g.depth i) (in_frame g.frame d e i) (numbered g.numbers i) (ranged g.ranges i) (true_at 255 p l i);
    accepted = λ g d e l i. chain (sided g.sides i) (deep g.depth i) (in_frame g.frame d e i) (numbered g.numbers i) (ranged g.ranges i) (le-ltb 255 p l i);
  }

  -- ---- what is found where none refuses
  pub record Found : Type 0 where
    pub passes : Passes s
    pub some : 1 ≤ s.width
    pub result-long : Exact s result
    pub scratch_long : Exact s scratch
    pub small : p ≤ 255

  pub smooth_past : 0 ≡ smooth_refusal s p result scratch → Found
  smooth_past e =
      let z = size_past s.height s.width s.levels e in
      let c = past (is_framed s && lent) 2 z.1 in
      let d = past (is_numbered s) 4 c.1 in
      let r = past (is_ranged s) 5 d.1 in
      let l = within (ltb 255 p) 18 r.1 in
      let g = both_true (is_framed s) lent c.0 in
      let b = both_true (is_plane s.height s.width result) (is_plane s.height s.width scratch) g.1 in
      record {
        passes = record { sides = truth z.0.sided; depth = truth z.0.deep; frame = of_framed s g.0; numbers = truth d.0; ranges = truth r.0 };
        some = one_column s.height s.width z.0.sided;
        result-long = eqb-true _ _ b.0;
        scratch_long = eqb-true _ _ b.1;
        small = ltb-false 255 p l.0;
      }

  pub refuses : (r : Refusal) → number_of r ≡ smooth_refusal s p result scratch → Smoothed s p result result scratch scratch (number_of r)
  refuses r e = record { number = e; values = unchanged r _ result; zeros = unchanged r _ scratch }

-- ---- beside restoring

-- check 3 of both, where the slices that they fill are of exact length; and 19, where the step is not over 255
frames : (p c a b n m k l : Bool) (rest : ℕ → ℕ) → a ≡ true → b ≡ true → n ≡ true → m ≡ true → k ≡ true → l ≡ false
    → refuse_if (not ((p && c) && (a && b))) 3 (rest (refuse_if l 19 0)) ≡ refuse_if (not (p && (c && (n && (m && k))))) 3 (rest 0)
frames p c a b n m k l rest d e f g h i =
    (λ j. refuse_if (not ((p && c) && (d j && e j))) 3 (rest (refuse_if (i j) 19 0))) ∙ go p c ∙ sym (λ j. refuse_if (not (p && (c && (f j && (g j && h j))))) 3 (rest 0))
  where
    go : (p c : Bool) → refuse_if (not ((p && c) && true)) 3 (rest 0) ≡ refuse_if (not (p && (c && true))) 3 (rest 0)
    go false c = refl
    go true false = refl
    go true true = refl

exact : (s : Strip) (l : List ℤ) → Exact s l → is_plane s.height s.width l ≡ true
exact s l e = is_true (is_plane s.height s.width l) (eq→eqb e)

alike : (s : Strip) (p : ℕ) (result scratch numerators zeros : List ℤ) (samples : List ℕ) → p ≤ 255 → Exact s result → Exact s scratch → Exact s numerators → Exact s zeros
    → length samples ≡ s.width * s.height
    → smooth_refusal s p result scratch ≡ restore_refusal s.height s.width s.levels s.plane s.coverings numerators samples zeros
alike s p result scratch numerators zeros samples l a b c d e =
    ap (size_refusal s.height s.width s.levels)
    (frames (is_plane s.height s.width s.plane) (is_coverings s.levels s.height s.width s.coverings) (is_plane s.height s.width result) (is_plane s.height s.width scratch)
    (is_plane s.height s.width numerators) (is_plane s.height s.width samples) (is_plane s.height s.width zeros) (ltb 255 p)
    (λ rest. refuse_if (not (is_numbered s)) 5 (refuse_if (not (is_ranged s)) 6 rest))
    (exact s result a) (exact s scratch b) (exact s numerators c) (is_true (is_plane s.height s.width samples) (eq→eqb e)) (exact s zeros d) (le-ltb 255 p l))

-- ---- what an accepted call left
left : (s : Strip) (p : ℕ) (result result' scratch scratch' : List ℤ) → Smoothed s p result result' scratch scratch' 0
    → SmoothLaws s.levels s.height s.width (listed s.coverings) p (image_of s.height s.plane) (image_of s.height result')
left s p result result' scratch scratch' d =
    let r = mergeable s (smooth_past s p result scratch d.number).passes in
    subst⁻¹ (λ (l : List ℤ). SmoothLaws s.levels s.height s.width (listed s.coverings) p (image_of s.height s.plane) (image_of s.height l)) d.values
    ((variation.laws).slice s.levels s.height s.width r.fits s.coverings r.numbers p s.plane)

times_slice : (h w : ℕ) (c : ℤ) (A : Image) → slice_of h w (λ y x. c *ℤ A y x) ≡ map (λ (z : ℤ). c *ℤ z) (slice_of h w A)
unfolding slice_of
times_slice h w c A = sym (map_tabulate (λ (z : ℤ). c *ℤ z) (w * h) (λ k. A (k % h) (k / h)))

unmoved_slice : (R h w : ℕ) (cs : List ℕ) (plane : List ℤ) → smoothed_of R h w cs 0 plane ≡ map (λ (z : ℤ). pos 16 *ℤ z) (numerators_of R h w cs plane)
unmoved_slice R h w cs plane = ap (slice_of h w) (λ i y x. unmoved R h w (listed cs) 0 (image_of h plane) refl y x i) ∙ times_slice h w (pos 16) (numerators R h w (listed cs) (image_of h plane))

empty : (s : Strip) (p : ℕ) (result result' scratch scratch' : List ℤ) → Smoothed s p result result' scratch scratch' 0 → Exact s scratch' × ((k : ℕ) → k < s.width * s.height → get_or scratch' k (pos 1) ≡ pos 0)
empty s p result result' scratch scratch' d = cleared (s.width * s.height) d.zeros

as_before : (s : Strip) (p : ℕ) (result result' scratch scratch' : List ℤ) (n : ℕ) → 0 < n → Smoothed s p result result' scratch scratch' n → (result' ≡ result) × (scratch' ≡ scratch)
as_before s p result result' scratch scratch' zero l d = absurd (omega arith)
as_before s p result result' scratch scratch' (suc n) l d = (d.values, d.zeros)

pub laws : SmoothingLaws
laws = record {
  checks = checks;
  alike = alike;
  left = left;
  empty = empty;
  unchanged = as_before;
  still = λ s result result' scratch scratch' numerators numerators' zeros zeros' samples samples' d e.
      d.values ∙ unmoved_slice s.levels s.height s.width s.coverings s.plane ∙ ap (map (λ (z : ℤ). pos 16 *ℤ z)) (sym e.values);
}
