-- A plane cut twice: the second call is accepted, and leaves what one call would. Assumes nothing.
use mathlib.Core.Path.{◌≡◌, sym, ap, ◌∙◌, subst}
use mathlib.Core.Bool.{Bool}
use mathlib.Core.List.{List}
use Prim.Native.Nat.{ℕ, ◌<◌, min, max}
use native.Mathlib.Decide.{dec_lt}
use native.Mathlib.Omega.{arith}
use lib.Dec.{T, ltb}
use lib.IntN.{ℤ}
use lib.ListN.{get_or}
use Rattle.refusals.specs.Refusal.{refuse_if, after_call}
use Rattle.refusals.proofs.After.{went}
use Rattle.integers.proofs.Tests.{is_true}
use Rattle.pyramid.specs.Plane.{Fits}
use Rattle.pyramid.specs.Places.{tetrolet_places, no_place}
use Rattle.pyramid.specs.Slices.{image_of, slice_of}
use Rattle.pyramid.proofs.Slices.{slice_length}
use Rattle.quota.specs.Quota.{ranks, stays, passes, select, entries_of, quota_limit}
use Rattle.quota.proofs.Accepted.{selected_accepted}
use Rattle.quota.proofs.Again.{kept_again, cut_again}
use Rattle.sifting.specs.Sifting.{Ready}
use Rattle.keeping.specs.Claims.{KeepingLaws}
use Rattle.keeping.specs.Entries.{plane_refusal, keep_refusal, Kept, cut_refusal, Cut}
use Rattle.keeping.proofs.Checks.{sized, front, front_passes}

-- what is so of two numbers is so of the smaller and of the larger
smaller : (f : ℕ → ℕ) (a b : ℕ) → f a ≡ 0 → f b ≡ 0 → f (min a b) ≡ 0
smaller f a b x y = go (dec_lt a b)
  where
    go : Dec (a < b) → f (min a b) ≡ 0
    go (yes l) = let e : min a b ≡ a = omega arith in ap f e ∙ x
    go (no l) = let e : min a b ≡ b = omega arith in ap f e ∙ y

larger : (f : ℕ → ℕ) (a b : ℕ) → f a ≡ 0 → f b ≡ 0 → f (max a b) ≡ 0
larger f a b x y = go (dec_lt a b)
  where
    go : Dec (a < b) → f (max a b) ≡ 0
    go (yes l) = let e : max a b ≡ b = omega arith in ap f e ∙ y
    go (no l) = let e : max a b ≡ a = omega arith in ap f e ∙ x

-- two accepted calls that store the same leave the same
alike : {A : Type 0} {n m : ℕ} {a b : A} (x y s t : A) → n ≡ 0 → m ≡ 0 → x ≡ y → a ≡ after_call n x s → b ≡ after_call m y t → a ≡ b
alike x y s t z o e g h = g ∙ went (sym z) x s ∙ e ∙ sym (h ∙ went (sym o) y t)

-- calls that leave the entries of a plane that pass a test; k is the quota or the threshold, and last what the last check gives
module _ (height width levels : ℕ) (last : ℕ → ℕ) (stay : ℕ → List ℤ → ℕ → Bool) where
  abbrev left : ℕ → List ℤ → List ℤ
  left k p = slice_of height width (select levels height width (stay k p) (image_of height p))

  record Call (k : ℕ) (p p' : List ℤ) (n c : ℕ) : Type 0 where
    pub number : n ≡ plane_refusal height width levels p (last k)
    pub planes : p' ≡ after_call n (left k p) p
    pub counts : c ≡ after_call n (entries_of levels height width (left k p)) 0

  -- what is left of a plane that passed the checks in front passes them
  ready_again : (k : ℕ) (p : List ℤ) → Ready height width levels p → Ready height width levels (left k p)
  ready_again k p r = record {
    sided = r.sided;
    deep = r.deep;
    long = slice_length height width (select levels height width (stay k p) (image_of height p));
    range = is_true _ (selected_accepted levels height width (sized r).some_level (sized r).fits (stay k p) p (subst T (sym r.range) tt));
  }

  -- if k by itself leaves what a and then b leave, then so do the calls
  once : (a b k : ℕ) {p p₁ p₂ p₃ : List ℤ} {n₁ n₂ n₃ c₁ c₂ c₃ : ℕ}
      → plane_refusal height width levels p (last a) ≡ 0 → plane_refusal height width levels p (last b) ≡ 0 → plane_refusal height width levels p (last k) ≡ 0
      → (Fits levels height width → left b (left a p) ≡ left k p)
      → Call a p p₁ n₁ c₁ → Call b p₁ p₂ n₂ c₂ → Call k p p₃ n₃ c₃
      → (n₁ ≡ 0) × (n₂ ≡ 0) × (n₃ ≡ 0) × (p₂ ≡ p₃) × (c₂ ≡ c₃)
  once a b k {p} {p₁} x y z e first second single =
      let r : Ready height width levels p = (front height width levels p (last a) (sym x)).0 in
      let one = first.number ∙ x in
      let is : p₁ ≡ left a p = first.planes ∙ went (sym one) _ p in
      let accepted : plane_refusal height width levels p₁ (last b) ≡ 0 =
      ap (λ (q : List ℤ). plane_refusal height width levels q (last b)) is
      ∙ front_passes height width levels (left a p) (ready_again a p r) (last b) ∙ sym (front_passes height width levels p r (last b)) ∙ y in
      let two = second.number ∙ accepted in
      let three = single.number ∙ z in
      let same : left b p₁ ≡ left k p = ap (left b) is ∙ e (sized r).fits in
      (one, two, three, alike _ _ p₁ p two three same second.planes single.planes, alike _ _ 0 0 two three (ap (entries_of levels height width) same) second.counts single.counts)

-- the two entries are such calls
module _ (height width levels : ℕ) where
  abbrev Keeping : ℕ → List ℤ → List ℤ → ℕ → ℕ → Type 0
  Keeping = Call height width levels (λ k. refuse_if (ltb (quota_limit height width levels) k) 7 0) (λ k p. stays k (ranks levels height width (image_of height p)))

  keeping : {k : ℕ} {p p' : List ℤ} {n c : ℕ} → Kept height width levels p p' k n c → Keeping k p p' n c
  keeping d = record { number = d.number; planes = d.planes; counts = d.counts }

  abbrev Cutting : ℕ → List ℤ → List ℤ → ℕ → ℕ → Type 0
  Cutting = Call height width levels (λ k. refuse_if (ltb 1000000 k) 8 0) (λ k p n. passes k (image_of height p) (get_or (tetrolet_places levels height width) n no_place))

  cutting : {k : ℕ} {p p' : List ℤ} {n c : ℕ} → Cut height width levels p p' k n c → Cutting k p p' n c
  cutting d = record { number = d.number; planes = d.planes; counts = d.counts }

pub laws : KeepingLaws
laws = record {
  keep_again = λ h w R L K p p₁ p₂ p₃ n₁ n₂ n₃ c₁ c₂ c₃ a b k₁ k₂ k₃.
      once h w R _ _ L K (min L K) a b (smaller (keep_refusal h w R p) L K a b) (λ f. kept_again R h w L K f p) (keeping h w R k₁) (keeping h w R k₂) (keeping h w R k₃);
  cut_again = λ h w R t s p p₁ p₂ p₃ n₁ n₂ n₃ c₁ c₂ c₃ a b k₁ k₂ k₃.
      once h w R _ _ t s (max t s) a b (larger (cut_refusal h w R p) t s a b) (λ f. cut_again R h w t s f p) (cutting h w R k₁) (cutting h w R k₂) (cutting h w R k₃);
}
