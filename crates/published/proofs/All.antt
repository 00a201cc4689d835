-- The laws, all together. Assumes nothing.
use mathlib.Core.Path.{◌≡◌, refl, sym, ap, ◌∙◌, subst⁻¹}
use mathlib.Core.Bool.{Bool, true, false}
use mathlib.Core.List.{List}
use Prim.Native.Nat.{ℕ, ◌*◌, ◌-◌, ◌^◌, ◌≤◌}
use native.Mathlib.Omega.{arith}
use native.Mathlib.Nat.{le_refl, zero-add}
use lib.IntN.{ℤ, pos, ◌*ℤ◌}
use lib.ListN.{get_or}
use Rattle.terms.specs.Terms.{within}
use Rattle.pyramid.specs.Plane.{Image, Fits, analyse, listed}
use Rattle.pyramid.specs.Places.{Place, no_place, places_from, at}
use Rattle.pyramid.specs.Slices.{image_of, picture_of, slice_of, plane_with, covers_of, covers_by}
use Rattle.pyramid.proofs.Slices.{image_slice}
use Rattle.published.specs.Published.{times, published_level, published_at, published_covers, relaxed_covers}
use Rattle.published.specs.Laws.{Each, Planes, Slices, PublishedLaws}
use Rattle.published.proofs.Example.{example}
use Rattle.published.proofs.Pieces.{equations}
use Rattle.published.proofs.Labels.{labels}
use Rattle.published.proofs.Choices.{arg_min_law, covers_units, relaxed_units}
use Rattle.published.proofs.Relaxed.{almost_min_law}
use Rattle.published.proofs.Scaled.{exact_units, each_inside, scaled_units}
use Rattle.published.proofs.Cuts.{planes}

-- in units of 1 / 2 ^ N, before the first level
from_first : (low : Bool) (R N h w : ℕ) → R ≤ N → Fits R h w → (cs : ℕ → ℕ) (A : Image)
    → Each (places_from low 0 R h w) (λ p. published_at h w cs (times (2 ^ N) A) p ≡ pos (2 ^ (N - p.level)) *ℤ at (analyse R h w cs A) p)
from_first low R N h w l f cs A n k =
    let p = get_or (places_from low 0 R h w) n no_place in
    let e : p.level ≡ p.level - 0 = omega arith in
    ap (λ (r : ℕ). published_level r h w cs (times (2 ^ N) A) p.band p.row p.col) e
    ∙ scaled_units low 0 R N h w l f cs A n k
    ∙ ap (λ (m : ℕ). pos (2 ^ (m - p.level)) *ℤ at (analyse R h w cs A) p) (zero-add N)

same_planes_law : (R h w : ℕ) → Fits R h w → (cs : ℕ → ℕ) (A : Image) → Planes R h w (analyse R h w cs A) (published_at h w cs (times (2 ^ R) A))
same_planes_law R h w f cs A =
    planes R h w f (analyse R h w cs A) (published_at h w cs (times (2 ^ R) A)) (from_first true R R h w (le_refl R) f cs A) (from_first false R R h w (le_refl R) f cs A)

-- the same of a plane that is stored in a slice
sliced : (low : Bool) (R h w : ℕ) → Fits R h w → (cs : ℕ → ℕ) (A : Image)
    → Each (places_from low 0 R h w) (λ p. published_at h w cs (times (2 ^ R) A) p ≡ pos (2 ^ (R - p.level)) *ℤ at (image_of h (slice_of h w (analyse R h w cs A))) p)
sliced low R h w f cs A n k =
    let p = get_or (places_from low 0 R h w) n no_place in
    let i = each_inside low 0 R h w f n k in
    from_first low R R h w (le_refl R) f cs A n k ∙ ap (λ (z : ℤ). pos (2 ^ (R - p.level)) *ℤ z) (sym (image_slice h w (analyse R h w cs A) p.down p.across i.0 i.1))

-- the slices by coverings that are the published ones
slices : (R h w : ℕ) → Fits R h w → (s found cs : List ℕ) → cs ≡ found → Slices R h w found (plane_with R h w found s) cs (published_at h w (listed cs) (times (2 ^ R) (picture_of h s)))
slices R h w f s found cs e = subst⁻¹ (λ (l : List ℕ). Slices R h w found (plane_with R h w found s) l (Q l)) e (record {
  coverings = refl;
  plane = planes R h w f (image_of h (plane_with R h w found s)) (Q found) (sliced true R h w f (listed found) (picture_of h s)) (sliced false R h w f (listed found) (picture_of h s));
})
  where
    Q : List ℕ → Place → ℤ
    Q l = published_at h w (listed l) (times (2 ^ R) (picture_of h s))

pub laws : PublishedLaws
laws = record {
  example = example;
  equations = λ n num v l p h. equations n num p h v l;
  labels = labels;
  exact = λ R h w. exact_units R R h w (le_refl R);
  arg_min = arg_min_law;
  almost_min = λ theta earlier v. almost_min_law 1 earlier v theta;
  same_coverings = λ R h w. covers_units R R h w (le_refl R);
  same_planes = same_planes_law;
  same_slices = λ R h w f s. slices R h w f s (covers_of R h w s) (published_covers R h w (times (2 ^ R) (picture_of h s))) (covers_units R R h w (le_refl R) (picture_of h s));
  relaxed_coverings = λ t R h w. relaxed_units t R R h w (le_refl R);
  relaxed_slices = λ t R h w f s.
      slices R h w f s (covers_by (within t) R h w s) (relaxed_covers (t * 2 ^ R) R h w (times (2 ^ R) (picture_of h s))) (relaxed_units t R R h w (le_refl R) (picture_of h s));
  any_unit = covers_units;
  any_unit_relaxed = relaxed_units;
  any_unit_plane = from_first true;
}
