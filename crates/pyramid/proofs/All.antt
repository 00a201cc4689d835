-- The laws of the pyramid, all together. Assumes nothing.
use mathlib.Core.Path.{◌≡◌, refl, sym, ap, ◌∙◌}
use Prim.Native.Nat.{ℕ, zero, suc, pred, ◌+◌, ◌*◌, ◌-◌, ◌/◌, ◌%◌, ◌^◌, ◌<◌, ◌≤◌}
use native.Mathlib.Omega.{arith}
use native.Mathlib.Nat.{one-mul}
use lib.ListN.{length, length-append}
use mathlib.Core.List.{List}
use Rattle.integers.specs.Sum.{sq, total}
use lib.Dec.{T}
use Rattle.terms.specs.Terms.{Terms, is_list}
use Rattle.pyramid.specs.Plane.{Fits, numerators, Numbers, all_blocks, halved}
use Rattle.integers.specs.Lists.{tabulate}
use Rattle.integers.proofs.Tabulate.{length_tabulate}
use Rattle.pyramid.specs.Places.{Place, plane_places, tetrolet_places, blocks_from, block_at, at, sum_over}
use Rattle.pyramid.specs.Slices.{picture_of, plane_with, covers_of, covers_by}
use Rattle.pyramid.specs.Laws.{PyramidLaws, Places, PlaceLaws, ChosenLaws, Laws}
use Rattle.pyramid.proofs.Pyramid.{numerators_sub, numerators_scale, numerators_analyse}
use Rattle.pyramid.proofs.Energy.{low_total, energy}
use Rattle.pyramid.proofs.Ranges.{in_range_law}
use Rattle.pyramid.proofs.Sides.{size_laws}
use Rattle.pyramid.proofs.Bounds.{bounds, rounded, exactly}
use Rattle.pyramid.proofs.Choose.{covers_length, covers_numbers, covers_least, covers_settled, on_length, on_numbers, on_stand, on_near, on_all, on_settled, on_without}
use Rattle.pyramid.proofs.Only.{covers_only, on_only}
use Rattle.pyramid.proofs.Places.{All, places_inside}
use Rattle.pyramid.proofs.Order.{number_in, plane_inside, number_of, plane_count, entry_at}
use Rattle.pyramid.proofs.Standing.{level, analyse_sub, analyse_scale}
use Rattle.pyramid.proofs.Returned.{analyse_numerators}
use Rattle.pyramid.proofs.Whole.{places_banded, ranged}
use Rattle.pyramid.proofs.Number.{number_at, number_place, places_count, entry_cases}

low_is : (R h w : ℕ) (f : ℕ → ℕ → ℕ) → low_total R h w f ≡ total (halved R h) (halved R w) f
low_is zero h w f = refl
low_is (suc R) h w f = low_is R (h / 2) (w / 2) f

pub pyramid : (R h w : ℕ) → Fits R h w → (cs : ℕ → ℕ) → Numbers (all_blocks R h w) cs → PyramidLaws R h w cs
pyramid R h w f cs ns = record {
  restored = numerators_analyse R h w f cs ns;
  decomposed = analyse_numerators R h w f cs ns;
  analysed = analyse_sub R h w cs;
  additive = numerators_sub R h w cs;
  analysed_times = analyse_scale R h w cs;
  times = numerators_scale R h w cs;
  squares = λ P.
      sym (one-mul (total h w (λ y x. sq (numerators R h w cs P y x))))
      ∙ energy 0 R R h w (omega arith) f cs ns P
      ∙ ap (λ (n : ℕ). 4 ^ R * n + sum_over (tetrolet_places R h w) (λ p. 4 ^ (2 * R - p.level) * sq (at P p))) (low_is R h w (λ y x. sq (P y x)));
  ranges = in_range_law R h w f cs;
  bounds = bounds R h w f cs ns;
}

-- no two numbers are one entry, where an entry tells its number
distinct : (h w : ℕ) (l : List Place) (number : ℕ → ℕ → ℕ) → All (λ n p. (p.down < h) × (p.across < w)) l → All (λ n p. number p.down p.across ≡ n) l → Places h w l
distinct h w l number i e = record {
  inside = i;
  once = λ m n k g p q. sym (e m k) ∙ (λ t. number (p t) (q t)) ∙ e n g;
}

block_count : (d R h w : ℕ) → length (blocks_from d R h w) ≡ all_blocks R h w
unfolding blocks_from
block_count d zero h w = refl
block_count d (suc R) h w =
    length-append (tabulate ((w / 4) * (h / 4)) (λ k. block_at (suc d) (k % (h / 4)) (k / (h / 4)))) _
    ∙ (λ t. length_tabulate ((w / 4) * (h / 4)) (λ k. block_at (suc d) (k % (h / 4)) (k / (h / 4))) t + block_count (suc d) R (h / 2) (w / 2) t)

pub placed : (R h w : ℕ) → Fits R h w → 1 ≤ R → PlaceLaws R h w
placed zero h w f l = absurd (omega arith)
placed (suc R) h w f l = record {
  plane = distinct h w (plane_places (suc R) h w) (number_in (suc R) h w) (plane_inside 0 R h w f) (number_of 0 R h w f);
  all = plane_count 0 R h w f;
  found = λ y x k l. let e = entry_at 0 R h w f y x k l in (number_in (suc R) h w y x, e.inside, e.down, e.across);
  tetrolet = distinct h w (tetrolet_places (suc R) h w) (λ y x. pred (number_at (suc R) h w y x)) (places_inside 0 (suc R) h w f) (λ n l. ap pred (number_place 0 (suc R) h w f n l));
  count = places_count 0 (suc R) h w f;
  cases = entry_cases 0 (suc R) h w f;
  banded = places_banded 0 (suc R) h w;
  blocks = block_count 0 (suc R) h w;
  tested = ranged R h w;
}

on_terms_law : (t : Terms) → T (is_list t.list) → (R h w : ℕ) → Fits R h w → (s : List ℕ) → ChosenLaws t R h w s
on_terms_law t g R h w f s = record {
  lengths = on_length t R h w (picture_of h s);
  numbers = on_numbers t g R h w (picture_of h s);
  stand = on_stand t g R h w (picture_of h s);
  near = on_near t g R h w f (picture_of h s);
  all = λ e. on_all t e R h w f (picture_of h s);
  settled = on_settled t g R h w f (picture_of h s);
  only = on_only t g R h w f (picture_of h s);
  exactly = exactly R h w f (covers_by t R h w s) (on_numbers t g R h w (picture_of h s)) s;
}

pub laws : Laws
laws = record {
  by_coverings = pyramid;
  level = level;
  placed = placed;
  lengths = covers_length;
  numbers = covers_numbers;
  least = covers_least;
  settled = λ R h w f s. covers_settled R h w f (picture_of h s);
  only = λ R h w f s. covers_only R h w f (picture_of h s);
  exactly = λ R h w f s. exactly R h w f (covers_of R h w s) (covers_numbers R h w (picture_of h s)) s;
  on_terms = on_terms_law;
  without = λ R h w s. let e = on_without R h w (picture_of h s) in (e, ap (λ (cs : List ℕ). plane_with R h w cs s) e);
  rounded = rounded;
  sizes = size_laws;
}
