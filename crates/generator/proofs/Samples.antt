-- The samples of the generator by their numbers, and its laws. Assumes nothing.
use Rattle.std.proofs.Common.{◌≡◌, ℕ, zero, suc, ◌+◌, ◌*◌, ◌%◌, ◌^◌, ◌<◌, ◌≤◌, Bool, true, false, not, ◌&&◌, T, List, [], ◌∷◌, length, get_or, set, ℤ, pos, sym, refl, ap, ◌∙◌, subst, zero-mul, add-one, arith, eq-eqb, le-leb}
use native.Mathlib.Nat.{mod-add-mod}
use Rattle.refusals.specs.Refusal.{refuse_if}
use Rattle.integers.specs.Lists.{every}
use Rattle.integers.specs.Lists.{half}
use Rattle.integers.proofs.Half.{half_store}
use Rattle.integers.proofs.Index.{index_bound}
use Rattle.integers.proofs.Tests.{is_true}
use Rattle.pyramid.specs.Sides.{is_sides, is_depth, is_plane, is_coverings}
use Rattle.pyramid.specs.Slices.{picture_of}
use Rattle.coder.specs.Claims.{Picture}
use Rattle.coder.specs.Entries.{is_sample, decompose_refusal}
use Rattle.generator.specs.Generator.{step_of, output_of, samples_from, test_image, image_refusal}
use Rattle.generator.specs.Laws.{state_after, GeneratorLaws}
use Rattle.generator.proofs.Modular.{mod-mul-mod}

-- ---- no sample is over 4,095

sample_small : (s : ℕ) → output_of (step_of s) ≤ 4095
sample_small s = omega arith

small : (n s : ℕ) → every is_sample (samples_from n s) ≡ true
unfolding samples_from
small zero s = refl
small (suc n) s = rw (le-leb _ 4095 (sample_small s)) (small n (step_of s))

-- ---- whole pictures, computed

from_one : test_image 4 4 1 ≡ 968 ∷ 1512 ∷ 2065 ∷ 2887 ∷ 207 ∷ 1513 ∷ 3173 ∷ 2278 ∷ 67 ∷ 2618 ∷ 1025 ∷ 1730 ∷ 2419 ∷ 3428 ∷ 962 ∷ 4017 ∷ []
unfolding samples_from
from_one = refl

from_largest_law : test_image 4 4 4294967295 ≡ 965 ∷ 769 ∷ 552 ∷ 2583 ∷ 2939 ∷ 3580 ∷ 3738 ∷ 2965 ∷ 4092 ∷ 2147 ∷ 1404 ∷ 216 ∷ 2609 ∷ 3822 ∷ 3188 ∷ 199 ∷ []
unfolding samples_from
from_largest_law = refl

-- ---- a sample by its number

-- the state before the first step, and after one step more
pub at_start : (s : ℕ) → s ≡ state_after 0 s
unfolding state_after
at_start s = refl

pub one_more : (i s start : ℕ) {t : ℕ} → s ≡ state_after i start → t ≡ step_of s → t ≡ state_after (i + 1) start
unfolding state_after
one_more i s start e f = f ∙ ap step_of e ∙ ap (λ (n : ℕ). state_after n start) (sym (add-one i))

-- the first step taken apart, and not the last
later : (n s : ℕ) → state_after n (step_of s) ≡ state_after (suc n) s
unfolding state_after
later zero s = refl
later (suc n) s = ap step_of (later n s)

numbered : (n s i : ℕ) → i < n → get_or (samples_from n s) i 0 ≡ output_of (state_after (suc i) s)
unfolding samples_from state_after
numbered zero s i l = absurd (omega arith)
numbered (suc n) s zero l = refl
numbered (suc n) s (suc i) l = numbered n (step_of s) i (omega arith) ∙ ap output_of (later (suc i) s)

sample_at_law : (n s i : ℕ) → i < n → get_or (samples_from n s) i 0 ≡ output_of (state_after (i + 1) s)
sample_at_law n s i l = numbered n s i l ∙ ap (λ (k : ℕ). output_of (state_after k s)) (sym (add-one i))

pub long : (n s : ℕ) → length (samples_from n s) ≡ n
unfolding samples_from
long zero s = refl
long (suc n) s = ap suc (long n (step_of s))

-- a store of the next sample behind those that were stored
pub stored : (start i : ℕ) (old : List ℕ) {now : List ℕ} {v t : ℕ} → i < length old → now ≡ half (samples_from (length old) start) old i → t ≡ state_after (i + 1) start → v ≡ output_of t
    → set now i v ≡ half (samples_from (length old) start) old (i + 1)
stored start i old l e f g =
    half_store (samples_from (length old) start) old i 0 e (g ∙ ap output_of f ∙ sym (sample_at_law (length old) start i l)) (long (length old) start) l

columns : (h w s y x : ℕ) → y < h → x < w → picture_of h (test_image h w s) y x ≡ pos (output_of (state_after (x * h + y + 1) s))
columns h w s y x a b = ap pos (sample_at_law (w * h) s (x * h + y) (index_bound x y w h b a))

-- the first from 0, computed
first : (h w : ℕ) → 0 < h → 0 < w → picture_of h (test_image h w 0) 0 0 ≡ pos 966
unfolding state_after
first h w a b = columns h w 0 0 0 a b ∙ ap (λ (n : ℕ). pos (output_of (state_after (n + 0 + 1) 0))) (zero-mul h)

-- ---- kept modulo 2^32

step_wraps : (s : ℕ) → step_of (s % 2 ^ 32) ≡ step_of s
step_wraps s =
    sym (mod-add-mod (s % 2 ^ 32 * 1664525) (2 ^ 32) 1013904223)
    ∙ ap (λ (n : ℕ). (n + 1013904223) % 2 ^ 32) (mod-mul-mod s 1664525 (2 ^ 32))
    ∙ mod-add-mod (s * 1664525) (2 ^ 32) 1013904223

wraps : (n s : ℕ) → samples_from n (s % 2 ^ 32) ≡ samples_from n s
unfolding samples_from
wraps zero s = refl
wraps (suc n) s = ap (λ (t : ℕ). output_of t ∷ samples_from n t) (step_wraps s)

-- ---- what decompose asks

-- checks 1 to 4 of which the last passes
not_four : (a b c d : Bool) → d ≡ true → refuse_if (not a) 1 (refuse_if (not b) 2 (refuse_if (not c) 3 (refuse_if (not d) 4 0))) ≡ 4 → ⊥
not_four false b c d e f = omega arith
not_four true false c d e f = omega arith
not_four true true false d e f = omega arith
not_four true true true true e f = omega arith
not_four true true true false e f = subst T (sym e) tt

never_four_law : (h w s height width levels : ℕ) (plane scratch : List ℤ) (coverings : List ℕ) → decompose_refusal height width levels (test_image h w s) plane coverings scratch ≡ 4 → ⊥
never_four_law h w s height width levels plane scratch coverings =
    let samples = test_image h w s in
    let framed = is_plane height width samples && (is_plane height width plane && (is_coverings levels height width coverings && is_plane height width scratch)) in
    not_four (is_sides height width) (is_depth levels height width) framed (every is_sample samples) (small (w * h) s)

picture : (h w R s : ℕ) → T (is_sides h w) → T (is_depth R h w) → Picture h w R (test_image h w s)
picture h w R s a b = record { issides = a; isdepth = b; long = long (w * h) s; small = subst T (sym (small (w * h) s)) tt }

-- ---- the checks

accepts : (h w : ℕ) (samples : List ℕ) → T (is_sides h w) → length samples ≡ w * h → image_refusal h w samples ≡ 0
accepts h w samples t e = simp (is_true (is_sides h w) t, eq-eqb (length samples) (w * h) e)

sides_first : (h w : ℕ) (samples : List ℕ) → is_sides h w ≡ false → image_refusal h w samples ≡ 1
sides_first h w samples e = simp e

pub laws : GeneratorLaws
laws = record {
  accepts = accepts;
  sides_first = sides_first;
  first = first;
  from_one = from_one;
  from_largest = from_largest_law;
  long = λ h w s. long (w * h) s;
  columns = columns;
  wraps = λ h w s. wraps (w * h) s;
  small = λ h w s. small (w * h) s;
  never_four = never_four_law;
  picture = picture;
}
