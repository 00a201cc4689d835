-- The height, the width and the levels that the checks 1 and 2 let through. Assumes nothing.
use Rattle.refusals.specs.declared.Refusal.{Refusal}
use Rattle.std.specs.Prelude.{Result, Ok, ⊤}
use mathlib.Core.Path.{◌≡◌, sym, subst}
use mathlib.Core.Bool.{true}
use Prim.Native.Nat.{ℕ, ◌*◌, ◌≤◌}
use native.Mathlib.Nat.{mul-le-mul}
use lib.Dec.{T}
use Rattle.refusals.specs.Refusal.{answer_of, after_call}
use Rattle.refusals.proofs.After.{past, front_passed}
use Rattle.pyramid.specs.Plane.{Fits}
use Rattle.pyramid.specs.Sides.{is_sides, is_depth}
use Rattle.pyramid.proofs.Sides.{Sized, sides_are, side_is, sized, sized_fits, side_small, levels_small}
use Rattle.places.specs.Sizes.{size_refusal}

pub record Passed (h w R : ℕ) : Type 0 where
  pub sided : is_sides h w ≡ true
  pub deep : is_depth R h w ≡ true
  pub sizes : Sized R h w
  pub fits : Fits R h w
  pub tall : h ≤ 512
  pub wide : w ≤ 512
  pub area : w * h ≤ 262144
  pub few : R ≤ 8
  pub some_level : 1 ≤ R

-- each of the two is small
pub sides_small : (h w : ℕ) → is_sides h w ≡ true → (h ≤ 512) × (w ≤ 512)
sides_small h w e = let s = sides_are h w (subst T (sym e) tt) in (side_small (side_is h s.0), side_small (side_is w s.1))

pub passed : (h w R : ℕ) → is_sides h w ≡ true → is_depth R h w ≡ true → Passed h w R
passed h w R e d =
    let s = sides_are h w (subst T (sym e) tt) in
    let z = sized R h w s.0 s.1 (subst T (sym d) tt) in
    let l = sides_small h w e in
    record {
      sided = e;
      deep = d;
      sizes = z;
      fits = sized_fits z;
      tall = l.0;
      wide = l.1;
      area = mul-le-mul l.1 l.0;
      few = levels_small z;
      some_level = z.some;
    }

-- by the checks themselves, with the number of those behind them; and by the answer of the function that does them
pub size_past : (h w R : ℕ) {rest : ℕ} → 0 ≡ size_refusal h w R rest → Passed h w R × (0 ≡ rest)
size_past h w R e =
    let a = past (is_sides h w) 0 e in
    let b = past (is_depth R h w) 1 a.1 in
    (passed h w R a.0 b.0, b.1)

pub size_passed : (h w R : ℕ) {a : Result ⊤ Refusal} → a ≡ (Ok tt) → ((rest : ℕ) → size_refusal h w R rest ≡ after_call (answer_of a) rest (answer_of a)) → Passed h w R
size_passed h w R e f = (size_past h w R (front_passed 0 e (f 0))).0
