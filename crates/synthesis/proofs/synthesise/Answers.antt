-- `synthesis::synthesise` meets its contract. Assumes nothing.
use mathlib.Core.Path.{◌≡◌, refl, ap, ◌∙◌, subst, subst⁻¹}
use mathlib.Core.List.{List}
use Prim.Native.Nat.{ℕ, suc, ◌*◌, ◌-◌, ◌/◌, ◌^◌, ◌≤◌}
use native.Mathlib.Nat.{pow-suc}
use native.Mathlib.Omega.{arith}
use lib.IntN.{ℤ, pos}
use lib.ListN.{length, replicate}
use Rattle.slices.specs.Stores.{rectangles}
use Rattle.slices.proofs.Stores.{length_rectangles}
use Rattle.pyramid.specs.Plane.{after, listed}
use Rattle.pyramid.specs.Slices.{image_of}
use Rattle.synthesis.specs.Synthesis.{Level, merged_block, put_columns}
use Rattle.synthesis.proofs.Merging.{columns_length}
use Rattle.synthesis.proofs.Deeper.{Reached, Turn, reach_none, reach_all, turn_of, turn_takes, turn_level, turn_reached}
use Rattle.synthesis.proofs.synthesise.Goals as goal
use Rattle.synthesis.proofs.synthesise.Goals.{In-loop-left}

turn : (c : goal.In-loop-left) → let l = c.loop-left in let a = c.args in
    Turn a.levels a.height a.width l.left (a.height / 2 ^ (l.left - 1)) (a.width / 2 ^ (l.left - 1)) (l.first - a.width / 2 ^ (l.left - 1) / 4 * (a.height / 2 ^ (l.left - 1) / 4)) l.weight (l.left - 1)
turn c =
    let l = c.loop-left in
    let a = c.args in
    turn_of a.levels a.height a.width l.left l.first l.weight (omega arith) l.invariant.0 l.invariant.1 l.invariant.2

takes : (c : goal.In-loop-left) → let l = c.loop-left in let a = c.args in a.width / 2 ^ (l.left - 1) / 4 * (a.height / 2 ^ (l.left - 1) / 4) ≤ l.first
takes c =
    let l = c.loop-left in
    let a = c.args in
    turn_takes a.levels a.height a.width l.left l.first l.weight (omega arith) l.invariant.0 l.invariant.1 l.invariant.2

level : (c : goal.In-loop-left) → let l = c.loop-left in let a = c.args in
    Level a.height (a.height / 2 ^ (l.left - 1)) (a.width / 2 ^ (l.left - 1)) l.weight (l.first - a.width / 2 ^ (l.left - 1) / 4 * (a.height / 2 ^ (l.left - 1) / 4)) a.coverings.now l.numerators
level c =
    let l = c.loop-left in
    turn_level c.requires.mergeable (turn c) l.numerators l.invariant.3 l.invariant.5

-- the values c the level's blocks
abbrev values : (c : goal.In-loop-left) → ℕ → ℕ → List ℤ
values c =
    let l = c.loop-left in
    let a = c.args in
    merged_block a.height (a.height / 2 ^ (l.left - 1)) (a.width / 2 ^ (l.left - 1)) l.weight (after (l.first - a.width / 2 ^ (l.left - 1) / 4 * (a.height / 2 ^ (l.left - 1) / 4)) (listed a.coverings.now)) l.numerators

scratch_length : (c : goal.In-loop-left) → let l = c.loop-left in let a = c.args in length (put_columns a.height (values c) (a.height / 2 ^ (l.left - 1) / 4) (a.width / 2 ^ (l.left - 1) / 4) l.scratch) ≡ a.width * a.height
scratch_length c =
    let l = c.loop-left in
    let a = c.args in
    columns_length a.height (values c) (a.height / 2 ^ (l.left - 1) / 4) (a.width / 2 ^ (l.left - 1) / 4) l.scratch (omega (arith, (level c).inside)) ∙ l.invariant.4

pub loop-left-init : goal.loop-left-init
loop-left-init c =
    let a = c.args in
    let none : a.levels - a.levels ≡ 0 = omega arith in (
      omega arith,
      c.requires.mergeable.covered,
      rw none refl,
      c.requires.mergeable.plane_long,
      c.requires.scratch_len,
      rw none (reach_none c.requires.mergeable),
      c.requires.mergeable.some,
    )

pub overflow_shr-tall : goal.overflow_shr-tall
overflow_shr-tall c = omega (arith, c.requires.mergeable.most)

pub overflow_shr-wide : goal.overflow_shr-wide
overflow_shr-wide c = omega (arith, c.requires.mergeable.most)

pub overflow_mul-first : goal.overflow_mul-first
overflow_mul-first c = omega (arith, (level c).covered, c.well_formed)

pub overflow_sub-first : goal.overflow_sub-first
overflow_sub-first c = takes c

pub rise-requires : goal.rise-requires
rise-requires c =
    record { level = level (goal.at.rise-requires c).In-loop-left; scratch_len = omega (arith, c.loop-left.invariant.3, c.loop-left.invariant.4) }

pub overflow_mul-weight : goal.overflow_mul-weight
overflow_mul-weight c = omega (arith, (level (goal.at.overflow_mul-weight c).In-loop-left).weight)

pub loop-left-preserved : goal.loop-left-preserved
loop-left-preserved c =
    let i = (goal.at.loop-left-preserved c).In-loop-left in
    let l = c.loop-left in
    let a = c.args in
    let d = l.left - 1 in
    let tall = a.height / 2 ^ d in
    let wide = a.width / 2 ^ d in
    let e : a.levels - d ≡ suc (a.levels - l.left) = omega arith in (
      omega arith,
      (turn i).first_is,
      omega (arith, l.invariant.2, ap (λ (n : ℕ). 4 ^ n) e, pow-suc 4 (a.levels - l.left)),
      ap length c.rise.ensures.numerators_after ∙ length_rectangles (put_columns a.height (values i) (tall / 4) (wide / 4) l.scratch) a.height tall (level i).inside l.numerators wide ∙ l.invariant.3,
      ap length c.rise.ensures.scratch_after ∙ scratch_length i,
      subst⁻¹ (λ (x : List ℤ). Reached a.height a.width d (a.levels - d) a.coverings.now (image_of a.height a.numerators.now) (image_of a.height x)) c.rise.ensures.numerators_after
          (turn_reached c.requires.mergeable (turn i) l.numerators l.invariant.3 l.invariant.5 l.scratch l.invariant.4),
      omega arith,
    )

pub rise-requires-2 : goal.rise-requires-2
rise-requires-2 c =
    let last : (let l = c.loop-left in let a = c.args in Turn a.levels a.height a.width l.left a.height a.width 0 l.weight 0) = let l = c.loop-left in record { is = omega arith; within = l.invariant.0; tall_is = refl; wide_is = refl; first_is = refl; weight_is = l.invariant.2 } in
    let last_level : (let l = c.loop-left in let a = c.args in Level a.height a.height a.width l.weight 0 a.coverings.now l.numerators) = let l = c.loop-left in turn_level c.requires.mergeable last l.numerators l.invariant.3 l.invariant.5 in
    record { level = last_level; scratch_len = omega (arith, c.loop-left.invariant.3, c.loop-left.invariant.4) }

pub returns : goal.returns
returns c =
    let last : (let l = c.loop-left in let a = c.args in Turn a.levels a.height a.width l.left a.height a.width 0 l.weight 0) = let l = c.loop-left in record { is = omega arith; within = l.invariant.0; tall_is = refl; wide_is = refl; first_is = refl; weight_is = l.invariant.2 } in
    let last_level : (let l = c.loop-left in let a = c.args in Level a.height a.height a.width l.weight 0 a.coverings.now l.numerators) = let l = c.loop-left in turn_level c.requires.mergeable last l.numerators l.invariant.3 l.invariant.5 in
    let l = c.loop-left in
    let a = c.args in
    let values : ℕ → ℕ → List ℤ = merged_block a.height a.height a.width l.weight (after 0 (listed a.coverings.now)) l.numerators in
    let columns = put_columns a.height values (a.height / 4) (a.width / 4) l.scratch in
    let q : a.levels - 0 ≡ a.levels = omega arith in record {
      numerators_after = reach_all c.requires.mergeable _ (ap length c.rise-2.ensures.numerators_after ∙ length_rectangles columns a.height a.height last_level.inside l.numerators a.width ∙ l.invariant.3)
          (subst⁻¹ (λ (x : List ℤ). Reached a.height a.width 0 a.levels a.coverings.now (image_of a.height a.numerators.now) (image_of a.height x)) c.rise-2.ensures.numerators_after
          (subst (λ (k : ℕ). Reached a.height a.width 0 k a.coverings.now (image_of a.height a.numerators.now) (image_of a.height (rectangles a.height a.height a.width columns l.numerators))) q
          (turn_reached c.requires.mergeable last l.numerators l.invariant.3 l.invariant.5 l.scratch l.invariant.4)));
      scratch_after = c.clear.ensures
          ∙ ap (λ (n : ℕ). replicate n (pos 0)) (ap length c.rise-2.ensures.scratch_after ∙ columns_length a.height values (a.height / 4) (a.width / 4) l.scratch (omega (arith, last_level.inside)) ∙ l.invariant.4);
    }
