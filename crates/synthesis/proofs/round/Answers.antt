-- `synthesis::round` meets its contract. Assumes nothing.
use mathlib.Core.Path.{◌≡◌, refl, sym, ap, ◌∙◌}
use mathlib.Core.List.{map}
use native.Mathlib.Omega.{arith}
use lib.IntN.{pos}
use lib.ListN.{get_or, length-set, length-map, get_or-map}
use mir.Syntax.{w64}
use mir.Val.{to_z, of_z}
use Rattle.integers.proofs.Half.{half_store, half_end}
use Rattle.integers.proofs.Signs.{kept}
use Rattle.pyramid.specs.Slices.{sample_of}
use Rattle.synthesis.proofs.round.Goals as goal

pub loop-i-init : goal.loop-i-init
loop-i-init c = (c.power-unit.ensures, refl, refl)

pub sample-requires : goal.sample-requires
sample-requires c =
    let i = c.loop-i.i in
    (rw (kept c.sample-arg-1.given) (c.requires.by_index i (omega (arith, c.requires.levels_bound))), c.requires.levels_bound.0, omega (arith, c.loop-i.invariant.0))

pub offset_bounds-samples-i : goal.offset_bounds-samples-i
offset_bounds-samples-i c = omega (arith, c.well_formed)

pub loop-i-preserved : goal.loop-i-preserved
loop-i-preserved c =
    let f = sample_of c.args.levels in
    let n = c.args.numerators.now in
    let same : to_z w64 (of_z w64 (get_or n c.loop-i.i (pos 0))) ≡ get_or n c.loop-i.i (pos 0) = kept c.sample-arg-1.given in
    let value : c.sample.result ≡ f (get_or n c.loop-i.i (pos 0)) =
    c.sample.ensures ∙ ap f same in (
      c.loop-i.invariant.0,
      simp length-set (omega arith),
      half_store (map f n) _ c.loop-i.i (f (pos 0)) c.loop-i.invariant.2 (value ∙ sym (get_or-map f n c.loop-i.i (pos 0))) (length-map n f ∙ sym c.requires.levels_bound.1) (omega arith),
    )

pub shape_of-samples : goal.shape_of-samples
shape_of-samples c = c.loop-i.invariant.1

pub returns : goal.returns
returns c =
    c.loop-i.invariant.2 ∙ half_end (map (sample_of c.args.levels) c.args.numerators.now) _ c.loop-i.i (length-map c.args.numerators.now (sample_of c.args.levels) ∙ sym c.requires.levels_bound.1) (omega arith)
