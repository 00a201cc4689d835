-- `smoothing::smooth_all` meets its contract: each call leaves what the step has next. Assumes nothing.
use mathlib.Core.Path.{ap, ◌∙◌}
use lib.ListN.{length}
use Rattle.pyramid.specs.Slices.{numerators_of}
use Rattle.pyramid.proofs.Slices.{slice_length}
use Rattle.synthesis.proofs.Deeper.{by_largest}
use Rattle.smoothing.proofs.Steps.{first_modest, second_small, plane_small, third_mergeable, sloped_is, decomposed_is, mixed_is, last_is}
use Rattle.smoothing.proofs.smooth_all.Goals as goal

pub synthesise-requires : goal.synthesise-requires
synthesise-requires c =
    record { mergeable = rw c.copy.ensures (by_largest c.requires.restorable.0); scratch_len = c.requires.res_len.1 }

pub slopes-requires : goal.slopes-requires
slopes-requires c =
    let merged = c.synthesise.ensures.numerators_after ∙ ap (numerators_of c.args.levels c.args.height c.args.width c.args.coverings.now) c.copy.ensures in
    let r = c.requires.restorable.0 in
    (r.height, r.width, ap length merged ∙ slice_length _ _ _, c.synthesise.auto.scratch ∙ c.requires.res_len.1)

pub decompose_by-requires : goal.decompose_by-requires
decompose_by-requires c =
    let merged = c.synthesise.ensures.numerators_after ∙ ap (numerators_of c.args.levels c.args.height c.args.width c.args.coverings.now) c.copy.ensures in
    let sloped = sloped_is c.requires.restorable.0 c.args.step c.copy.ensures c.synthesise.ensures.numerators_after c.slopes.ensures in
    let r = c.requires.restorable.0 in
    let e = sloped in record {
      fits = (r.fits, r.most, r.height, r.width);
      coverings_len = (r.covered, ap length e ∙ slice_length _ _ _, ap length merged ∙ slice_length _ _ _);
      numbers = (r.numbers, rw e (first_modest r c.args.step));
    }

pub mix-requires : goal.mix-requires
mix-requires c =
    let merged = c.synthesise.ensures.numerators_after ∙ ap (numerators_of c.args.levels c.args.height c.args.width c.args.coverings.now) c.copy.ensures in
    let sloped = sloped_is c.requires.restorable.0 c.args.step c.copy.ensures c.synthesise.ensures.numerators_after c.slopes.ensures in
    let decomposed = decomposed_is c.requires.restorable.0 c.args.step sloped c.decompose_by.ensures in
    let r = c.requires.restorable.0 in
    let e = decomposed in record {
      levels_bound = (r.most, r.height, r.width, c.requires.restorable.2);
      plane_len = (r.plane_long, ap length e ∙ slice_length _ _ _, c.decompose_by.auto.work ∙ ap length merged ∙ slice_length _ _ _);
      by_index = (plane_small r c.args.step, rw e (second_small r c.args.step));
    }

pub synthesise-requires-2 : goal.synthesise-requires-2
synthesise-requires-2 c =
    let merged = c.synthesise.ensures.numerators_after ∙ ap (numerators_of c.args.levels c.args.height c.args.width c.args.coverings.now) c.copy.ensures in
    let sloped = sloped_is c.requires.restorable.0 c.args.step c.copy.ensures c.synthesise.ensures.numerators_after c.slopes.ensures in
    let decomposed = decomposed_is c.requires.restorable.0 c.args.step sloped c.decompose_by.ensures in
    let mixed = mixed_is c.requires.restorable.0 c.args.step decomposed c.mix.ensures in
    record { mergeable = rw mixed (by_largest (third_mergeable c.requires.restorable.0 c.args.step c.requires.restorable.2)); scratch_len = ap length decomposed ∙ slice_length _ _ _ }

pub shape_of-res : goal.shape_of-res
shape_of-res c =
    c.synthesise-2.auto.numerators
    ∙ c.mix.auto.out
    ∙ c.decompose_by.auto.work
    ∙ c.synthesise.auto.numerators
    ∙ c.copy.auto.to

pub returns : goal.returns
returns c =
    let merged = c.synthesise.ensures.numerators_after ∙ ap (numerators_of c.args.levels c.args.height c.args.width c.args.coverings.now) c.copy.ensures in
    let sloped = sloped_is c.requires.restorable.0 c.args.step c.copy.ensures c.synthesise.ensures.numerators_after c.slopes.ensures in
    let decomposed = decomposed_is c.requires.restorable.0 c.args.step sloped c.decompose_by.ensures in
    let mixed = mixed_is c.requires.restorable.0 c.args.step decomposed c.mix.ensures in
    record { res_after = c.synthesise-2.ensures.numerators_after ∙ ap (numerators_of c.args.levels c.args.height c.args.width c.args.coverings.now) mixed ∙ last_is c.requires.restorable.0 c.args.step; scratch_after = c.synthesise-2.ensures.scratch_after }
