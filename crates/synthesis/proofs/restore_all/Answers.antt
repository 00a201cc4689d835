-- `synthesis::restore_all` meets its contract. Assumes nothing.
use mathlib.Core.Path.{◌≡◌, ap, ◌∙◌}
use mathlib.Core.List.{map}
use native.Mathlib.Omega.{arith}
use Rattle.pyramid.specs.Slices.{numerators_of, sample_of}
use Rattle.synthesis.proofs.Deeper.{by_largest, held_length, held_small}
use Rattle.synthesis.proofs.restore_all.Goals as goal

pub copy-requires : goal.copy-requires
copy-requires c = omega (arith, c.requires.restorable.plane_long, c.requires.numerators_len.0)

pub synthesise-requires : goal.synthesise-requires
synthesise-requires c =
    record { mergeable = rw c.copy.ensures (by_largest c.requires.restorable); scratch_len = c.requires.numerators_len.2 }

pub round-requires : goal.round-requires
round-requires c =
    let e : c.synthesise.new.numerators ≡ numerators_of c.args.levels c.args.height c.args.width c.args.coverings.now c.args.plane.now = c.synthesise.ensures.numerators_after ∙ ap (numerators_of c.args.levels c.args.height c.args.width c.args.coverings.now) c.copy.ensures in
    record { levels_bound = (c.requires.restorable.most, omega (arith, held_length c.requires.restorable e, c.requires.numerators_len.1)); by_index = held_small c.requires.restorable e }

pub returns : goal.returns
returns c =
    let e : c.synthesise.new.numerators ≡ numerators_of c.args.levels c.args.height c.args.width c.args.coverings.now c.args.plane.now = c.synthesise.ensures.numerators_after ∙ ap (numerators_of c.args.levels c.args.height c.args.width c.args.coverings.now) c.copy.ensures in
    record { numerators_after = e; samples_after = c.round.ensures ∙ ap (map (sample_of c.args.levels)) e; scratch_after = c.synthesise.ensures.scratch_after }
