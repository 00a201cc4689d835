-- `mastering::restore_master` meets its contract: its checks, then the work. Assumes nothing.
use mathlib.Core.Path.{◌≡◌, ◌∙◌}
use Rattle.std.proofs.Common.{rules}
use Rattle.refusals.proofs.After.{passed_by}
use Rattle.pyramid.specs.Slices.{numerators_of}
use Rattle.strips.specs.Strip.{Strip, strip_of}
use Rattle.masters.proofs.Numerators.{all_lenient}
use Rattle.coder.proofs.Gates.{mergeable}
use Rattle.mastering.specs.Entry.{master_refusal}
use Rattle.mastering.proofs.Gates.{Found, master_past, refuses}
use Rattle.mastering.proofs.Together.{laws}
use Rattle.mastering.proofs.restore_master.Goals as goal

pub returns-in_err-master_checks : goal.returns-in_err-master_checks
returns-in_err-master_checks c =
    let a = c.args in
    (let z = refuses (strip_of a.height a.width a.levels a.plane.now a.coverings.now) a.numerators.now a.samples.now a.scratch.now c.in_err-master_checks.field-0.0 c.in_err-master_checks.ensures in search rules, laws)

pub restore_all-requires : goal.restore_all-requires
restore_all-requires c =
    let passed : (0 ≡ master_refusal (strip_of c.args.height c.args.width c.args.levels c.args.plane.now c.args.coverings.now) c.args.numerators.now c.args.samples.now c.args.scratch.now) = passed_by c.in_ok-master_checks.was c.master_checks.ensures in
    let found : (Found (strip_of c.args.height c.args.width c.args.levels c.args.plane.now c.args.coverings.now) c.args.numerators.now c.args.samples.now c.args.scratch.now) = master_past _ _ _ _ passed in
    let f = found in record { restorable = mergeable _ f.passes; numerators_len = (f.exact.numerators_long, f.exact.samples_long, f.exact.scratch_long) }

pub returns : goal.returns
returns c =
    let passed : (0 ≡ master_refusal (strip_of c.args.height c.args.width c.args.levels c.args.plane.now c.args.coverings.now) c.args.numerators.now c.args.samples.now c.args.scratch.now) = passed_by c.in_ok-master_checks.was c.master_checks.ensures in
    let found : (Found (strip_of c.args.height c.args.width c.args.levels c.args.plane.now c.args.coverings.now) c.args.numerators.now c.args.samples.now c.args.scratch.now) = master_past _ _ _ _ passed in
    let a = c.args in
    (record { number = passed; values = c.restore_all.ensures.numerators_after; image = c.restore_all.ensures.samples_after ∙ all_lenient a.levels (numerators_of a.levels a.height a.width a.coverings.now a.plane.now) found.wholly; zeros = c.restore_all.ensures.scratch_after }, laws)
