-- `smoothing::smooth` meets its contract: its checks, then the work. Assumes nothing.
use Rattle.refusals.proofs.After.{passed_by}
use Rattle.strips.specs.Strip.{strip_of}
use Rattle.coder.proofs.Gates.{mergeable}
use Rattle.smoothing.proofs.Gates.{Found, smooth_past, refuses}
use Rattle.smoothing.proofs.smooth.Goals as goal

pub smooth_checks-requires : goal.smooth_checks-requires
smooth_checks-requires c = tt

pub smooth_all-requires : goal.smooth_all-requires
smooth_all-requires c =
    let good : (Found (strip_of c.args.height c.args.width c.args.levels c.args.plane.now c.args.coverings.now) c.args.step c.args.res.now c.args.scratch.now) = smooth_past (strip_of c.args.height c.args.width c.args.levels c.args.plane.now c.args.coverings.now) c.args.step c.args.res.now c.args.scratch.now (passed_by c.in_ok-smooth_checks.was c.smooth_checks.ensures) in
    let f = good in record { restorable = (mergeable _ f.passes, f.some, f.small); res_len = (f.result-long, f.scratch_long) }

pub returns : goal.returns
returns c =
    record { number = passed_by c.in_ok-smooth_checks.was c.smooth_checks.ensures; values = c.smooth_all.ensures.res_after; zeros = c.smooth_all.ensures.scratch_after }
