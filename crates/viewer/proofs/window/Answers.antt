-- `viewer::window` meets its contract: its checks, then the work. Assumes nothing.
use Rattle.refusals.proofs.After.{passed_by}
use Rattle.strips.specs.Strip.{strip_of}
use Rattle.coder.proofs.Gates.{mergeable}
use Rattle.viewer.specs.Window.{view_of}
use Rattle.viewer.proofs.Gates.{Found, window_past, refuses}
use Rattle.viewer.proofs.Windows.{window_is}
use Rattle.viewer.proofs.window.Goals as goal

pub window_checks-requires : goal.window_checks-requires
window_checks-requires c = tt

pub fill_window-requires : goal.fill_window-requires
fill_window-requires c =
    let good : (Found (strip_of c.args.height c.args.width c.args.levels c.args.plane.now c.args.coverings.now) (view_of c.args.top c.args.left c.args.tall c.args.wide) c.args.samples.now) = window_past (strip_of c.args.height c.args.width c.args.levels c.args.plane.now c.args.coverings.now) (view_of c.args.top c.args.left c.args.tall c.args.wide) c.args.samples.now (passed_by c.in_ok-window_checks.was c.window_checks.ensures) in
    let f = good in record { restorable = mergeable _ f.passes; inside = (f.inside, f.exact) }

pub returns : goal.returns
returns c =
    let good : (Found (strip_of c.args.height c.args.width c.args.levels c.args.plane.now c.args.coverings.now) (view_of c.args.top c.args.left c.args.tall c.args.wide) c.args.samples.now) = window_past (strip_of c.args.height c.args.width c.args.levels c.args.plane.now c.args.coverings.now) (view_of c.args.top c.args.left c.args.tall c.args.wide) c.args.samples.now (passed_by c.in_ok-window_checks.was c.window_checks.ensures) in
    let w = c.fill_window.ensures in
    record { number = passed_by c.in_ok-window_checks.was c.window_checks.ensures; image = window_is (view_of c.args.top c.args.left c.args.tall c.args.wide) c.args.levels c.args.height c.args.width c.args.coverings.now c.args.plane.now _ good.inside w.0 w.1 }
