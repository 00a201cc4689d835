-- `sifting::ranks::narrowed` meets its contract: `total` ranks are behind run j. Assumes nothing.
use mathlib.Core.Path.{ap, ◌∙◌, subst}
use mathlib.Core.Logic.{inr}
use Prim.Native.Nat.{ℕ, ◌+◌, ◌-◌, ◌*◌, ◌<◌}
use native.Mathlib.Omega.{arith}
use lib.Dec.{leb}
use lib.ListN.{get_or}
use Rattle.pyramid.specs.Slices.{image_of}
use Rattle.quota.specs.Quota.{ranks}
use Rattle.sifting.specs.Sifting.{from, in_run}
use Rattle.sifting.proofs.Runs.{zeros_512, run_width, more_is, run_before, one_run, run_inside}
use Rattle.sifting.proofs.Turns.{few_of}
use Rattle.sifting.proofs.ranks.narrowed.Goals as goal

pub count_runs-requires : goal.count_runs-requires
count_runs-requires c = record { ready = c.requires.ready; shift_bound = (c.requires.shift_bound.0, zeros_512) }

pub loop-j-init : goal.loop-j-init
loop-j-init c = let i = c.requires.inside in (omega arith, i.over, i.few, run_width c.requires.shift_bound.1 c.count_runs.ensures)

pub overflow_cast-more : goal.overflow_cast-more
overflow_cast-more c =
    let l = c.loop-j in
    omega (arith, l.invariant.3.counted (l.j - 1) (omega arith), few_of c.args.levels c.args.height c.args.width c.args.plane.now c.requires.ready (λ m. in_run c.args.at.base c.args.step (l.j - 1) (get_or (ranks c.args.levels c.args.height c.args.width (image_of c.args.height c.args.plane.now)) m 0)))

pub overflow_add-more : goal.overflow_add-more
overflow_add-more c =
    let l = c.loop-j in
    omega (arith, l.invariant.3.counted (l.j - 1) (omega arith), few_of c.args.levels c.args.height c.args.width c.args.plane.now c.requires.ready (λ m. in_run c.args.at.base c.args.step (l.j - 1) (get_or (ranks c.args.levels c.args.height c.args.width (image_of c.args.height c.args.plane.now)) m 0)), l.invariant.1, few_of c.args.levels c.args.height c.args.width c.args.plane.now c.requires.ready (λ m. leb (c.args.at.base + l.j * c.args.step) (get_or (ranks c.args.levels c.args.height c.args.width (image_of c.args.height c.args.plane.now)) m 0)))

pub overflow_mul-result : goal.overflow_mul-result
overflow_mul-result c = omega (arith, run_inside c.args.at.base c.args.step (c.loop-j.j - 1) (omega arith), c.requires.shift_bound.2)

pub overflow_add-result : goal.overflow_add-result
overflow_add-result c = omega (arith, run_inside c.args.at.base c.args.step (c.loop-j.j - 1) (omega arith), c.requires.shift_bound.2)

pub returns-then-quota-more : goal.returns-then-quota-more
returns-then-quota-more c =
    let l = c.loop-j in
    let q = ranks c.args.levels c.args.height c.args.width (image_of c.args.height c.args.plane.now) in
    let over = l.invariant.1 ∙ ap (from q) (run_before c.args.at.base c.args.step l.j (omega arith)) in
    let m = more_is q c.args.at.base c.args.step (l.j - 1) l.total _ over (l.invariant.3.counted (l.j - 1) (omega arith)) in
    record { inside_2 = record { over = over; few = l.invariant.2; least = inr (subst (λ (x : ℕ). c.args.quota < x) m c.if-quota-more.true) }; step_bound = run_inside c.args.at.base c.args.step (l.j - 1) (omega arith) }

pub loop-j-preserved : goal.loop-j-preserved
loop-j-preserved c =
    let l = c.loop-j in
    let q = ranks c.args.levels c.args.height c.args.width (image_of c.args.height c.args.plane.now) in
    (omega arith, more_is q c.args.at.base c.args.step (l.j - 1) l.total _ (l.invariant.1 ∙ ap (from q) (run_before c.args.at.base c.args.step l.j (omega arith))) (l.invariant.3.counted (l.j - 1) (omega arith)), c.if-quota-more.false, l.invariant.3)

pub returns : goal.returns
returns c =
    let l = c.loop-j in
    record { inside_2 = record { over = l.invariant.1 ∙ ap (from (ranks c.args.levels c.args.height c.args.width (image_of c.args.height c.args.plane.now))) (one_run c.args.at.base c.args.step l.j (omega arith)); few = l.invariant.2; least = c.requires.inside.least }; step_bound = omega arith }
