-- `generator::fill` meets its contract. The loop's invariant: the state is that after so many steps, and the samples of those steps are stored. Assumes nothing.
use Rattle.std.proofs.Common.{length, refl, ◌∙◌, arith}
use Rattle.integers.proofs.Half.{half_end}
use Rattle.generator.specs.Generator.{samples_from}
use Rattle.generator.proofs.Samples.{long, at_start, one_more, stored}
use Rattle.generator.proofs.fill.Goals as goal

pub loop-x-init : goal.loop-x-init
loop-x-init c = (at_start _, refl)

pub loop-x-preserved : goal.loop-x-preserved
loop-x-preserved c =
    let l = c.loop-x in
    let a = c.args in
    let n = one_more l.x-index l.s a.start l.invariant.0 c.next-s.ensures in
    (n, stored a.start l.x-index a.samples.now (omega arith) l.invariant.1 n c.sample.ensures)

pub returns : goal.returns
returns c =
    let l = c.loop-x in
    let a = c.args in
    l.invariant.1 ∙ half_end (samples_from (length a.samples.now) a.start) a.samples.now l.x-index (long _ _) (omega arith)
