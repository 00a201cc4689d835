-- `sheet_scan::front::seek_behind` meets its contract: no place that was passed is the line's. Assumes nothing.
use mathlib.Core.Path.{sym, ◌∙◌}
use native.Mathlib.Omega.{arith}
use Rattle.sheet_scan.proofs.Fronts.{skip_none, skip_level, skip_more}
use Rattle.sheet_scan.proofs.front.seek_behind.Goals as goal

pub returns-then-is_ahead : goal.returns-then-is_ahead
returns-then-is_ahead c =
    let a = c.args in
    let l = c.loop-k in
    record {
      skipped = skip_more a.height a.width a.f a.start c.next_level-k.result l.k
          (skip_level a.height a.width a.f a.start a.start c.next_level-k.result (skip_none a.height a.width a.f a.start c.requires.1) c.next_level-k.ensures c.requires.2) l.invariant;
      found = λ _. sym c.is_ahead.ensures ∙ c.if-is_ahead.true;
    }

pub loop-k-preserved : goal.loop-k-preserved
loop-k-preserved c =
    let a = c.args in
    let l = c.loop-k in
    skip_level a.height a.width a.f c.next_level-k.result l.k c.next_level-k-in-loop-k.result l.invariant c.next_level-k-in-loop-k.ensures (sym c.is_ahead.ensures ∙ c.if-is_ahead.false)

pub returns : goal.returns
returns c =
    let a = c.args in
    let l = c.loop-k in
    record {
      skipped = skip_more a.height a.width a.f a.start c.next_level-k.result l.k
          (skip_level a.height a.width a.f a.start a.start c.next_level-k.result (skip_none a.height a.width a.f a.start c.requires.1) c.next_level-k.ensures c.requires.2) l.invariant;
      found = λ p. absurd (omega (arith, p));
    }
