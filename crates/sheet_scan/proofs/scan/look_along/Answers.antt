-- `sheet_scan::scan::look_along` meets its contract: what was found so far, and what is left. Assumes nothing.
use mathlib.Core.Path.{◌≡◌, sym, ap, ◌∙◌, subst}
use mathlib.Core.List.{◌∷◌, ◌++◌}
use Prim.Native.Nat.{◌<◌}
use native.Mathlib.Omega.{arith}
use Rattle.text.specs.Lines.{five, lines_at, fives_at, RowRead}
use Rattle.text.proofs.Many.{FiveLine, five_none, five_line, five_at_law, lines_stop, past_stop, past_next}
use Rattle.pyramid.specs.Ranges.{fits_range}
use Rattle.places.specs.Walk.{entry_of}
use Rattle.places.proofs.Sides.{passed}
use Rattle.integers.specs.Zero.{is_zero}
use Rattle.sheet_scan.specs.Front.{walk_to, Standing, places_left}
use Rattle.sheet_scan.proofs.Scans.{some_stop, some_left, some_skip, some_line, fit_stop, fit_done, fit_skip, fit_line}
use Rattle.sheet_scan.proofs.Fronts.{ended, Reached, reached, line_of, value_of, others_of}
use Rattle.sheet_scan.proofs.scan.look_along.Goals as goal

pub returns : goal.returns
returns c =
    let a = c.args in
    let l = c.loop-f in
    let s = a.s.now in
    let none = five_none s l.p (sym c.in_default.ensures) in
    let stop = lines_stop five s l.p none in
    let rs = lines_at five s l.p in (
      past_stop five s l.p l.invariant.2 none ∙ l.invariant.3,
      some_stop l.rising (places_left l.k) rs stop ∙ l.invariant.4,
      fit_stop a.levels l.fitting (places_left l.k) rs stop ∙ l.invariant.5,
    )

pub returns-then-k-eq0 : goal.returns-then-k-eq0
returns-then-k-eq0 c =
    let line : FiveLine c.args.s.now c.loop-f.p c.in-Some.f = five_line c.args.s.now c.loop-f.p c.in-Some.f (sym c.in-Some.ensures) in
    let read : RowRead five c.args.s.now c.loop-f.p c.in-Some.f.next = five_at_law c.args.s.now c.loop-f.p c.in-Some.f (sym c.in-Some.ensures) in
    let went : fives_at c.args.s.now c.in-Some.f.next ≡ fives_at c.args.s.now c.args.at =
    sym (past_next five c.args.s.now c.loop-f.p c.in-Some.f.next read.cells (omega arith) read.read) ∙ c.loop-f.invariant.3 in
    let a = c.args in
    let l = c.loop-f in
    let f = c.in-Some.f in
    let x = line in
    let q = c.seek-k.ensures.skipped in
    let K = places_left l.k in
    let K' = places_left c.seek-k.result in
    let e = ended c.seek-k.result (omega arith) in
    let rs = lines_at five a.s.now l.p in
    let rs' = lines_at five a.s.now f.next in
    let o = others_of a.s.now l.p f x rs' q.places q.others in (
      c.pass_fives-past.ensures ∙ went,
      some_left l.rising K' x.cells rs' rs e x.lines ∙ some_skip x.cells rs' l.rising q.places K K' rs o q.all x.lines ∙ l.invariant.4,
      fit_done a.levels l.fitting K' rs e ∙ fit_skip x.cells rs' a.levels l.fitting q.places K K' rs o q.all x.lines ∙ l.invariant.5,
    )

pub fits_range-fits-requires : goal.fits_range-fits-requires
fits_range-fits-requires c =
    let i = c.seek-k.ensures.skipped.standing in
    let q = passed c.args.height c.args.width c.args.levels c.requires.0 c.requires.1 in
    let e = ap (λ w. w.level) c.walk_to-here.ensures in
    (omega (arith, q.few), omega (arith, e, i.level), omega (arith, e, i.levels))

pub loop-f-smaller : goal.loop-f-smaller
loop-f-smaller c =
    let read : RowRead five c.args.s.now c.loop-f.p c.in-Some.f.next = five_at_law c.args.s.now c.loop-f.p c.in-Some.f (sym c.in-Some.ensures) in
    read.less

pub loop-f-preserved : goal.loop-f-preserved
loop-f-preserved c =
    let line : FiveLine c.args.s.now c.loop-f.p c.in-Some.f = five_line c.args.s.now c.loop-f.p c.in-Some.f (sym c.in-Some.ensures) in
    let read : RowRead five c.args.s.now c.loop-f.p c.in-Some.f.next = five_at_law c.args.s.now c.loop-f.p c.in-Some.f (sym c.in-Some.ensures) in
    let went : fives_at c.args.s.now c.in-Some.f.next ≡ fives_at c.args.s.now c.args.at =
    sym (past_next five c.args.s.now c.loop-f.p c.in-Some.f.next read.cells (omega arith) read.read) ∙ c.loop-f.invariant.3 in
    let a = c.args in
    let l = c.loop-f in
    let f = c.in-Some.f in
    let x = line in
    let k = c.seek-k.result in
    let g : 0 < k.left = omega (arith, c.if-k-eq0.false) in
    let w : Reached a.height a.width f l.k k = reached a.height a.width f l.k k c.seek-k.ensures g in
    let p = entry_of (walk_to k f) in
    let t = places_left c.past_line-k.result in
    let rs = lines_at five a.s.now l.p in
    let rs' = lines_at five a.s.now f.next in
    let o = others_of a.s.now l.p f x rs' w.places w.others in
    let e = w.all ∙ ap (λ z. w.places ++ (p ∷ places_left z)) (sym c.past_line-k.ensures) in
    let h = sym (line_of a.s.now l.p f x p) ∙ w.here in (
      subst (λ z. Standing a.height a.width z) (sym c.past_line-k.ensures) c.seek-k.ensures.skipped.standing,
      omega (arith, g, ap (λ z. z.left) c.past_line-k.ensures),
      read.within,
      went,
      some_line x.cells rs' l.rising c.is_zero-zero.result c.both-rising.result w.places (places_left l.k) t p rs o e x.lines h c.both-rising.ensures (c.is_zero-zero.ensures ∙ ap is_zero (value_of a.s.now l.p f x)) ∙ l.invariant.4,
      fit_line x.cells rs' a.levels l.fitting c.fits_range-fits.result c.both-fitting.result w.places (places_left l.k) t p rs o e x.lines h c.both-fitting.ensures
          (c.fits_range-fits.ensures ∙ (λ i. fits_range a.levels (entry_of (c.walk_to-here.ensures i)) (value_of a.s.now l.p f x i))) ∙ l.invariant.5,
    )
