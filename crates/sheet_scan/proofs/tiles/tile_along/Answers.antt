-- `sheet_scan::tiles::tile_along` meets its contract: what was found so far, and what is left. Assumes nothing.
use mathlib.Core.Path.{◌≡◌, sym, ◌∙◌}
use mathlib.Core.Bool.{◌&&◌}
use native.Mathlib.Omega.{arith}
use lib.Dec.{eqb}
use Rattle.text.specs.Lines.{four, lines_at, RowRead}
use Rattle.text.proofs.Many.{FourLine, four_line, four_none, four_at_law, lines_stop, past_stop, past_next}
use Rattle.places.specs.Walk.{block_at, block_of, blocks_left}
use Rattle.places.proofs.Steps.{present, ended}
use Rattle.sheet_text.specs.Rows.{is_block}
use Rattle.sheet_scan.proofs.Scans.{covers_again, covers_short, covers_done, covers_left, numbers_again, numbers_done}
use Rattle.sheet_scan.proofs.Whole.{clash}
use Rattle.sheet_scan.proofs.tiles.tile_along.Goals as goal

pub returns-in_default : goal.returns-in_default
returns-in_default c =
    let s = c.args.s.now in
    let l = c.loop-k in
    let none = four_none s l.p (sym c.in_default.ensures) in
    let t = present block_at l.k c.loop-k-test.true l.invariant.0.row l.invariant.0.col in (
      past_stop four s l.p l.invariant.1 none ∙ l.invariant.2,
      covers_short l.ordered (block_of l.k) t.0 (blocks_left l.k) (lines_at four s l.p) t.1 (lines_stop four s l.p none) ∙ l.invariant.3,
      λ e. absurd (clash e),
    )

pub loop-k-preserved : goal.loop-k-preserved
loop-k-preserved c =
    let s = c.args.s.now in
    let l = c.loop-k in
    let f = c.in-Some.f in
    let rs = lines_at four s l.p in
    let rs' = lines_at four s f.next in
    let b = block_of l.k in
    -- the line was read, and where it ends
    let x : FourLine s l.p f = four_line s l.p f (sym c.in-Some.ensures) in
    let r : RowRead four s l.p f.next = four_at_law s l.p f (sym c.in-Some.ensures) in
    let matched : c.is_block-here.result ≡ is_block b x.cells = c.is_block-here.ensures ∙ (λ i. eqb (x.first i) b.level && (eqb (x.second i) b.row && eqb (x.third i) b.col)) in (
      c.step-k.ensures.inside,
      r.within,
      sym (past_next four s l.p f.next r.cells (omega arith) r.read) ∙ l.invariant.2,
      covers_again b (blocks_left c.step-k.result) (blocks_left l.k) x.cells rs' rs l.ordered c.is_block-here.result c.both-ordered.result c.step-k.ensures.blocks x.lines c.both-ordered.ensures matched ∙ l.invariant.3,
      numbers_again x.cells rs' rs f.fourth l.numbered c.is_number-good.result c.both-numbered.result x.lines x.fourth c.both-numbered.ensures c.is_number-good.ensures ∙ l.invariant.4,
    )

pub returns-in_default-read_four : goal.returns-in_default-read_four
returns-in_default-read_four c =
    let s = c.args.s.now in
    let l = c.loop-k in
    let rs = lines_at four s l.p in
    let none = four_none s l.p (sym c.in_default-read_four.ensures) in
    let z = lines_stop four s l.p none in
    let e = ended block_at l.k (omega (arith, c.loop-k-test.false)) in (
      past_stop four s l.p l.invariant.1 none ∙ l.invariant.2,
      covers_done l.ordered (blocks_left l.k) rs e z ∙ l.invariant.3,
      λ o. numbers_done l.numbered rs z ∙ l.invariant.4,
    )

pub returns : goal.returns
returns c =
    let s = c.args.s.now in
    let l = c.loop-k in
    let f = c.in-Some-read_four.g in
    let h = sym c.in-Some-read_four.ensures in
    let r = four_at_law s l.p f h in
    let x = four_line s l.p f h in
    let e = ended block_at l.k (omega (arith, c.loop-k-test.false)) in (
      c.pass_fours-past.ensures ∙ sym (past_next four s l.p f.next r.cells (omega arith) r.read) ∙ l.invariant.2,
      covers_left l.ordered (blocks_left l.k) x.cells (lines_at four s f.next) (lines_at four s l.p) e x.lines ∙ l.invariant.3,
      λ o. absurd (clash o),
    )
