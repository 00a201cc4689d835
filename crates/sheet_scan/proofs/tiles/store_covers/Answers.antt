-- `sheet_scan::tiles::store_covers` meets its contract: the slice is as the lines say up to the present place. Assumes nothing.
use mathlib.Core.Path.{◌≡◌, sym, ap, ◌∙◌, subst}
use mathlib.Core.List.{List, ◌∷◌}
use Prim.Native.Nat.{ℕ, ◌+◌, ◌<◌}
use native.Mathlib.Omega.{arith}
use lib.ListN.{length-map, length-set, length, get_or, drop}
use Rattle.integers.proofs.Half.{half_store}
use Rattle.coverings.specs.Entry.{is_number}
use Rattle.text.specs.Lines.{four, lines_at, cell_at}
use Rattle.text.proofs.Many.{four_none, FourLine, four_line, lines_stop}
use Rattle.sheet_scan.specs.Scan.{covers_along}
use lib.Dec.{T, leb}
use lib.Seq.{drop-cons}
use native.Mathlib.Numerals.{add-one}
use Rattle.integers.proofs.Tests.{every_at, is_true, both_true}
use borrow.Author.Tests.{leb-true}
use Rattle.sheet_scan.proofs.tiles.store_covers.Goals as goal

split : (l : List ℕ) (i x : ℕ) (t : List ℕ) → i < length l → x ∷ t ≡ drop i l → (x ≡ get_or l i 0) × (t ≡ drop (i + 1) l)
split l i x t h e = let g : x ∷ t ≡ get_or l i 0 ∷ drop (i + 1) l = e ∙ drop-cons l i 0 h ∙ ap (λ (n : ℕ). get_or l i 0 ∷ drop n l) (sym (add-one i)) in (cc, cc)

pub returns-in_default : goal.returns-in_default
returns-in_default c =
    let a = c.args in
    let l = c.loop-covering in
    let z = ap length (lines_stop four a.s.now l.p (four_none a.s.now l.p (sym c.in_default.ensures))) in
    absurd (omega (arith, c.loop-covering-test.true, l.invariant.0, l.invariant.3))

pub overflow_cast-covering : goal.overflow_cast-covering
overflow_cast-covering c =
    let a = c.args in
    let l = c.loop-covering in
    let f = c.in-Some.f in
    let x : FourLine a.s.now l.p f = four_line a.s.now l.p f (sym c.in-Some.ensures) in
    let rs = lines_at four a.s.now a.at in
    let m = length-map rs (λ r. cell_at r 3) in
    let d = split (covers_along rs) l.covering-index (cell_at x.cells 3) _ (omega (arith, c.requires.at_len, c.loop-covering-test.true, l.invariant.3)) (sym (ap covers_along x.lines) ∙ l.invariant.1) in
    let t = every_at is_number (covers_along rs) 0 (subst T (sym c.requires.at_value) tt) l.covering-index (omega (arith, c.requires.at_len, c.loop-covering-test.true, l.invariant.3)) in
    let n = get_or (covers_along rs) l.covering-index 0 in
    let b = leb-true n 117 (both_true (leb 1 n) (leb n 117) (is_true (is_number n) t)).1 in
    omega (arith, b, x.fourth, d.0)

pub loop-covering-preserved : goal.loop-covering-preserved
loop-covering-preserved c =
    let a = c.args in
    let l = c.loop-covering in
    let f = c.in-Some.f in
    let x : FourLine a.s.now l.p f = four_line a.s.now l.p f (sym c.in-Some.ensures) in
    let rs = lines_at four a.s.now a.at in
    let m = length-map rs (λ r. cell_at r 3) in
    let d = split (covers_along rs) l.covering-index (cell_at x.cells 3) _ (omega (arith, c.requires.at_len, c.loop-covering-test.true, l.invariant.3)) (sym (ap covers_along x.lines) ∙ l.invariant.1) in
    let y = ap length x.lines in (
      omega (arith, y, l.invariant.0),
      d.1,
      half_store (covers_along rs) a.coverings.now l.covering-index 0 l.invariant.2 (x.fourth ∙ d.0) (omega (arith, m, c.requires.at_len)) (omega (arith, c.loop-covering-test.true, l.invariant.3)),
      length-set l.coverings l.covering-index f.fourth ∙ l.invariant.3,
    )
