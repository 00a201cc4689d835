-- `cutter_text::samples::read_samples` meets its contract. Assumes nothing.
use mathlib.Core.Path.{◌≡◌, refl, sym, ap, ◌∙◌}
use native.Mathlib.Omega.{arith}
use lib.ListN.{drop, length-drop}
use Rattle.text.specs.Text.{got, times}
use Rattle.text.proofs.Many.{skip_at_law, skip_none}
use Rattle.cutter_text.specs.Forms.{plains}
use Rattle.cutter_text.specs.Rows.{passed, rows_of}
use Rattle.cutter_text.proofs.Wholes.{M, no_names, no_rows, goes_on, stored}
use Rattle.cutter_text.proofs.samples.read_samples.Goals as goal

pub returns-in_default : goal.returns-in_default
returns-in_default c = let a = c.args in (no_names a.height a.width (drop a.at a.s.now) (skip_none M a.s.now a.at (sym c.in_default.ensures)), refl)

pub returns-in_default-read_rows : goal.returns-in_default-read_rows
returns-in_default-read_rows c =
    let a = c.args in
    let names = skip_at_law M a.s.now a.at c.in-Some.p (sym c.in-Some.ensures) in
    (no_rows a.height a.width (drop a.at a.s.now) (drop c.in-Some.p a.s.now) names.read a.samples.now (ap (λ o. passed o a.s.now c.read_rows.new.samples) (sym c.in_default-read_rows.is) ∙ c.read_rows.ensures), refl)

pub returns-then-end-s : goal.returns-then-end-s
returns-then-end-s c =
    let a = c.args in
    let names = skip_at_law M a.s.now a.at c.in-Some.p (sym c.in-Some.ensures) in
    let e = c.in-Some-read_rows.end in
    let lines : got c.read_rows.new.samples (drop e a.s.now) ≡ rows_of a.height 0 a.samples.now (times a.height (plains a.width) (drop c.in-Some.p a.s.now)) =
    ap (λ o. passed o a.s.now c.read_rows.new.samples) (sym c.in-Some-read_rows.is) ∙ c.read_rows.ensures in (
      goes_on a.height a.width (drop a.at a.s.now) (drop c.in-Some.p a.s.now) names.read a.samples.now c.read_rows.new.samples (drop e a.s.now) lines
          (omega (arith, length-drop e a.s.now, c.if-end-s.true)),
      refl,
    )

pub returns : goal.returns
returns c =
    let a = c.args in
    let names = skip_at_law M a.s.now a.at c.in-Some.p (sym c.in-Some.ensures) in
    let e = c.in-Some-read_rows.end in
    let lines : got c.read_rows.new.samples (drop e a.s.now) ≡ rows_of a.height 0 a.samples.now (times a.height (plains a.width) (drop c.in-Some.p a.s.now)) =
    ap (λ o. passed o a.s.now c.read_rows.new.samples) (sym c.in-Some-read_rows.is) ∙ c.read_rows.ensures in
    stored a.height a.width (drop a.at a.s.now) (drop c.in-Some.p a.s.now) names.read a.samples.now c.read_rows.new.samples (drop e a.s.now) lines
    (omega (arith, length-drop e a.s.now, c.if-end-s.false)) c.requires.3
