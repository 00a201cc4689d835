-- `cutter_text::header::read_header` meets its contract. Assumes nothing.
use mathlib.Core.Path.{refl, sym}
use Rattle.text.proofs.Many.{skip_at_law, skip_none}
use Rattle.cutter_text.proofs.Heads.{N, no_names, no_line, headed}
use Rattle.cutter_text.proofs.header.read_header.Goals as goal

pub returns-in_default : goal.returns-in_default
returns-in_default c = let s = c.args.s.now in (no_names s (skip_none N s 0 (sym c.in_default.ensures)), refl)

pub returns-in_default-read_four : goal.returns-in_default-read_four
returns-in_default-read_four c =
    let s = c.args.s.now in
    let names = skip_at_law N s 0 c.in-Some.p (sym c.in-Some.ensures) in
    (no_line s c.in-Some.p names (sym c.in_default-read_four.ensures), refl)

pub returns : goal.returns
returns c =
    let s = c.args.s.now in
    let names = skip_at_law N s 0 c.in-Some.p (sym c.in-Some.ensures) in
    headed s c.in-Some.p names c.in-Some-read_four.line (sym c.in-Some-read_four.ensures)
