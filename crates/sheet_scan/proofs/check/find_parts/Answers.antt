-- `sheet_scan::check::find_parts` meets its contract. Assumes nothing.
use mathlib.Core.Path.{◌≡◌, sym, ◌∙◌, subst}
use native.Mathlib.Omega.{arith}
use borrow.Author.Tests.{ne_eqb, eq-eqb}
use lib.Dec.{eqb}
use lib.ListN.{length}
use Rattle.text.specs.Text.{parse}
use Rattle.sheet_text.specs.Forms.{sheet_form}
use Rattle.sheet_text.specs.Sheet.{is_some}
use Rattle.text.specs.Lines.{three, four, five, RowRead}
use Rattle.text.proofs.Many.{three_line, SkipRead, RowsRead, skip_at_law, skip_none, three_at_law, three_none, rows_at}
use Rattle.sheet_text.proofs.Laws.{laws}
use Rattle.sheet_scan.specs.Parts.{FoundIn}
use Rattle.sheet_scan.proofs.Whole.{N1, N2, N3, no_1, no-2, no-3, no-4, at_end_law, laid}
use Rattle.sheet_scan.proofs.check.find_parts.Goals as goal

pub returns-in_err-p : goal.returns-in_err-p
returns-in_err-p c =
    let s = c.args.s.now in
    record { found_in = subst (FoundIn s) (sym c.from_residual.ensures) (sym (no_1 s (skip_none N1 s 0 (sym c.in_err-p.ensures)))); sheet_laws = laws }

pub returns-in_err-h : goal.returns-in_err-h
returns-in_err-h c =
    let s = c.args.s.now in
    let p = c.in_ok-p.p in
    let s1 : SkipRead N1 s 0 p = skip_at_law N1 s 0 p (sym c.in_ok-p.ensures) in
    record { found_in = subst (FoundIn s) (sym c.from_residual-in_err-h.ensures) (sym (no-2 s p s1 (three_none s p (sym c.in_err-h.ensures)))); sheet_laws = laws }

pub returns-in_err-t : goal.returns-in_err-t
returns-in_err-t c =
    let s = c.args.s.now in
    let p = c.in_ok-p.p in
    let s1 : SkipRead N1 s 0 p = skip_at_law N1 s 0 p (sym c.in_ok-p.ensures) in
    let f = c.in_ok-h.h in
    let s2 : RowRead three s p f.next = three_at_law s p f (sym c.in_ok-h.ensures) in
    record { found_in = subst (FoundIn s) (sym c.from_residual-in_err-t.ensures) (sym (no-3 s p s1 f.next s2 (skip_none N2 s f.next (sym c.in_err-t.ensures)))); sheet_laws = laws }

pub returns-in_err-v : goal.returns-in_err-v
returns-in_err-v c =
    let s = c.args.s.now in
    let p = c.in_ok-p.p in
    let s1 : SkipRead N1 s 0 p = skip_at_law N1 s 0 p (sym c.in_ok-p.ensures) in
    let f = c.in_ok-h.h in
    let s2 : RowRead three s p f.next = three_at_law s p f (sym c.in_ok-h.ensures) in
    let t = c.in_ok-t.t in
    let s3 : SkipRead N2 s f.next t = skip_at_law N2 s f.next t (sym c.in_ok-t.ensures) in
    let u = c.survey_blocks-u.result.past in
    let s4 : RowsRead four s t u = rows_at four s t u c.survey_blocks-u.ensures.past_value in
    record { found_in = subst (FoundIn s) (sym c.from_residual-in_err-v.ensures) (sym (no-4 s p s1 f.next s2 t u s3 s4 (skip_none N3 s u (sym c.in_err-v.ensures)))); sheet_laws = laws }

pub returns-then-w-s : goal.returns-then-w-s
returns-then-w-s c =
    let s = c.args.s.now in
    let p = c.in_ok-p.p in
    let s1 : SkipRead N1 s 0 p = skip_at_law N1 s 0 p (sym c.in_ok-p.ensures) in
    let f = c.in_ok-h.h in
    let s2 : RowRead three s p f.next = three_at_law s p f (sym c.in_ok-h.ensures) in
    let t = c.in_ok-t.t in
    let s3 : SkipRead N2 s f.next t = skip_at_law N2 s f.next t (sym c.in_ok-t.ensures) in
    let u = c.survey_blocks-u.result.past in
    let s4 : RowsRead four s t u = rows_at four s t u c.survey_blocks-u.ensures.past_value in
    let v = c.in_ok-v.v in
    let s5 : SkipRead N3 s u v = skip_at_law N3 s u v (sym c.in_ok-v.ensures) in
    let w = c.survey_entries-w.result.past in
    let s6 : RowsRead five s v w = rows_at five s v w c.survey_entries-w.ensures.past_value in
    let ends : eqb w (length s) ≡ is_some (parse sheet_form s) = at_end_law s p s1 f.next s2 t u s3 s4 v w s5 s6 in
    record { found_in = sym ends ∙ ne_eqb _ _ c.if-w-s.true; sheet_laws = laws }

pub returns : goal.returns
returns c =
    let s = c.args.s.now in
    let p = c.in_ok-p.p in
    let s1 : SkipRead N1 s 0 p = skip_at_law N1 s 0 p (sym c.in_ok-p.ensures) in
    let f = c.in_ok-h.h in
    let s2 : RowRead three s p f.next = three_at_law s p f (sym c.in_ok-h.ensures) in
    let t = c.in_ok-t.t in
    let s3 : SkipRead N2 s f.next t = skip_at_law N2 s f.next t (sym c.in_ok-t.ensures) in
    let u = c.survey_blocks-u.result.past in
    let s4 : RowsRead four s t u = rows_at four s t u c.survey_blocks-u.ensures.past_value in
    let v = c.in_ok-v.v in
    let s5 : SkipRead N3 s u v = skip_at_law N3 s u v (sym c.in_ok-v.ensures) in
    let w = c.survey_entries-w.result.past in
    let s6 : RowsRead five s v w = rows_at five s v w c.survey_entries-w.ensures.past_value in
    let ends : eqb w (length s) ≡ is_some (parse sheet_form s) = at_end_law s p s1 f.next s2 t u s3 s4 v w s5 s6 in
    let e = c.if-w-s.false in
    let y = three_line s p f (sym c.in_ok-h.ensures) in
    let a = c.survey_blocks-u.result in
    let b = c.survey_entries-w.result in
    record {
      found_in = laid s p t u v w f a.ordered a.numbered b.rising b.fitting s1 y s3 s4 s5 s6 (sym ends ∙ eq-eqb _ _ e) (omega (arith, e)) c.survey_blocks-u.ensures.tiled c.survey_entries-w.ensures.surveyed;
      sheet_laws = laws;
    }
