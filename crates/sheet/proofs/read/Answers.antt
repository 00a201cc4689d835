-- `sheet::read` meets its contract: its checks, then the work. Assumes nothing.
use mathlib.Core.Path.{◌≡◌, sym, ◌∙◌, subst}
use Rattle.std.proofs.Common.{rules}
use Rattle.refusals.proofs.After.{passed_by}
use Rattle.sheet_scan.specs.Parts.{LaidOut, FoundIn}
use Rattle.sheet.specs.Laid.{laid_refusal}
use Rattle.sheet.proofs.Readings.{unread, judged, counted, was_read}
use Rattle.sheet.proofs.read.Goals as goal

pub returns-in_err-read_checks : goal.returns-in_err-read_checks
returns-in_err-read_checks c =
    let a = c.args in
    let l = c.in-Some.l in
    let laid : LaidOut a.text.now l = subst (λ r. FoundIn a.text.now r) c.in-Some.is c.find_parts.ensures.found_in in
    let z = unread a.text.now a.plane.now a.coverings.now c.in_err-read_checks.field-0.0 (c.in_err-read_checks.ensures ∙ sym (judged a.text.now l laid a.plane.now a.coverings.now)) in
    search rules

pub store_covers-requires-clause-at_len : goal.store_covers-requires-clause-at_len
store_covers-requires-clause-at_len c =
    let a = c.args in
    let l = c.in-Some.l in
    let laid : LaidOut a.text.now l = subst (λ r. FoundIn a.text.now r) c.in-Some.is c.find_parts.ensures.found_in in
    let accepted : 0 ≡ laid_refusal l a.plane.now a.coverings.now = passed_by c.in_ok-read_checks.was c.read_checks.ensures in
    counted a.text.now l laid a.plane.now a.coverings.now accepted

pub returns : goal.returns
returns c =
    let a = c.args in
    let l = c.in-Some.l in
    let laid : LaidOut a.text.now l = subst (λ r. FoundIn a.text.now r) c.in-Some.is c.find_parts.ensures.found_in in
    let accepted : 0 ≡ laid_refusal l a.plane.now a.coverings.now = passed_by c.in_ok-read_checks.was c.read_checks.ensures in
    was_read a.text.now l laid a.plane.now a.coverings.now accepted c.store_values.new.plane c.store_covers.new.coverings c.store_values.ensures c.store_covers.ensures
