-- `cutting::check_header` meets its contract: each end has what the checks before it found. Assumes nothing.
use mathlib.Core.Path.{◌≡◌, sym, ap, ◌∙◌, subst}
use Rattle.std.specs.Prelude.{Err}
use Rattle.std.proofs.lemmas.Result.{err_from_is_err_and}
use mathlib.Core.Bool.{true, false, ◌||◌}
use Prim.Native.Nat.{◌≤◌}
use native.Mathlib.Omega.{arith}
use lib.Dec.{ltb}
use lib.ListN.{length}
use Rattle.pyramid.specs.Sides.{is_sides}
use Rattle.cutting.specs.Cutter.{input_limit}
use Rattle.cutter_text.specs.Header.{Headed, HeaderIn}
use Rattle.cutting.proofs.Prints.{too_long, no_header, no_sides, too_large, no_depth, passes}
use Rattle.cutting.proofs.check_header.Goals as goal
use Rattle.cutting.proofs.check_header.Goals.{Else-s-gt65536, In_ok-h, Else-not-are_sides, Else-is_large}

short : (e : Else-s-gt65536) → length e.args.s.now ≤ input_limit
short e = omega (arith, e.if-s-gt65536.false)

head : (k : In_ok-h) → Headed k.args.s.now k.in_ok-h.h
head k = k.in_ok-h.ensures

sides : (e : Else-not-are_sides) → let h = e.in_ok-h.h in is_sides h.height h.width ≡ true
sides e = sym e.are_sides.ensures ∙ e.if-not-are_sides.false

small : (e : Else-is_large) → let h = e.in_ok-h.h in (ltb 32 h.height || ltb 32 h.width) ≡ false
small e = sym e.is_large.ensures ∙ e.if-is_large.false

pub returns-then-s-gt65536 : goal.returns-then-s-gt65536
returns-then-s-gt65536 c = too_long c.args.s.now c.if-s-gt65536.true

pub returns-in_err-h : goal.returns-in_err-h
returns-in_err-h c =
    let p = err_from_is_err_and c.from_residual.result c.from_residual.ensures.1 in
    no_header c.args.s.now (short (goal.at.returns-in_err-h c).Else-s-gt65536) c.from_residual.result c.in_err-h.field-0.0 (p.1 ∙ ap Err p.2) (subst (HeaderIn c.args.s.now) (sym (p.1 ∙ ap Err p.2)) c.in_err-h.ensures)

pub returns-then-not-are_sides : goal.returns-then-not-are_sides
returns-then-not-are_sides c =
    let k = goal.at.returns-then-not-are_sides c in
    no_sides c.args.s.now (short k.Else-s-gt65536) c.in_ok-h.h (head k.In_ok-h) (sym c.are_sides.ensures ∙ c.if-not-are_sides.true)

pub returns-then-is_large : goal.returns-then-is_large
returns-then-is_large c =
    let k = goal.at.returns-then-is_large c in
    too_large c.args.s.now (short k.Else-s-gt65536) c.in_ok-h.h (head k.In_ok-h) (sides k.Else-not-are_sides) (sym c.is_large.ensures ∙ c.if-is_large.true)

pub returns-then-not-is_depth : goal.returns-then-not-is_depth
returns-then-not-is_depth c =
    let k = goal.at.returns-then-not-is_depth c in
    no_depth c.args.s.now (short k.Else-s-gt65536) c.in_ok-h.h (head k.In_ok-h) (sides k.Else-not-are_sides) (small k.Else-is_large) (sym c.is_depth.ensures ∙ c.if-not-is_depth.true)

pub returns : goal.returns
returns c =
    let k = goal.at.returns c in
    passes c.args.s.now (short k.Else-s-gt65536) c.in_ok-h.h (head k.In_ok-h) (sides k.Else-not-are_sides) (small k.Else-is_large) (sym c.is_depth.ensures ∙ c.if-not-is_depth.false)
