-- `cutter_text::samples::read_rows` meets its contract: what is left of the lines, stored after what was read, is all of them stored. Assumes nothing.
use mathlib.Core.Path.{◌≡◌, sym, ap, ◌∙◌}
use Prim.Native.Nat.{ℕ, ◌-◌}
use native.Mathlib.Omega.{arith}
use lib.ListN.{drop}
use Rattle.text.specs.Text.{times}
use Rattle.cutter_text.specs.Forms.{plains}
use Rattle.cutter_text.specs.Rows.{rows_of, passed}
use Rattle.cutter_text.proofs.Stores.{rows_again, rows_stop, rows_done}
use Rattle.cutter_text.proofs.samples.read_rows.Goals as goal

pub loop-y-init : goal.loop-y-init
loop-y-init c =
    let a = c.args in
    let z : a.height - 0 ≡ a.height = omega arith in
    (omega arith, c.requires.2, ap (λ (j : ℕ). rows_of a.height 0 a.samples.now (times j (plains a.width) (drop a.at a.s.now))) z)

pub read_row-requires : goal.read_row-requires
read_row-requires c = (c.loop-y-test.true, c.requires.0, c.requires.1, c.loop-y.invariant.1)

pub returns-in_err-p : goal.returns-in_err-p
returns-in_err-p c =
    let l = c.loop-y in
    let a = c.args in
    ap (λ o. passed o a.s.now c.read_row.new.samples) c.from_residual.ensures
    ∙ sym (rows_stop a.height a.width l.y l.samples a.s.now l.p c.loop-y-test.true c.in_err-p.ensures)
    ∙ l.invariant.2

pub loop-y-preserved : goal.loop-y-preserved
loop-y-preserved c =
    let l = c.loop-y in
    let a = c.args in
    let t = c.loop-y-test.true in (
      omega (arith, t),
      c.read_row.auto.samples ∙ l.invariant.1,
      rows_again a.height a.width l.y l.samples a.s.now l.p t c.read_row.new.samples c.in_ok-p.p c.in_ok-p.ensures
          ∙ l.invariant.2,
    )

pub returns : goal.returns
returns c =
    let a = c.args in
    let l = c.loop-y in
    sym (rows_done a.height a.width l.y l.samples a.s.now l.p (omega (arith, c.loop-y-test.false))) ∙ l.invariant.2
