-- `cutter_text::samples::read_row` meets its contract: what is left of the line, stored after what was read, is the whole line stored. Assumes nothing.
use mathlib.Core.Path.{◌≡◌, sym, ap, ◌∙◌}
use Prim.Native.Nat.{ℕ, ◌+◌, ◌*◌, ◌-◌, ◌<◌, ◌≤◌}
use native.Mathlib.Omega.{arith}
use native.Mathlib.Nat.{mul-le-mul}
use lib.ListN.{drop, length-set}
use Rattle.integers.proofs.Index.{index_bound}
use Rattle.text.specs.Text.{row}
use Rattle.cutter_text.specs.Forms.{plains}
use Rattle.cutter_text.specs.Rows.{row_of, passed}
use Rattle.cutter_text.proofs.Stores.{row_again, row_stop, row_done}
use Rattle.cutter_text.proofs.samples.read_row.Goals as goal

room : (height width y x : ℕ) → x < width → y < height → height ≤ 32 → width ≤ 32 → (x * height + y < width * height) × (width * height ≤ 1024)
room height width y x a b h w = (index_bound x y width height a b, mul-le-mul w h)

pub loop-x-init : goal.loop-x-init
loop-x-init c =
    let a = c.args in
    let z : a.width - 0 ≡ a.width = omega arith in
    (omega arith, c.requires.3, ap (λ (j : ℕ). row_of a.height a.y 0 a.samples.now (row (plains j) (drop a.at a.s.now))) z)

pub returns-in_err-v : goal.returns-in_err-v
returns-in_err-v c =
    let a = c.args in
    let l = c.loop-x in
    ap (λ o. passed o a.s.now l.samples) c.from_residual.ensures
    ∙ sym (row_stop a.height a.width a.y l.x l.samples a.s.now l.p c.loop-x-test.true c.end_of.result c.end_of.ensures (sym c.in_err-v.ensures))
    ∙ l.invariant.2

pub overflow_mul-samples : goal.overflow_mul-samples
overflow_mul-samples c =
    let a = c.args in
    let r = room a.height a.width a.y c.loop-x.x c.loop-x-test.true c.requires.0 c.requires.1 c.requires.2 in
    omega (arith, r.0, r.1)

pub overflow_add-samples : goal.overflow_add-samples
overflow_add-samples c =
    let a = c.args in
    let r = room a.height a.width a.y c.loop-x.x c.loop-x-test.true c.requires.0 c.requires.1 c.requires.2 in
    omega (arith, r.0, r.1)

pub offset_bounds-samples-x : goal.offset_bounds-samples-x
offset_bounds-samples-x c =
    let a = c.args in
    let r = room a.height a.width a.y c.loop-x.x c.loop-x-test.true c.requires.0 c.requires.1 c.requires.2 in
    omega (arith, r.0, r.1)

pub bounds-samples-x : goal.bounds-samples-x
bounds-samples-x c =
    let a = c.args in
    let r = room a.height a.width a.y c.loop-x.x c.loop-x-test.true c.requires.0 c.requires.1 c.requires.2 in
    omega (arith, r.0, c.loop-x.invariant.1)

pub loop-x-preserved : goal.loop-x-preserved
loop-x-preserved c =
    let a = c.args in
    let l = c.loop-x in
    let t = c.loop-x-test.true in (
      omega (arith, t),
      length-set l.samples (l.x * a.height + a.y) c.hold.result ∙ l.invariant.1,
      row_again a.height a.width a.y l.x l.samples a.s.now l.p t c.end_of.result c.in_ok-v.v c.in_ok-v.next c.hold.result c.end_of.ensures (sym c.in_ok-v.ensures) c.hold.ensures
          ∙ l.invariant.2,
    )

pub returns : goal.returns
returns c =
    let a = c.args in
    let l = c.loop-x in
    sym (row_done a.height a.width a.y l.x l.samples a.s.now l.p (omega (arith, c.loop-x-test.false))) ∙ l.invariant.2
