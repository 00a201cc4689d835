-- `masters::all_whole` meets its contract. Assumes nothing.
use mathlib.Core.Path.{sym, ap}
use Prim.Native.Nat.{ℕ, ◌-◌, ◌/◌, ◌<◌}
use native.Mathlib.Omega.{arith}
use Rattle.integers.proofs.Tests.{is_true, is_false}
use Rattle.pyramid.specs.Plane.{halved}
use Rattle.pyramid.proofs.Behind.{halved_shift}
use Rattle.masters.specs.Cells.{WholeCell}
use Rattle.masters.proofs.Descent.{failed, passed, picture_of_law, in_picture, every_cell}
use borrow.Author.Count.{below_more}
use Rattle.masters.proofs.all_whole.Goals as goal

pub power-unit-requires : goal.power-unit-requires
power-unit-requires c = c.requires.most

pub overflow_sub-wide : goal.overflow_sub-wide
overflow_sub-wide c = omega (arith, c.requires.some)

pub overflow_shr-wide : goal.overflow_shr-wide
overflow_shr-wide c = omega (arith, c.requires.most)

pub loop-j-init : goal.loop-j-init
loop-j-init c = (omega arith, λ p l. absurd (omega arith))

pub column_whole-requires : goal.column_whole-requires
column_whole-requires c =
    let col : (let a = c.args in c.loop-j.j < halved (a.levels - 1) a.width / 4) = let a = c.args in omega (arith, c.loop-j-test.true, ap (λ (n : ℕ). n / 4) (halved_shift (a.levels - 1) a.width)) in
    record { restorable = c.requires; j_bound = (col, c.power-unit.ensures) }

pub returns-then-not-column_whole : goal.returns-then-not-column_whole
returns-then-not-column_whole c =
    let col : (let a = c.args in c.loop-j.j < halved (a.levels - 1) a.width / 4) = let a = c.args in omega (arith, c.loop-j-test.true, ap (λ (n : ℕ). n / 4) (halved_shift (a.levels - 1) a.width)) in
    let a = c.args in
    let e = every_cell a.levels a.height a.width a.coverings.now a.plane.now in
    sym (is_false _ (λ t. failed c.column_whole.result c.if-not-column_whole.true (c.column_whole.ensures.1 (in_picture a.levels a.height a.width c.requires.some c.requires.fits (WholeCell a.levels a.height a.width a.coverings.now a.plane.now) (e.0 t) c.loop-j.j col))))

pub loop-j-preserved : goal.loop-j-preserved
loop-j-preserved c =
    (omega (arith, c.loop-j-test.true), below_more _ _ c.loop-j.invariant.1 (c.column_whole.ensures.0 (passed c.column_whole.result c.if-not-column_whole.false)))

pub returns : goal.returns
returns c =
    let a = c.args in
    let e = every_cell a.levels a.height a.width a.coverings.now a.plane.now in
    sym (is_true _ (e.1 (picture_of_law a.levels a.height a.width c.requires.some c.requires.fits (WholeCell a.levels a.height a.width a.coverings.now a.plane.now)
    (λ j m. c.loop-j.invariant.1 j (omega (arith, c.loop-j-test.false, ap (λ (n : ℕ). n / 4) (halved_shift (a.levels - 1) a.width)))))))
