-- `coder::within_checks` meets its contract: the checks of decompose, then the tolerance. Assumes nothing.
use mathlib.Core.Path.{◌≡◌, sym, ap, ◌∙◌}
use mathlib.Core.Bool.{Bool}
use Prim.Native.Nat.{ℕ}
use native.Mathlib.Omega.{arith}
use borrow.Author.Tests.{lt-ltb, le-ltb}
use lib.Dec.{ltb}
use Rattle.refusals.specs.Refusal.{refuse_if}
use Rattle.refusals.proofs.After.{front_still, front_passed}
use Rattle.coder.specs.Entries.{tolerance_refusal}
use Rattle.coder.proofs.within_checks.Goals as goal

pub decompose_checks-requires : goal.decompose_checks-requires
decompose_checks-requires c = tt

pub largest_tolerance-requires : goal.largest_tolerance-requires
largest_tolerance-requires c = tt

pub returns-then-largest_tolerance-tolerance : goal.returns-then-largest_tolerance-tolerance
returns-then-largest_tolerance-tolerance c =
    let passed : (rest : ℕ) → let a = c.args in
    tolerance_refusal a.height a.width a.levels a.tolerance a.samples.now a.plane.now a.coverings.now a.scratch.now rest ≡ refuse_if (ltb 4095 a.tolerance) 13 rest = λ rest. sym (front_passed _ c.in_ok-decompose_checks.was (c.decompose_checks.ensures _)) in
    λ rest. passed rest ∙ ap (λ (o : Bool). refuse_if o 13 rest) (lt-ltb 4095 c.args.tolerance (omega (arith, c.largest_tolerance.ensures.0, c.if-largest_tolerance-tolerance.true)))

pub returns : goal.returns
returns c =
    let passed : (rest : ℕ) → let a = c.args in
    tolerance_refusal a.height a.width a.levels a.tolerance a.samples.now a.plane.now a.coverings.now a.scratch.now rest ≡ refuse_if (ltb 4095 a.tolerance) 13 rest = λ rest. sym (front_passed _ c.in_ok-decompose_checks.was (c.decompose_checks.ensures _)) in
    λ rest. passed rest ∙ ap (λ (o : Bool). refuse_if o 13 rest) (le-ltb 4095 c.args.tolerance (omega (arith, c.largest_tolerance.ensures.0, c.if-largest_tolerance-tolerance.false)))
