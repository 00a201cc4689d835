-- `kernel::transform::signed_sums` meets its contract: each sum is at most four times 2 ^ 40. Assumes nothing.
use mathlib.Core.List.{[], ◌∷◌}
use Prim.Native.Nat.{◌^◌}
use native.Mathlib.Omega.{arith}
use lib.IntN.{ℤ}
use mir.Syntax.{w64}
use mir.Val.{to_z, of_z}
use Rattle.integers.proofs.Ring.{v, ◌⊕◌, ◌⊖◌}
use Rattle.integers.proofs.Machine.{Vars, none, arg, fits!, reads! }
use Rattle.kernel.proofs.transform.signed_sums.Goals as goal

abbrev Four : ℤ → ℤ → ℤ → ℤ → Type 0
Four a b c d = Vars (to_z w64 (of_z w64 a) ∷ to_z w64 (of_z w64 b) ∷ to_z w64 (of_z w64 c) ∷ to_z w64 (of_z w64 d) ∷ []) (a ∷ b ∷ c ∷ d ∷ []) (2 ^ 40 ∷ 2 ^ 40 ∷ 2 ^ 40 ∷ 2 ^ 40 ∷ [])

vars : (c : goal.Start) → Four c.args.a c.args.b c.args.c c.args.d
vars c = arg c.ranges.a (omega arith) (arg c.ranges.b (omega arith) (arg c.ranges.c (omega arith) (arg c.ranges.d (omega arith) none)))

pub overflow_add-low : goal.overflow_add-low
overflow_add-low c = fits! w64 (v 0 ⊕ v 1) (vars c) tt

pub overflow_add-low-2 : goal.overflow_add-low-2
overflow_add-low-2 c = fits! w64 (v 0 ⊕ v 1 ⊕ v 2) (vars c) tt

pub overflow_add-low-3 : goal.overflow_add-low-3
overflow_add-low-3 c = fits! w64 (v 0 ⊕ v 1 ⊕ v 2 ⊕ v 3) (vars c) tt

pub overflow_add-w1 : goal.overflow_add-w1
overflow_add-w1 c = fits! w64 (v 0 ⊕ v 1) (vars c) tt

pub overflow_sub-w1 : goal.overflow_sub-w1
overflow_sub-w1 c = fits! w64 (v 0 ⊕ v 1 ⊖ v 2) (vars c) tt

pub overflow_sub-w1-2 : goal.overflow_sub-w1-2
overflow_sub-w1-2 c = fits! w64 (v 0 ⊕ v 1 ⊖ v 2 ⊖ v 3) (vars c) tt

pub overflow_sub-w2 : goal.overflow_sub-w2
overflow_sub-w2 c = fits! w64 (v 0 ⊖ v 1) (vars c) tt

pub overflow_add-w2 : goal.overflow_add-w2
overflow_add-w2 c = fits! w64 (v 0 ⊖ v 1 ⊕ v 2) (vars c) tt

pub overflow_sub-w2-2 : goal.overflow_sub-w2-2
overflow_sub-w2-2 c = fits! w64 (v 0 ⊖ v 1 ⊕ v 2 ⊖ v 3) (vars c) tt

pub overflow_sub-w3 : goal.overflow_sub-w3
overflow_sub-w3 c = fits! w64 (v 0 ⊖ v 1) (vars c) tt

pub overflow_sub-w3-2 : goal.overflow_sub-w3-2
overflow_sub-w3-2 c = fits! w64 (v 0 ⊖ v 1 ⊖ v 2) (vars c) tt

pub overflow_add-w3 : goal.overflow_add-w3
overflow_add-w3 c = fits! w64 (v 0 ⊖ v 1 ⊖ v 2 ⊕ v 3) (vars c) tt

pub returns : goal.returns
returns c = record {
  zeroth = reads! w64 (v 0 ⊕ v 1 ⊕ v 2 ⊕ v 3) (vars c) tt;
  first = reads! w64 (v 0 ⊕ v 1 ⊖ v 2 ⊖ v 3) (vars c) tt;
  second = reads! w64 (v 0 ⊖ v 1 ⊕ v 2 ⊖ v 3) (vars c) tt;
  third = reads! w64 (v 0 ⊖ v 1 ⊖ v 2 ⊕ v 3) (vars c) tt;
}
