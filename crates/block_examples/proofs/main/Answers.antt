-- `block_examples::main` is safe and ends. Assumes nothing.
use mathlib.Core.List.{List, [], ◌∷◌, ◌++◌}
use Prim.Native.Nat.{◌^◌}
use native.Mathlib.Omega.{arith}
use lib.Dec.{T}
use lib.IntN.{ℤ, pos, negsuc}
use lib.ListN.{replicate}
use Rattle.terms.specs.Terms.{is_list}
use Rattle.counts.specs.Counts.{counts_of}
use Rattle.kernel.proofs.Kernel.{within_test}
use Rattle.block_examples.proofs.main.Goals as goal

abbrev rows : List ℤ
rows = pos 0 ∷ pos 10 ∷ pos 20 ∷ pos 30 ∷ []

abbrev equal : List ℤ
equal = negsuc 6 ∷ negsuc 8 ∷ pos 1 ∷ pos 4 ∷ negsuc 6 ∷ pos 3 ∷ pos 6 ∷ negsuc 7 ∷ negsuc 5 ∷ negsuc 5 ∷ negsuc 1 ∷ negsuc 5 ∷ negsuc 4 ∷ pos 0 ∷ pos 5 ∷ negsuc 4 ∷ []

two_good : T (is_list (2 ∷ 3 ∷ []))
unfolding is_list
two_good = tt

pub run-requires : goal.run-requires
run-requires c = (within_test (2 ^ 38) (replicate 16 (pos 7)) tt, omega arith)

pub run-requires-2 : goal.run-requires-2
run-requires-2 c = (within_test (2 ^ 38) (rows ++ rows ++ rows ++ rows) tt, omega arith)

pub run-requires-3 : goal.run-requires-3
run-requires-3 c = (within_test (2 ^ 38) (pos 1 ∷ replicate 15 (pos 0)) tt, omega arith)

pub run-requires-4 : goal.run-requires-4
run-requires-4 c = (within_test (2 ^ 38) (pos 0 ∷ pos 1 ∷ replicate 14 (pos 0)) tt, omega arith)

pub run-requires-5 : goal.run-requires-5
run-requires-5 c = (within_test (2 ^ 38) equal tt, omega arith)

pub chosen-requires : goal.chosen-requires
unfolding counts_of
chosen-requires c = ((omega arith, omega arith), rw c.new-none.ensures (omega arith))

pub run-requires-6 : goal.run-requires-6
run-requires-6 c = (within_test (2 ^ 38) equal tt, omega arith)

pub run-requires-7 : goal.run-requires-7
run-requires-7 c = (within_test (2 ^ 38) (rows ++ rows ++ rows ++ rows) tt, omega arith)

pub run-requires-8 : goal.run-requires-8
run-requires-8 c = (within_test (2 ^ 38) (rows ++ rows ++ rows ++ rows) tt, omega arith)

pub run_listed-requires : goal.run_listed-requires
run_listed-requires c = (within_test (2 ^ 38) (rows ++ rows ++ rows ++ rows) tt, omega arith, two_good)

pub run_listed-requires-2 : goal.run_listed-requires-2
run_listed-requires-2 c = (within_test (2 ^ 38) (rows ++ rows ++ rows ++ rows) tt, omega arith, two_good)
