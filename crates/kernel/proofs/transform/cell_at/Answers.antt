-- `kernel::transform::cell_at` meets its contract. Assumes nothing.
use mathlib.Core.Path.{◌≡◌, ap, ◌∙◌}
use mathlib.Core.List.{List}
use Prim.Native.Nat.{ℕ, ◌+◌, ◌*◌, ◌-◌, ◌<◌}
use native.Mathlib.Omega.{arith}
use lib.ListN.{get_or}
use Rattle.coverings.specs.Rule.{Number}
use Rattle.tables.specs.Tables.{cell_at, cell_table}
use Rattle.tables.proofs.Entries.{cell_entry, cell_below}
use Rattle.kernel.proofs.transform.cell_at.Goals as goal

is : (cells : List ℕ) (covering k : ℕ) → cells ≡ cell_table → Number covering → k < 16 → get_or cells ((covering - 1) * 16 + k) 0 ≡ cell_at covering k
is cells covering k e n l = ap (λ (t : List ℕ). get_or t ((covering - 1) * 16 + k) 0) e ∙ cell_entry covering k n l

pub overflow_cast-result : goal.overflow_cast-result
overflow_cast-result c = omega (arith, is c.cells.result.now c.args.covering c.args.k c.cells.ensures c.requires.0 c.requires.1, cell_below c.args.covering c.args.k)

pub returns : goal.returns
returns c = let e = is c.cells.result.now c.args.covering c.args.k c.cells.ensures c.requires.0 c.requires.1 in (e, omega (arith, e, cell_below c.args.covering c.args.k))
