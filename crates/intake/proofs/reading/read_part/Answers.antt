-- `intake::reading::read_part` meets its contract. Assumes nothing.
use mathlib.Core.Path.{subst⁻¹}
use native.Mathlib.Nat.{le_of_lt}
use Rattle.std.specs.Io.KnownBytes.{Consumes}
use Rattle.intake.proofs.Given.{came_in}
use Rattle.intake.proofs.reading.read_part.Goals as goal

pub returns-clause-given : goal.returns-clause-given
returns-clause-given g c = subst⁻¹ (Consumes _ _) (came_in _ _ _ _ _ (le_of_lt c.if-text-done.false) c.in-Ok.ensures.bound.0) c.in-Ok.ensures.bytes.0
