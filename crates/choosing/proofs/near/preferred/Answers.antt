-- `choosing::near::preferred` meets its contract. Assumes nothing.
use mathlib.Core.Path.{refl}
use borrow.Author.Tests.{lt-ltb, le-ltb}
use Rattle.choosing.proofs.near.preferred.Goals as goal

pub returns-then-old-new : goal.returns-then-old-new
returns-then-old-new c = rw (lt-ltb _ _ c.if-old-new.true) refl

pub returns : goal.returns
returns c = rw (le-ltb _ _ c.if-old-new.false) refl
