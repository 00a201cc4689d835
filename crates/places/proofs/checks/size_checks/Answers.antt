-- `places::checks::size_checks` meets its contract: each return by what the tests before it found. Assumes nothing.
use mathlib.Core.Path.{◌≡◌, sym, ◌∙◌}
use mathlib.Core.Bool.{true}
use Rattle.pyramid.specs.Sides.{is_sides}
use Rattle.places.proofs.Sides.{sides_small}
use Rattle.places.proofs.checks.size_checks.Goals as goal

sided : (c : goal.Else-not-are_sides) → let a = c.args in is_sides a.height a.width ≡ true
sided c = sym c.are_sides.ensures ∙ c.if-not-are_sides.false

pub returns-then-not-are_sides : goal.returns-then-not-are_sides
returns-then-not-are_sides c = λ rest. rw (← c.are_sides.ensures, c.if-not-are_sides.true)

pub is_depth-requires : goal.is_depth-requires
is_depth-requires c = sides_small _ _ (sided c)

pub returns-then-not-is_depth : goal.returns-then-not-is_depth
returns-then-not-is_depth c = λ rest. rw (sided c.before.before, ← c.is_depth.ensures, c.if-not-is_depth.true)

pub returns : goal.returns
returns c = λ rest. rw (sided c.before.before, ← c.is_depth.ensures, c.if-not-is_depth.false)
