-- `generator::image_checks` meets its contract: each return by what the tests before it found. Assumes nothing.
use Rattle.std.proofs.Common.{sym, ◌∙◌, mul-le-mul, arith, eq-eqb, ne_eqb}
use Rattle.places.proofs.Sides.{sides_small}
use Rattle.generator.proofs.image_checks.Goals as goal

pub are_sides-requires : goal.are_sides-requires
are_sides-requires c = tt

pub returns-then-not-are_sides : goal.returns-then-not-are_sides
returns-then-not-are_sides c = rw (← c.are_sides.ensures, c.if-not-are_sides.true)

pub overflow_mul-width : goal.overflow_mul-width
overflow_mul-width c =
    let l = sides_small c.args.height c.args.width (sym c.are_sides.ensures ∙ c.if-not-are_sides.false) in
    omega (arith, mul-le-mul l.1 l.0)

pub returns-then-samples-width : goal.returns-then-samples-width
returns-then-samples-width c = simp (← c.are_sides.ensures, c.if-not-are_sides.false, ne_eqb _ _ c.if-samples-width.true)

pub returns : goal.returns
returns c = simp (← c.are_sides.ensures, c.if-not-are_sides.false, eq-eqb _ _ c.if-samples-width.false)
