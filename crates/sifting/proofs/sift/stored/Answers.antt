-- `sifting::sift::stored` meets its contract. Assumes nothing.
use mathlib.Core.Path.{sym, ap, ◌∙◌}
use mathlib.Core.Bool.{Bool, cond}
use lib.IntN.{pos}
use mir.Facts.{to_z-of_z}
use Rattle.sifting.proofs.sift.stored.Goals as goal

pub returns-then-stays : goal.returns-then-stays
returns-then-stays c = to_z-of_z c.ranges.v ∙ sym (ap (λ (b : Bool). cond b c.args.v (pos 0)) c.if-stays.true)

pub returns : goal.returns
returns c = sym (ap (λ (b : Bool). cond b c.args.v (pos 0)) c.if-stays.false)
