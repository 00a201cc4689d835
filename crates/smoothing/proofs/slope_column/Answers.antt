-- `smoothing::slope_column` meets its contract. Assumes nothing.
use mathlib.Core.Path.{◌≡◌, sym, ap, ◌∙◌}
use Prim.Native.Nat.{ℕ, ◌+◌, ◌*◌}
use native.Mathlib.Nat.{add-zero}
use native.Mathlib.Omega.{arith}
use mir.Syntax.{w64}
use mir.Val.{to_z, of_z}
use Rattle.integers.specs.Lists.{half}
use Rattle.integers.proofs.Bound.{sfits64, read}
use Rattle.pyramid.specs.Slices.{image_of}
use Rattle.variation.specs.Smooth.{gradient}
use Rattle.variation.proofs.Sizes.{gradient_abs}
use Rattle.smoothing.specs.Mixed.{gradient_of}
use Rattle.smoothing.proofs.Cells.{column_store}
use Rattle.smoothing.proofs.slope_column.Goals as goal

-- what is stored
stored : (c : goal.After-slope) → to_z w64 (of_z w64 c.slope.result) ≡ gradient c.args.height c.args.width (image_of c.args.height c.args.values.now) c.loop-row.row c.args.col
stored c =
    read w64 c.slope.ensures
    (sfits64 (gradient c.args.height c.args.width (image_of c.args.height c.args.values.now) c.loop-row.row c.args.col)
    (omega (arith, gradient_abs c.args.height c.args.width (image_of c.args.height c.args.values.now) c.loop-row.row c.args.col)))

pub loop-row-init : goal.loop-row-init
loop-row-init c = λ old n e. e ∙ ap (half (gradient_of c.args.height c.args.width c.args.values.now) old) (sym (add-zero (c.args.col * c.args.height)))

pub loop-row-preserved : goal.loop-row-preserved
loop-row-preserved c =
    λ old n e. column_store c.args.height c.args.width (gradient c.args.height c.args.width (image_of c.args.height c.args.values.now)) c.args.col c.loop-row.row c.requires.0 (omega arith) (stored c) old n (c.loop-row.invariant old n e)

pub returns : goal.returns
returns c =
    let q : c.loop-row.row ≡ c.args.height = omega arith in
    λ old n e. c.loop-row.invariant old n e ∙ ap (λ (k : ℕ). half (gradient_of c.args.height c.args.width c.args.values.now) old (c.args.col * c.args.height + k)) q
