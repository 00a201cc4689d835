-- `given::level_by` meets its contract: the walk over the blocks by given coverings of analysis/proofs/Levelwise.antt. Assumes nothing.
use mathlib.Core.Path.{◌≡◌, refl, ap, ◌∙◌}
use Prim.Native.Nat.{ℕ, ◌+◌, ◌*◌, ◌/◌, ◌<◌}
use native.Mathlib.Omega.{arith}
use Rattle.integers.proofs.Index.{index_bound}
use Rattle.pyramid.specs.Plane.{blocks, after, listed}
use Rattle.analysis.proofs.Bandwise.{region_in}
use Rattle.analysis.proofs.Levelwise.{stood_start, stood_at, stood_next, stood_end}
use Rattle.given.proofs.level_by.Goals as goal
use Rattle.given.proofs.level_by.Goals.{In-loop-i}

-- the block is one of the level's
inside : (c : goal.In-loop-i) → c.loop-j.j * (c.args.tall / 4) + c.loop-i.i < blocks c.args.tall c.args.wide
inside c = index_bound c.loop-j.j c.loop-i.i (c.args.wide / 4) (c.args.tall / 4) (omega arith) (omega arith)

pub loop-j-init : goal.loop-j-init
loop-j-init c =
    let e : 0 ≡ 0 * (c.args.tall / 4) = omega arith in
    (refl, stood_at e (stood_start _ _ _ _ _ _))

pub loop-i-init : goal.loop-i-init
loop-i-init c =
    let inv = c.loop-j.invariant in
    let n = c.loop-j.j * (c.args.tall / 4) in
    let e : n ≡ n + 0 = omega arith in
    (inv.0, stood_at e inv.1)

pub bounds-coverings-first : goal.bounds-coverings-first
bounds-coverings-first c = omega (arith, inside (goal.at.bounds-coverings-first c).In-loop-i, c.requires.region.1)

pub block_by-requires : goal.block_by-requires
block_by-requires c =
    let k = c.loop-j.j * (c.args.tall / 4) + c.loop-i.i in
    record { number = c.requires.numbers k (inside (goal.at.block_by-requires c).In-loop-i); region = (region_in c.requires.region.0 c.loop-i.invariant.0, omega arith, omega arith, c.requires.region.2) }

pub loop-i-preserved : goal.loop-i-preserved
loop-i-preserved c =
    let inv = c.loop-i.invariant in
    let n = c.loop-j.j * (c.args.tall / 4) in
    let e : n + c.loop-i.i + 1 ≡ n + (c.loop-i.i + 1) = omega arith in (
      c.block_by.auto.out ∙ inv.0,
      stood_at e (stood_next c.requires.region.0 _ _ _ _ c.loop-i.i c.loop-j.j inv.1 refl (omega arith) (omega arith) (after c.args.first (listed c.args.coverings.now)) (λ m e. refl) (listed c.args.coverings.now (c.args.first + (n + c.loop-i.i))) refl _ inv.0 c.block_by.ensures),
    )

pub loop-j-preserved : goal.loop-j-preserved
loop-j-preserved c =
    let inv = c.loop-i.invariant in
    let i : c.loop-i.i ≡ c.args.tall / 4 = omega arith in
    let e : c.loop-j.j * (c.args.tall / 4) + c.loop-i.i ≡ (c.loop-j.j + 1) * (c.args.tall / 4) = omega arith in
    (inv.0, stood_at e inv.1)

pub returns : goal.returns
returns c =
    let j : c.loop-j.j ≡ c.args.wide / 4 = omega arith in
    stood_end c.requires.region.0 _ _ _ _ c.loop-j.invariant.1 (ap (λ (j : ℕ). j * (c.args.tall / 4)) j)
