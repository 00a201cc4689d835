-- `analysis::forward_level` meets its contract: the walk over the blocks of proofs/Levelwise.antt. Assumes nothing.
use mathlib.Core.Path.{◌≡◌, refl, ap, ◌∙◌}
use Prim.Native.Nat.{ℕ, ◌+◌, ◌*◌, ◌/◌, ◌<◌}
use native.Mathlib.Omega.{arith}
use lib.ListN.{length-set}
use Rattle.terms.specs.Terms.{among, pick_terms}
use Rattle.pyramid.specs.Plane.{blocks}
use Rattle.integers.proofs.Index.{index_bound}
use Rattle.analysis.proofs.Bandwise.{region_in, blocks_few}
use Rattle.analysis.proofs.Levelwise.{walk_start, counts_small, walk_at, walk_next, walk_end}
use Rattle.analysis.proofs.forward_level.Goals as goal
use Rattle.analysis.proofs.forward_level.Goals.{In-loop-i}

-- the block is one of the level's
inside : (c : goal.In-loop-i) → c.loop-j.j * (c.args.tall / 4) + c.loop-i.i < blocks c.args.tall c.args.wide
inside c = index_bound c.loop-j.j c.loop-i.i (c.args.wide / 4) (c.args.tall / 4) (omega arith) (omega arith)

pub loop-j-init : goal.loop-j-init
loop-j-init c =
    let e : 0 ≡ 0 * (c.args.tall / 4) = omega arith in
    (refl, refl, walk_at e (walk_start (pick_terms (among c.args.slack c.args.list.now)) _ _ _ _ _ _ _ _ c.requires.4))

pub loop-i-init : goal.loop-i-init
loop-i-init c =
    let inv = c.loop-j.invariant in
    let n = c.loop-j.j * (c.args.tall / 4) in
    let e : n ≡ n + 0 = omega arith in
    (inv.0, inv.1, walk_at e inv.2)

pub forward_block-covering-requires : goal.forward_block-covering-requires
forward_block-covering-requires c =
    (region_in c.requires.0 c.loop-i.invariant.1, omega arith, omega arith, c.requires.2, c.requires.5, c.requires.6, c.requires.7)

pub chosen-usage-requires : goal.chosen-usage-requires
chosen-usage-requires c =
    let inv = c.loop-i.invariant in
    let m = c.forward_block-covering.ensures.number in
    let k = c.loop-j.j * (c.args.tall / 4) + c.loop-i.i in
    let l = inside (goal.at.chosen-usage-requires c).In-loop-i in
    (m, omega (arith, counts_small c.loop-i.coverings (c.args.first + k) c.forward_block-covering.result (omega (arith, inv.0, l, c.requires.1)) m.0 m.1 c.loop-i.usage.counts inv.2.counted, blocks_few c.requires.0, l, c.requires.3))

pub loop-i-preserved : goal.loop-i-preserved
loop-i-preserved c =
    let inv = c.loop-i.invariant in
    let n = c.loop-j.j * (c.args.tall / 4) in
    let e : n + c.loop-i.i + 1 ≡ n + (c.loop-i.i + 1) = omega arith in (
      simp length-set inv.0,
      c.forward_block-covering.auto.out ∙ inv.1,
      walk_at e (walk_next c.requires.0 _ _ _ _ _ _ c.loop-i.i c.loop-j.j inv.2 refl (omega arith) (omega arith) _ _ _ inv.1 (omega (arith, inv.0, inside (goal.at.loop-i-preserved c).In-loop-i, c.requires.1)) c.forward_block-covering.ensures c.chosen-usage.ensures),
    )

pub loop-j-preserved : goal.loop-j-preserved
loop-j-preserved c =
    let inv = c.loop-i.invariant in
    let i : c.loop-i.i ≡ c.args.tall / 4 = omega arith in
    let e : c.loop-j.j * (c.args.tall / 4) + c.loop-i.i ≡ (c.loop-j.j + 1) * (c.args.tall / 4) = omega arith in
    (inv.0, inv.1, walk_at e inv.2)

pub returns : goal.returns
returns c =
    let j : c.loop-j.j ≡ c.args.wide / 4 = omega arith in
    walk_end c.requires.0 _ _ _ _ _ _ c.loop-j.invariant.2 (ap (λ (j : ℕ). j * (c.args.tall / 4)) j)
