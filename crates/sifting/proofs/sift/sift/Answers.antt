-- `sifting::sift::sift` meets its contract: what is stored up to the place of the walk. Assumes nothing.
use mathlib.Core.Path.{refl, sym, ap, ◌∙◌, subst⁻¹}
use Prim.Native.Nat.{◌*◌, ◌-◌, ◌^◌, ◌≤◌}
use native.Mathlib.Nat.{mul-le-mul}
use native.Mathlib.Omega.{arith}
use lib.IntN.{ℤ, nat_abs}
use lib.ListN.{length}
use Rattle.integers.proofs.Signs.{kept}
use Rattle.sifting.proofs.Turns.{here_now, sift_start, sift-long, sift-small, sift-read, sift-step, sift-all}
use Rattle.sifting.proofs.sift.sift.Goals as goal

pub first_tetrolet-k-requires : goal.first_tetrolet-k-requires
first_tetrolet-k-requires c = (c.requires.sided, c.requires.deep)

pub loop-k-init : goal.loop-k-init
loop-k-init c = let a = c.args in sift_start a.levels a.height a.width a.limit a.ties a.plane.now c.requires _ c.first_tetrolet-k.result refl refl refl c.first_tetrolet-k.ensures.inside c.first_tetrolet-k.ensures.result_value

pub index_of-i-requires : goal.index_of-i-requires
index_of-i-requires c = c.loop-k.invariant.place.inside

pub offset_bounds-plane-i : goal.offset_bounds-plane-i
offset_bounds-plane-i c = omega (arith, c.index_of-i.ensures.1, mul-le-mul c.loop-k.invariant.place.inside.across c.loop-k.invariant.place.inside.down)

pub slice_copy_out-v : goal.slice_copy_out-v
slice_copy_out-v c = let l = c.loop-k in omega (arith, c.index_of-i.ensures.1, sift-long c.args.levels c.args.height c.args.width c.args.limit c.args.ties c.args.plane.now c.requires l.plane l.tally l.k l.invariant)

pub rank_of-r-requires : goal.rank_of-r-requires
rank_of-r-requires c =
    let l = c.loop-k in
    let t = c.loop-k-test.true in
    let h = here_now c.args.levels c.args.height c.args.width c.args.plane.now c.requires l.k l.invariant.number l.invariant.place t in
    let e = kept c.v-1.given ∙ sift-read c.args.levels c.args.height c.args.width c.args.limit c.args.ties c.args.plane.now c.requires l.plane l.tally l.k l.invariant t c.index_of-i.result c.index_of-i.ensures.0 in
    record { levels_bound = (h.most, h.low, h.high); v_bound = subst⁻¹ (λ (z : ℤ). nat_abs z ≤ 2 * 4 ^ (l.k.level - 1) * 4095) e h.bound }

pub entry-tally-requires : goal.entry-tally-requires
entry-tally-requires c = let l = c.loop-k in omega (arith, sift-small c.args.levels c.args.height c.args.width c.args.limit c.args.ties c.args.plane.now c.requires l.plane l.tally l.k l.invariant)

pub offset_bounds-plane-i-in-loop-k : goal.offset_bounds-plane-i-in-loop-k
offset_bounds-plane-i-in-loop-k c = omega (arith, c.index_of-i.ensures.1, mul-le-mul c.loop-k.invariant.place.inside.across c.loop-k.invariant.place.inside.down)

pub bounds-plane-i : goal.bounds-plane-i
bounds-plane-i c = let l = c.loop-k in omega (arith, c.index_of-i.ensures.1, sift-long c.args.levels c.args.height c.args.width c.args.limit c.args.ties c.args.plane.now c.requires l.plane l.tally l.k l.invariant)

pub step-k-requires : goal.step-k-requires
step-k-requires c = (c.loop-k-test.true, c.loop-k.invariant.place.inside)

pub loop-k-smaller : goal.loop-k-smaller
loop-k-smaller c = let e = ap length c.step-k.ensures.entries in omega arith

pub loop-k-preserved : goal.loop-k-preserved
loop-k-preserved c =
    let l = c.loop-k in
    let i = c.index_of-i in
    let v = kept c.v-1.given in
    sift-step c.args.levels c.args.height c.args.width c.args.limit c.args.ties c.args.plane.now c.requires l.plane l.tally l.k l.invariant c.step-k.result c.entry-tally.result i.result c.rank_of-r.result _ _
    c.loop-k-test.true c.step-k.ensures i.ensures.0 v c.rank_of-r.ensures.0 c.entry-tally.ensures (kept c.stored.type_inv ∙ c.stored.ensures)

pub shape_of-plane : goal.shape_of-plane
shape_of-plane c = let l = c.loop-k in sift-long c.args.levels c.args.height c.args.width c.args.limit c.args.ties c.args.plane.now c.requires l.plane l.tally l.k l.invariant ∙ sym c.requires.long

pub returns : goal.returns
returns c = let l = c.loop-k in sift-all c.args.levels c.args.height c.args.width c.args.limit c.args.ties c.args.plane.now c.requires l.plane l.tally l.k l.invariant (omega (arith, c.loop-k-test.false))
