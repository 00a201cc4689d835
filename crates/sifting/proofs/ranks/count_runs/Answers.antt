-- `sifting::ranks::count_runs` meets its contract: what is counted up to the place of the walk. Assumes nothing.
use mathlib.Core.Path.{◌≡◌, sym, ap, ◌∙◌, subst⁻¹}
use Prim.Native.Nat.{ℕ, ◌*◌, ◌-◌, ◌^◌, ◌≤◌}
use native.Mathlib.Omega.{arith}
use lib.IntN.{ℤ, pos, nat_abs}
use lib.ListN.{length, get_or}
use Rattle.integers.proofs.Signs.{kept}
use Rattle.pyramid.specs.Slices.{image_of}
use Rattle.quota.specs.Quota.{ranks}
use Rattle.sifting.proofs.Turns.{at_start, here_now, run_step, run_small, run_all}
use Rattle.sifting.proofs.ranks.count_runs.Goals as goal

pub first_tetrolet-k-requires : goal.first_tetrolet-k-requires
first_tetrolet-k-requires c = (c.requires.ready.sided, c.requires.ready.deep)

pub loop-k-init : goal.loop-k-init
loop-k-init c =
    let a = c.args in
    record { number = 0; place = at_start a.levels a.height a.width c.first_tetrolet-k.result c.first_tetrolet-k.ensures.inside c.first_tetrolet-k.ensures.result_value; long = c.requires.shift_bound.1.long; runs = c.requires.shift_bound.1.zeros }

pub index_of-i-requires : goal.index_of-i-requires
index_of-i-requires c = c.loop-k.invariant.place.inside

pub bounds-plane-i : goal.bounds-plane-i
bounds-plane-i c = omega (arith, c.index_of-i.ensures.1, c.requires.ready.long)

pub rank_of-r-requires : goal.rank_of-r-requires
rank_of-r-requires c =
    let l = c.loop-k in
    let h = here_now c.args.levels c.args.height c.args.width c.args.plane.now c.requires.ready l.k l.invariant.number l.invariant.place c.loop-k-test.true in
    let e = kept c.v-1.given ∙ ap (λ (j : ℕ). get_or c.args.plane.now j (pos 0)) (c.index_of-i.ensures.0 ∙ h.index) in
    record { levels_bound = (h.most, h.low, h.high); v_bound = subst⁻¹ (λ (z : ℤ). nat_abs z ≤ 2 * 4 ^ (l.k.level - 1) * 4095) e h.bound }

pub count_rank-requires : goal.count_rank-requires
count_rank-requires c = let l = c.loop-k in record { small = run_small c.args.levels c.args.height c.args.width c.args.base (2 ^ c.args.shift) c.args.plane.now c.requires.ready l.counts l.k l.invariant; shift_bound = c.requires.shift_bound.0 }

pub step-k-requires : goal.step-k-requires
step-k-requires c = (c.loop-k-test.true, c.loop-k.invariant.place.inside)

pub loop-k-smaller : goal.loop-k-smaller
loop-k-smaller c = let e = ap length c.step-k.ensures.entries in omega arith

pub loop-k-preserved : goal.loop-k-preserved
loop-k-preserved c =
    let l = c.loop-k in
    let h = here_now c.args.levels c.args.height c.args.width c.args.plane.now c.requires.ready l.k l.invariant.number l.invariant.place c.loop-k-test.true in
    let e = kept c.v-1.given ∙ ap (λ (j : ℕ). get_or c.args.plane.now j (pos 0)) (c.index_of-i.ensures.0 ∙ h.index) in
    let ranked : c.rank_of-r.result ≡ get_or (ranks c.args.levels c.args.height c.args.width (image_of c.args.height c.args.plane.now)) l.invariant.number 0
    = c.rank_of-r.ensures.0 ∙ ap (λ (z : ℤ). nat_abs z * 2 ^ (c.args.levels - l.k.level)) e ∙ sym h.rank in
    run_step c.args.levels c.args.height c.args.width c.args.base (2 ^ c.args.shift) c.args.plane.now c.requires.ready l.counts c.count_rank.new.counts l.k c.step-k.result l.invariant c.step-k.ensures c.rank_of-r.result ranked c.count_rank.ensures

pub returns : goal.returns
returns c = let l = c.loop-k in run_all c.args.levels c.args.height c.args.width c.args.base (2 ^ c.args.shift) c.args.plane.now c.requires.ready l.counts l.k l.invariant (omega (arith, c.loop-k-test.false))
