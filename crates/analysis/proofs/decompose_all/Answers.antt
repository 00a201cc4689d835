-- `analysis::decompose_all` meets its contract: the descent of proofs/Descend.antt. Assumes nothing.
use mathlib.Core.Path.{◌≡◌, sym, ap, ◌∙◌, subst, subst⁻¹}
use mathlib.Core.List.{List}
use Prim.Native.Nat.{ℕ, suc, ◌+◌, ◌*◌, ◌-◌, ◌/◌, ◌^◌}
use native.Mathlib.Nat.{le_trans, le_of_eq}
use native.Mathlib.Omega.{arith}
use lib.IntN.{ℤ, pos}
use lib.ListN.{replicate}
use Rattle.terms.specs.Terms.{among}
use Rattle.pyramid.specs.Plane.{Chooser}
use Rattle.analysis.proofs.Bandwise.{blocks_few}
use Rattle.analysis.proofs.Descend.{Descended, worked_region, worked_room, worked_few, worked_end, descend_start, descend_small, descend_step, descend_covers, allowed_first, allowed_next, allowed_small, levelled_as}
use Rattle.pyramid.proofs.Choose.{by_terms, terms_read}
use Rattle.pyramid.proofs.Sides.{sized, sized_fits, side_small, levels_small}
use Rattle.analysis.proofs.decompose_all.Goals as goal

-- the descent with a level to go
next : {rule : ℕ → Chooser} {R H W : ℕ} {s : List ℕ} {plane : List ℤ} {cov counts : List ℕ} {tall wide first : ℕ} (left left' : ℕ) → left ≡ suc left' → Descended rule R H W s plane cov counts tall wide first left → Descended rule R H W s plane cov counts tall wide first (suc left')
next {rule} {R} {H} {W} {s} {plane} {cov} {counts} {tall} {wide} {first} left left' e d = subst (λ (n : ℕ). Descended rule R H W s plane cov counts tall wide first n) e d

-- and with all of them
begun : {rule : ℕ → Chooser} {R H W : ℕ} {s : List ℕ} {plane : List ℤ} {cov counts : List ℕ} {tall wide first : ℕ} (left : ℕ) → Descended rule R H W s plane cov counts tall wide first left → Descended rule R H W s plane cov counts tall wide first (left - 0)
begun {rule} {R} {H} {W} {s} {plane} {cov} {counts} {tall} {wide} {first} left d = let e : left ≡ left - 0 = omega arith in subst (λ (n : ℕ). Descended rule R H W s plane cov counts tall wide first n) e d

-- the descent with no level to go
last : {rule : ℕ → Chooser} {R H W : ℕ} {s : List ℕ} {plane : List ℤ} {cov counts : List ℕ} {tall wide first : ℕ} (left : ℕ) → left ≡ 0 → Descended rule R H W s plane cov counts tall wide first left → Descended rule R H W s plane cov counts tall wide first 0
last {rule} {R} {H} {W} {s} {plane} {cov} {counts} {tall} {wide} {first} left e d = subst (λ (n : ℕ). Descended rule R H W s plane cov counts tall wide first n) e d

pub needed_by-needed-requires : goal.needed_by-needed-requires
needed_by-needed-requires c = c.requires.by_index.2

pub widen-requires : goal.widen-requires
widen-requires c = c.requires.samples_len.1 ∙ sym c.requires.samples_len.0

pub overflow_mul-slack : goal.overflow_mul-slack
overflow_mul-slack c = omega (arith, c.requires.by_index.1)

pub loop-init : goal.loop-init
loop-init c =
    let z = sized c.args.levels c.args.height c.args.width c.requires.t.0 c.requires.t.1 c.requires.t.2 in (
      levels_small z,
      side_small z.tall,
      side_small z.wide,
      c.widen.auto.to ∙ c.requires.samples_len.1,
      c.requires.samples_len.2,
      c.requires.samples_len.3,
      subst⁻¹ (λ (p : List ℤ). Descended (by_terms (among c.args.tolerance c.args.list.now)) c.args.levels c.args.height c.args.width c.args.samples.now p c.args.coverings.now c.new-chosen.result.counts c.args.height c.args.width 0 (c.args.levels - 0)) c.widen.ensures
          (begun c.args.levels (descend_start (by_terms (among c.args.tolerance c.args.list.now)) c.args.levels c.args.height c.args.width c.args.samples.now c.args.coverings.now _ (sized_fits z) c.requires.by_index.0 c.new-chosen.ensures)),
      c.requires.by_index.1,
      allowed_first c.args.tolerance,
      c.requires.by_index.2,
      c.needed_by-needed.ensures,
    )

pub forward_level-chosen-requires : goal.forward_level-chosen-requires
forward_level-chosen-requires c =
    let inv = c.loop.invariant in
    let d = next (c.args.levels - c.loop.counter) (c.args.levels - (c.loop.counter + 1)) (omega arith) inv.6 in
    (worked_region _ _ inv.1 inv.2 inv.3 inv.5 d.worked, rw inv.4 (worked_room _ _ _ _ _ _ _ _ _ _ _ d.worked), descend_small inv.0 d, worked_few _ _ _ _ _ _ _ _ _ _ _ inv.0 inv.1 inv.2 d.worked, d.counted, allowed_small _ _ c.loop.counter inv.7 (omega (arith, inv.0)) inv.8, inv.9, inv.10)

pub copy_rectangle-requires : goal.copy_rectangle-requires
copy_rectangle-requires c =
    let inv = c.loop.invariant in
    let d = next (c.args.levels - c.loop.counter) (c.args.levels - (c.loop.counter + 1)) (omega arith) inv.6 in
    let q = worked_region _ _ inv.1 inv.2 inv.3 inv.5 d.worked in
    (q.inside, le_trans q.stored (le_of_eq (sym c.forward_level-chosen.auto.out)), q.read)

pub overflow_mul-first : goal.overflow_mul-first
overflow_mul-first c =
    let inv = c.loop.invariant in
    let d = next (c.args.levels - c.loop.counter) (c.args.levels - (c.loop.counter + 1)) (omega arith) inv.6 in
    omega (arith, blocks_few (worked_region _ _ inv.1 inv.2 inv.3 inv.5 d.worked))

pub overflow_add-first : goal.overflow_add-first
overflow_add-first c =
    let inv = c.loop.invariant in
    let d = next (c.args.levels - c.loop.counter) (c.args.levels - (c.loop.counter + 1)) (omega arith) inv.6 in
    omega (arith, worked_room _ _ _ _ _ _ _ _ _ _ _ d.worked, inv.4, c.well_formed, c.requires.samples_len.2)

pub overflow_mul-slack-in-loop : goal.overflow_mul-slack-in-loop
overflow_mul-slack-in-loop c =
    let inv = c.loop.invariant in
    omega (arith, allowed_small _ _ c.loop.counter inv.7 (omega (arith, inv.0)) inv.8)

pub loop-preserved : goal.loop-preserved
loop-preserved c =
    let inv = c.loop.invariant in
    let d = next (c.args.levels - c.loop.counter) (c.args.levels - (c.loop.counter + 1)) (omega arith) inv.6 in
    let done-is : c.loop.counter ≡ d.done = omega (arith, d.worked.all) in
    let kept = c.forward_level-chosen.auto in (
      inv.0,
      inv.1,
      inv.2,
      c.copy_rectangle.auto.to ∙ inv.3,
      kept.coverings ∙ inv.4,
      kept.out ∙ inv.5,
      subst⁻¹ (λ (p : List ℤ). Descended (by_terms (among c.args.tolerance c.args.list.now)) c.args.levels c.args.height c.args.width c.args.samples.now p c.forward_level-chosen.new.coverings c.forward_level-chosen.result.counts (c.loop.tall / 2) (c.loop.wide / 2)
          (c.loop.first + c.loop.wide / 4 * (c.loop.tall / 4)) (c.args.levels - (c.loop.counter + 1))) c.copy_rectangle.ensures
          (descend_step (by_terms (among c.args.tolerance c.args.list.now)) (terms_read (among c.args.tolerance c.args.list.now)) _ _ _ _ _ _ _ _ _ _ _ d _ _ _ inv.3 (rw inv.4 (worked_room _ _ _ _ _ _ _ _ _ _ _ d.worked)) (levelled_as c.args.list.now (inv.8 ∙ ap (λ (n : ℕ). c.args.tolerance * 2 ^ suc n) done-is) c.forward_level-chosen.ensures)),
      inv.7,
      allowed_next c.args.tolerance _ c.loop.counter inv.8,
      inv.9,
      inv.10,
    )

pub shape_of-plane : goal.shape_of-plane
shape_of-plane c = omega (arith, c.loop.invariant.3, c.requires.samples_len.1)

pub shape_of-coverings : goal.shape_of-coverings
shape_of-coverings c = omega (arith, c.loop.invariant.4, c.requires.samples_len.2)

pub shape_of-scratch : goal.shape_of-scratch
shape_of-scratch c = omega (arith, c.clear.auto.s, c.loop.invariant.5, c.requires.samples_len.3)

pub returns : goal.returns
returns c =
    let inv = c.loop.invariant in
    let e : c.args.levels - c.loop.counter ≡ 0 = omega arith in
    let d = last _ e inv.6 in
    (worked_end _ _ _ _ _ _ _ _ _ _ inv.3 d.worked, descend_covers _ _ _ _ _ _ _ _ _ _ _ inv.4 d, c.clear.ensures ∙ ap (λ (n : ℕ). replicate n (pos 0)) inv.5)
