-- `given::decompose_by` meets its contract: the descent by given coverings of analysis/proofs/Descend.antt. Assumes nothing.
use mathlib.Core.Path.{◌≡◌, sym, ◌∙◌, subst, subst⁻¹}
use mathlib.Core.List.{List}
use Prim.Native.Nat.{ℕ, suc, ◌+◌, ◌-◌, ◌/◌}
use native.Mathlib.Nat.{le_trans, le_of_eq}
use native.Mathlib.Omega.{arith}
use lib.IntN.{ℤ}
use lib.ListN.{length}
use Rattle.pyramid.specs.Plane.{Image, listed, blocks}
use Rattle.pyramid.specs.Slices.{image_of}
use Rattle.analysis.specs.Analysis.{Region}
use Rattle.analysis.proofs.Bandwise.{blocks_few, all_few}
use Rattle.analysis.proofs.Descend.{worked_region, worked_room, worked_end}
use Rattle.given.proofs.Modest.{Given, given_start, given_small, given_numbers, given_step}
use Rattle.given.proofs.decompose_by.Goals as goal
use Rattle.given.proofs.decompose_by.Goals.{In-loop}

-- the descent with all levels to go
begun : {R H W : ℕ} {cs : ℕ → ℕ} {A : Image} {plane : List ℤ} {tall wide first : ℕ} (left : ℕ) → Given R H W cs A plane tall wide first left → Given R H W cs A plane tall wide first (left - 0)
begun {R} {H} {W} {cs} {A} {plane} {tall} {wide} {first} left d = let e : left ≡ left - 0 = omega arith in subst (λ (n : ℕ). Given R H W cs A plane tall wide first n) e d

-- with one at least
next : {R H W : ℕ} {cs : ℕ → ℕ} {A : Image} {plane : List ℤ} {tall wide first : ℕ} (left left' : ℕ) → left ≡ suc left' → Given R H W cs A plane tall wide first left → Given R H W cs A plane tall wide first (suc left')
next {R} {H} {W} {cs} {A} {plane} {tall} {wide} {first} left left' e d = subst (λ (n : ℕ). Given R H W cs A plane tall wide first n) e d

-- the descent with no level to go
last : {R H W : ℕ} {cs : ℕ → ℕ} {A : Image} {plane : List ℤ} {tall wide first : ℕ} (left : ℕ) → left ≡ 0 → Given R H W cs A plane tall wide first left → Given R H W cs A plane tall wide first 0
last {R} {H} {W} {cs} {A} {plane} {tall} {wide} {first} left e d = subst (λ (n : ℕ). Given R H W cs A plane tall wide first n) e d

deeper-at : (c : goal.In-loop) → let l = c.loop in let a = c.args in Given a.levels a.height a.width (listed a.coverings.now) (image_of a.height a.image.now) l.image l.tall l.wide l.first (suc (a.levels - (l.counter + 1)))
deeper-at c = next (c.args.levels - c.loop.counter) (c.args.levels - (c.loop.counter + 1)) (omega arith) c.loop.invariant.2

region-at : (c : goal.In-loop) → let l = c.loop in Region c.args.height l.tall l.wide (length l.image) (length l.work)
region-at c = let inv = c.loop.invariant in worked_region _ _ c.requires.fits.2 c.requires.fits.3 inv.0 inv.1 (deeper-at c).worked

pub loop-init : goal.loop-init
loop-init c =
    (c.requires.coverings_len.1, c.requires.coverings_len.2, begun c.args.levels (given_start c.args.levels c.args.height c.args.width (listed c.args.coverings.now) c.args.image.now c.requires.fits.0 c.requires.numbers.1))

pub level_by-requires : goal.level_by-requires
level_by-requires c =
    let deeper = deeper-at (goal.at.level_by-requires c).In-loop in
    let region = region-at (goal.at.level_by-requires c).In-loop in
    record { numbers = given_numbers _ _ _ _ _ _ _ _ _ _ c.requires.numbers.0 deeper; region = (region, rw c.requires.coverings_len.0 (worked_room _ _ _ _ _ _ _ _ _ _ _ deeper.worked), given_small c.requires.fits.1 deeper) }

pub copy_rectangle-requires : goal.copy_rectangle-requires
copy_rectangle-requires c =
    let deeper = deeper-at (goal.at.copy_rectangle-requires c).In-loop in
    let region = region-at (goal.at.copy_rectangle-requires c).In-loop in
    let q = region in
    (q.inside, le_trans q.stored (le_of_eq (sym c.level_by.auto.out)), q.read)

pub overflow_mul-first : goal.overflow_mul-first
overflow_mul-first c =
    let deeper = deeper-at (goal.at.overflow_mul-first c).In-loop in
    let region = region-at (goal.at.overflow_mul-first c).In-loop in
    omega (arith, blocks_few region)

pub overflow_add-first : goal.overflow_add-first
overflow_add-first c =
    let deeper = deeper-at (goal.at.overflow_add-first c).In-loop in
    omega (arith, worked_room _ _ _ _ _ _ _ _ _ _ _ deeper.worked, c.requires.fits.1, all_few c.args.levels c.args.height c.args.width c.requires.fits.2 c.requires.fits.3)

pub loop-preserved : goal.loop-preserved
loop-preserved c =
    let deeper = deeper-at (goal.at.loop-preserved c).In-loop in
    let loop = c.loop in
    let inv = loop.invariant in (
      c.copy_rectangle.auto.to ∙ inv.0,
      c.level_by.auto.out ∙ inv.1,
      subst⁻¹ (λ (p : List ℤ). Given c.args.levels c.args.height c.args.width (listed c.args.coverings.now) (image_of c.args.height c.args.image.now) p (loop.tall / 2) (loop.wide / 2) (loop.first + blocks loop.tall loop.wide) (c.args.levels - (loop.counter + 1))) c.copy_rectangle.ensures
          (given_step _ _ _ _ _ _ _ _ _ _ deeper _ inv.0 c.level_by.ensures),
    )

pub shape_of-image : goal.shape_of-image
shape_of-image c = omega (arith, c.loop.invariant.0, c.requires.coverings_len.1)

pub shape_of-work : goal.shape_of-work
shape_of-work c = omega (arith, c.loop.invariant.1, c.requires.coverings_len.2)

pub returns : goal.returns
returns c =
    let inv = c.loop.invariant in
    let e : c.args.levels - c.loop.counter ≡ 0 = omega arith in
    worked_end _ _ _ _ _ _ _ _ _ _ inv.0 (last _ e inv.2).worked
