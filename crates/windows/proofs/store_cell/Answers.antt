-- `windows::store_cell` meets its contract. Assumes nothing.
use mathlib.Core.Path.{ap, ◌∙◌}
use Prim.Native.Nat.{◌+◌, ◌*◌, ◌-◌, ◌<◌}
use native.Mathlib.Omega.{arith}
use mir.Facts.{to_z-of_z}
use lib.ListN.{length}
use Rattle.pyramid.specs.Slices.{sample_of}
use Rattle.windows.proofs.Filling.{place_inside, stored}
use Rattle.windows.proofs.store_cell.Goals as goal

pub overflow_mul-place : goal.overflow_mul-place
overflow_mul-place c =
    let inside : (let a = c.args in (a.x - a.v.left) * a.v.tall + (a.y - a.v.top) < length a.samples.now) = let a = c.args in
    let p = c.requires.top_le_y in
    omega (arith, place_inside a.v a.y a.x p.0 p.1 p.2 p.3, c.requires.inside.1) in
    omega (arith, inside, c.well_formed)

pub overflow_add-place : goal.overflow_add-place
overflow_add-place c =
    let inside : (let a = c.args in (a.x - a.v.left) * a.v.tall + (a.y - a.v.top) < length a.samples.now) = let a = c.args in
    let p = c.requires.top_le_y in
    omega (arith, place_inside a.v a.y a.x p.0 p.1 p.2 p.3, c.requires.inside.1) in
    omega (arith, inside, c.well_formed)

pub offset_bounds-samples-place : goal.offset_bounds-samples-place
offset_bounds-samples-place c =
    let inside : (let a = c.args in (a.x - a.v.left) * a.v.tall + (a.y - a.v.top) < length a.samples.now) = let a = c.args in
    let p = c.requires.top_le_y in
    omega (arith, place_inside a.v a.y a.x p.0 p.1 p.2 p.3, c.requires.inside.1) in
    omega (arith, inside, c.well_formed)

pub bounds-samples-place : goal.bounds-samples-place
bounds-samples-place c =
    let inside : (let a = c.args in (a.x - a.v.left) * a.v.tall + (a.y - a.v.top) < length a.samples.now) = let a = c.args in
    let p = c.requires.top_le_y in
    omega (arith, place_inside a.v a.y a.x p.0 p.1 p.2 p.3, c.requires.inside.1) in
    omega (arith, inside, c.well_formed)

pub returns : goal.returns
returns c =
    let a = c.args in
    let p = c.requires.top_le_y in
    λ g e. stored a.v a.y a.x p.0 p.1 p.2 p.3 g a.samples.now c.requires.inside.1 (c.sample.ensures ∙ ap (sample_of a.levels) (to_z-of_z c.ranges.numerator) ∙ e)
